-- What is found behind the base of a name, an index or a call.
use Rattle.std.proofs.Common.{◌≡◌, ℕ, ◌+◌, ◌-◌, ◌<◌, ◌⊎◌, inl, inr, Bool, true, false, List, ◌∷◌, ◌++◌, Option, Some, None, refl, ap, ◌∙◌, arith, length}
use Rattle.wjs_base.specs.declared.ids.NodeId.{NodeId}
use Rattle.wjs_tree.specs.declared.tokens.Token.{Token}
use Rattle.wjs_tree.specs.declared.tokens.Token.TheVariants as tokens
use Rattle.wjs_tree.specs.declared.node.Spelt.{Spelt}
use Rattle.wjs_tree.specs.declared.node.Spelt.TheVariants as spelts
use Rattle.wjs_tree.specs.Spelling.{spelt_token}
use Rattle.wjs_parse_expr.specs.Answers.{Origin}
use Rattle.wjs_tree.proofs.Kept.{keeps_both}
use Rattle.wjs_tree.specs.declared.signs.Sign.{Sign}
use Rattle.wjs_tree.specs.declared.signs.Sign.TheVariants as signs
use Rattle.wjs_tree.specs.declared.tokens.Tok.{Tok}
use Rattle.wjs_tree.specs.declared.node.Node.{Node}
use Rattle.wjs_tree.specs.declared.node.Node.TheVariants as nodes
use Rattle.wjs_parse_expr.specs.declared.parts.Part.{Part}
use Rattle.wjs_parse_expr.specs.declared.parts.Listed.{Listed}
use Rattle.wjs_tree.specs.Trees.{Expr, Dot, At, Call}
use Rattle.wjs_parse_expr.specs.Reach.{reach}
use Rattle.wjs_parse_expr.specs.Readings.{Reading}
use Rattle.wjs_tree.specs.Ends.{token_at, HasSign}
use Rattle.wjs_tree.specs.Shows.{Keeps, Has}
use Rattle.std.proofs.lemmas.Option.{slice_get_within}
use Rattle.wjs_tree.proofs.Forward.{forward, arguments_forward}
use Rattle.wjs_parse_expr.specs.declared.functions.Functions.{Functions}
use Rattle.wjs_parse_expr.specs.Answers.{Best, Finds, Lists, Grows, from}
use Rattle.wjs_parse_expr.proofs.Owning.{own_left, own_pair}
use Rattle.wjs_parse_expr.specs.Steps.{SuffixStep, DotStep, AtStep, CallStep}
use Rattle.wjs_parse_expr.specs.Readings.{Continues}
use Rattle.wjs_tree.proofs.Kept.{kept, arguments_kept}

-- two signs at one place
pub two_signs : (o : Option Token) (a b : Sign) → o ≡ Some (tokens.Sign a) → o ≡ Some (tokens.Sign b) → a ≡ b
two_signs o a b p q = cc

spelt_back : Token → Option Spelt
spelt_back (tokens.Word x) = Some (spelts.Word x)
spelt_back (tokens.Key k) = Some (spelts.Key k)
spelt_back _ = None

spelt_same : (x : Spelt) → spelt_back (spelt_token x) ≡ Some x
unfolding spelt_back
spelt_same (spelts.Word x) = refl
spelt_same (spelts.Key k) = refl

-- a token spells one name
same_spelt : (o : Option Token) (a b : Spelt) → o ≡ Some (spelt_token a) → o ≡ Some (spelt_token b) → a ≡ b
same_spelt o a b p q =
    let t : spelt_token a ≡ spelt_token b = cc in
    let x = spelt_same a in let y = spelt_same b in let z : spelt_back (spelt_token a) ≡ spelt_back (spelt_token b) = ap spelt_back t in cc

dot_first : (toks : List Tok) (calls : Bool) (room : ℕ) (f : ℕ) (name : Spelt) (y y' : Expr) (f' : ℕ)
    → HasSign toks f signs.Dot → token_at toks (f + 1) ≡ Some (spelt_token name) → DotStep toks y f y' f' ⊎ (AtStep toks room y f y' f' ⊎ ((calls ≡ true) × CallStep toks room y f y' f'))
    → ((y' ≡ Dot y name) × (f' ≡ f + 2)) ⊎ ((f' < f + 2) × ⊥)
dot_first toks calls room f name y y' f' sign word (inl d) = inl (let a = d.is in let b = same_spelt _ d.name name d.word word in cc, d.ends)
dot_first toks calls room f name y y' f' sign word (inr (inl d)) = absurd (let e : signs.Dot ≡ signs.OpenBracket = two_signs _ signs.Dot signs.OpenBracket sign d.sign in cc)
dot_first toks calls room f name y y' f' sign word (inr (inr d)) = absurd (let e : signs.Dot ≡ signs.OpenParen = two_signs _ signs.Dot signs.OpenParen sign d.1.sign in cc)

pub dot_grows : (toks : List Tok) (calls : Bool) (room : ℕ) (functions : Functions) (left : Part) (name : Spelt) (node : NodeId) (a c : List Node)
    → HasSign toks left.next signs.Dot → token_at toks (left.next + 1) ≡ Some (spelt_token name) → 0 < room
    → Keeps a c → Has c node (nodes.Dot left.node name) → node.0 ≡ length a
    → Grows functions (SuffixStep toks calls room) (λ y p. ⊥) a c left (record { node = node; next = left.next + 2; is_target = true })
dot_grows toks calls room functions left name node a c sign word below k has fresh = record {
  whole = λ y. Dot y name;
  part = λ q y z s. record {
    used = node.0 ∷ s.used;
    shows = (left.node, s.used, has, refl, kept a c k y left.node s.used s.shows);
    own = own_left functions q a left.next z c (left.next + 2) node s.used k fresh (slice_get_within c node.0 _ has) (omega arith) s.own;
    is_target = refl;
  };
  step = λ y. record { below = below; kind = inl (record { name = name; is = refl; sign = sign; word = word; ends = refl }) };
  first = λ y y' f' s. dot_first toks calls room left.next name y y' f' sign word s.kind;
}

at_first : (toks : List Tok) (calls : Bool) (room : ℕ) (f next : ℕ) (place : Expr) (y y' : Expr) (f' : ℕ)
    → HasSign toks f signs.OpenBracket → HasSign toks next signs.CloseBracket → Best toks 0 false (room - 1) (f + 1) place next
    → DotStep toks y f y' f' ⊎ (AtStep toks room y f y' f' ⊎ ((calls ≡ true) × CallStep toks room y f y' f'))
    → ((y' ≡ At y place) × (f' ≡ next + 1)) ⊎ ((f' < next + 1) × ⊥)
at_first toks calls room f next place y y' f' sign close best (inl d) = absurd (let e : signs.Dot ≡ signs.OpenBracket = two_signs _ signs.Dot signs.OpenBracket d.sign sign in cc)
at_first toks calls room f next place y y' f' sign close best (inr (inr d)) = absurd (let e : signs.OpenParen ≡ signs.OpenBracket = two_signs _ signs.OpenParen signs.OpenBracket d.1.sign sign in cc)
at_first toks calls room f next place y y' f' sign close best (inr (inl d)) = same (best.longest d.place d.close d.reading)
  where
    same : ((d.place ≡ place) × (d.close ≡ next)) ⊎ ((d.close < next) × Continues toks 0 false d.place d.close) → ((y' ≡ At y place) × (f' ≡ next + 1)) ⊎ ((f' < next + 1) × ⊥)
    same (inl e) = inl (let a = d.is in let b = e.0 in cc, d.ends ∙ ap (λ n. n + 1) e.1)
    same (inr l) = absurd (let h : reach false (token_at toks d.close) ≡ 0 = ap (reach false) d.close_sign in omega (arith, l.1.0))

pub at_grows : (toks : List Tok) (calls : Bool) (room : ℕ) (functions : Functions) (left place : Part) (node : NodeId) (a b c : List Node)
    → HasSign toks left.next signs.OpenBracket → HasSign toks place.next signs.CloseBracket → 0 < room
    → Keeps a b → Keeps b c → Finds (from toks functions a (left.next + 1)) toks 0 false (room - 1) (left.next + 1) b place → Has c node (nodes.At left.node place.node) → node.0 ≡ length b
    → Grows functions (SuffixStep toks calls room) (λ y p. ⊥) a c left (record { node = node; next = place.next + 1; is_target = true })
at_grows toks calls room functions left place node a b c sign close below k l f has fresh = record {
  whole = λ y. At y f.tree;
  part = λ q y z s. record {
    used = node.0 ∷ (s.used ++ f.part.used);
    shows = (left.node, place.node, s.used, f.part.used, has, refl, kept a c (keeps_both a b c k l) y left.node s.used s.shows, kept b c l f.tree place.node f.part.used f.part.shows);
    own = (let h = forward toks f.tree (left.next + 1) place.next f.best.reading.stands in own_pair functions q a left.next z b c (left.next + 1) place.next (place.next + 1) node s.used f.part.used k l fresh (slice_get_within c node.0 _ has) (omega arith) (omega arith) (omega arith) s.own f.part.own);
    is_target = refl;
  };
  step = λ y. record {
    below = below;
    kind = inr (inl (record { place = f.tree; close = place.next; is = refl; sign = sign; reading = f.best.reading; close_sign = close; ends = refl }));
  };
  first = λ y y' f' s. at_first toks calls room left.next place.next f.tree y y' f' sign close f.best s.kind;
}

call_first : (toks : List Tok) (calls : Bool) (room : ℕ) (f : ℕ) (o : Origin) (ns : List Node) (items : Listed) (l : Lists o toks room (f + 1) ns items) (y y' : Expr) (f' : ℕ)
    → HasSign toks f signs.OpenParen
    → DotStep toks y f y' f' ⊎ (AtStep toks room y f y' f' ⊎ ((calls ≡ true) × CallStep toks room y f y' f'))
    → ((y' ≡ Call y l.trees) × (f' ≡ items.next + 1)) ⊎ ((f' < items.next + 1) × ⊥)
call_first toks calls room f o ns items l y y' f' sign (inl d) = absurd (let e : signs.Dot ≡ signs.OpenParen = two_signs _ signs.Dot signs.OpenParen d.sign sign in cc)
call_first toks calls room f o ns items l y y' f' sign (inr (inl d)) = absurd (let e : signs.OpenBracket ≡ signs.OpenParen = two_signs _ signs.OpenBracket signs.OpenParen d.sign sign in cc)
call_first toks calls room f o ns items l y y' f' sign (inr (inr d)) =
    let e = l.only d.1.arguments d.1.close d.1.listing in
    inl (let a = d.1.is in let b = e.0 in cc, d.1.ends ∙ ap (λ n. n + 1) e.1)

pub call_grows : (toks : List Tok) (calls : Bool) (room : ℕ) (functions : Functions) (left : Part) (items : Listed) (node : NodeId) (a b c : List Node)
    → calls ≡ true → HasSign toks left.next signs.OpenParen → 0 < room
    → Keeps a b → Keeps b c → Lists (from toks functions a (left.next + 1)) toks room (left.next + 1) b items → Has c node (nodes.Call left.node items.list) → node.0 ≡ length b
    → Grows functions (SuffixStep toks calls room) (λ y p. ⊥) a c left (record { node = node; next = items.next + 1; is_target = false })
call_grows toks calls room functions left items node a b c yes_calls sign below k l f has fresh = record {
  whole = λ y. Call y f.trees;
  part = λ q y z s. record {
    used = node.0 ∷ (s.used ++ f.used);
    shows = (left.node, items.list, s.used, f.used, has, refl, kept a c (keeps_both a b c k l) y left.node s.used s.shows, arguments_kept b c l f.trees items.list f.used f.show);
    own = (let h = arguments_forward toks f.trees (left.next + 1) items.next f.listing.stands in own_pair functions q a left.next z b c (left.next + 1) items.next (items.next + 1) node s.used f.used k l fresh (slice_get_within c node.0 _ has) (omega arith) (omega arith) (omega arith) s.own f.own);
    is_target = refl;
  };
  step = λ y. record {
    below = below;
    kind = inr (inr (yes_calls, record { arguments = f.trees; close = items.next; is = refl; sign = sign; listing = f.listing; ends = refl }));
  };
  first = λ y y' f' s. call_first toks calls room left.next (from toks functions a (left.next + 1)) b items f y y' f' sign s.kind;
}

-- no index is read
pub no_index : (toks : List Tok) (calls : Bool) (room f : ℕ) → HasSign toks f signs.OpenBracket → ((u : Expr) (m : ℕ) → Reading toks 0 false (room - 1) (f + 1) u m → ⊥) → (y y' : Expr) (f' : ℕ) → SuffixStep toks calls room y f y' f' → ⊥
no_index toks calls room f sign none y y' f' s = kind s.kind
  where
    kind : DotStep toks y f y' f' ⊎ (AtStep toks room y f y' f' ⊎ ((calls ≡ true) × CallStep toks room y f y' f')) → ⊥
    kind (inl d) = let e : signs.Dot ≡ signs.OpenBracket = two_signs _ signs.Dot signs.OpenBracket d.sign sign in cc
    kind (inr (inl d)) = none d.place d.close d.reading
    kind (inr (inr d)) = let e : signs.OpenParen ≡ signs.OpenBracket = two_signs _ signs.OpenParen signs.OpenBracket d.1.sign sign in cc

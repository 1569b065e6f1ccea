-- Chains of names, indices and calls, and what `new` makes.
use Rattle.std.proofs.Common.{◌≡◌, ℕ, ◌+◌, ◌-◌, ◌<◌, ◌≤◌, ◌⊎◌, inl, inr, min, length, Bool, true, false, List, ◌∷◌, ◌++◌, Some, refl, sym, ap, ◌∙◌, subst, arith}
use Rattle.wjs_base.specs.declared.ids.NodeId.{NodeId}
use Rattle.wjs_tree.specs.declared.tokens.Token.{Token}
use Rattle.wjs_tree.specs.declared.tokens.Token.TheVariants as tokens
use Rattle.wjs_tree.specs.declared.signs.Sign.TheVariants as signs
use Rattle.wjs_tree.specs.declared.tokens.Tok.{Tok}
use Rattle.wjs_tree.specs.declared.node.Node.{Node}
use Rattle.wjs_tree.specs.declared.node.Node.TheVariants as nodes
use Rattle.wjs_parse_expr.specs.declared.parts.Part.{Part}
use Rattle.wjs_parse_expr.specs.declared.parts.Listed.{Listed}
use Rattle.wjs_tree.specs.Trees.{Expr, Arguments, Name, Number, Text, This, ThisWorld, Null, Boolean, Paren, ArrayLit, ObjectLit, Function, Dot, At, Call, NewWith, NewBare, Binary}
use Rattle.wjs_parse_expr.specs.Reach.{reach, token_reach}
use Rattle.wjs_tree.specs.Levels.{is_bare, level}
use Rattle.wjs_parse_expr.specs.Readings.{edge, Reading, Continues}
use Rattle.wjs_tree.specs.Formed.{WellFormed}
use Rattle.wjs_tree.specs.Ends.{token_at, HasSign, HasKey}
use Rattle.wjs_tree.specs.Shows.{Keeps, Has}
use Rattle.wjs_parse_expr.specs.Answers.{Nothing, IsPart, Finds, Lists, Begun, Grows, FindsHead, FindsChain}
use Rattle.wjs_parse_expr.specs.Steps.{SuffixStep, DotStep, AtStep, CallStep, Listing, chain_level, InChain, IsHead}
use Rattle.wjs_tree.proofs.Kept.{kept, arguments_kept, keeps_both, keeps_self}
use Rattle.wjs_parse_expr.proofs.Reach.{binary_bounds, reach_max}
use Rattle.wjs_parse_expr.specs.Answers.{Origin, from}
use Rattle.std.proofs.lemmas.Option.{slice_get_within}
use Rattle.wjs_parse_expr.specs.declared.functions.Functions.{Functions}
use Rattle.wjs_parse_expr.specs.Table.{Holds}
use Rattle.wjs_parse_expr.proofs.Owning.{own_wide, own_top, own_under}
use Rattle.wjs_parse_expr.proofs.Readings.{edge_high, same_token, lower, token_within, height_positive, part_kept}
use Rattle.wjs_tree.proofs.Forward.{forward, arguments_forward}
use Rattle.wjs_tree.specs.declared.keys.Key.{Key}
use Rattle.wjs_tree.specs.declared.keys.Key.TheVariants as keys
use Rattle.wjs_tree.proofs.Levels.{bare_level, new_level}
use Rattle.wjs_parse_expr.specs.declared.parts.Head.{Head}
use Rattle.wjs_parse_expr.proofs.Chain.{Chain, Ahead, Apart, begin, go_on, finish, one_more}
use Rattle.wjs_parse_expr.proofs.Chain.Chain.{done}

pub chain_low : (calls : Bool) → (16 ≤ chain_level calls) × (chain_level calls ≤ 17)
chain_low true = omega arith
chain_low false = omega arith

calls_meant : (calls : Bool) → chain_level calls ≤ 16 → calls ≡ true
calls_meant true h = refl
calls_meant false h = absurd (omega arith)

not_bare : (t : Expr) → 16 ≤ level t → is_bare t ≡ false
not_bare (NewBare f) h = absurd (omega arith)
not_bare _ h = refl

in_level : (calls : Bool) (t : Expr) → InChain calls t → is_bare t ≡ false → chain_level calls ≤ level t
in_level calls t (inl h) e = h
in_level calls t (inr h) e = cc

-- a step of a chain
abbrev pub ChainStep : List Tok → Bool → ℕ → Expr → ℕ → Expr → ℕ → Type 0
ChainStep toks calls room y f y' f' = (chain_level calls ≤ level y) × SuffixStep toks calls room y f y' f'

abbrev pub InClass : List Tok → Bool → Bool → ℕ → ℕ → Expr → ℕ → Type 0
InClass toks calls no_in room i t n = Reading toks 15 no_in room i t n × InChain calls t

abbrev pub InBase : List Tok → Bool → ℕ → ℕ → Expr → ℕ → Type 0
InBase toks no_in room i t n = Reading toks 15 no_in room i t n × IsHead t

abbrev pub ContinuesChain : List Tok → Bool → Bool → Expr → ℕ → Type 0
ContinuesChain toks calls no_in t m = Continues toks (min (level t) (chain_level calls)) no_in t m

abbrev pub ContinuesHead : List Tok → Bool → Expr → ℕ → Type 0
ContinuesHead toks no_in t m = (is_bare t ≡ true) × (15 < reach no_in (token_at toks m))

abbrev pub ChainParts : List Tok → Bool → Bool → ℕ → ℕ → Expr → ℕ → Type 0
ChainParts toks calls no_in room i t n = (x : Expr) × (e : ℕ) × InBase toks no_in room i x e × Chain (ChainStep toks calls room) t n x e

pub chain_parts : (toks : List Tok) (calls no_in : Bool) (room i : ℕ) (t : Expr) (n : ℕ) → Reading toks 15 no_in room i t n → InChain calls t → ChainParts toks calls no_in room i t n
chain_parts toks calls no_in room i (Name x) n r c = (Name x, n, (r, inl (omega arith)), done)
chain_parts toks calls no_in room i (Number x) n r c = (Number x, n, (r, inl (omega arith)), done)
chain_parts toks calls no_in room i (Text x) n r c = (Text x, n, (r, inl (omega arith)), done)
chain_parts toks calls no_in room i This n r c = (This, n, (r, inl (omega arith)), done)
chain_parts toks calls no_in room i ThisWorld n r c = (ThisWorld, n, (r, inl (omega arith)), done)
chain_parts toks calls no_in room i Null n r c = (Null, n, (r, inl (omega arith)), done)
chain_parts toks calls no_in room i (Boolean x) n r c = (Boolean x, n, (r, inl (omega arith)), done)
chain_parts toks calls no_in room i (Paren x) n r c = (Paren x, n, (r, inl (omega arith)), done)
chain_parts toks calls no_in room i (ArrayLit x) n r c = (ArrayLit x, n, (r, inl (omega arith)), done)
chain_parts toks calls no_in room i (ObjectLit x) n r c = (ObjectLit x, n, (r, inl (omega arith)), done)
chain_parts toks calls no_in room i (Function x y z) n r c = (Function x y z, n, (r, inl (omega arith)), done)
chain_parts toks calls no_in room i (NewWith f xs) n r c = (NewWith f xs, n, (r, inr refl), done)
chain_parts toks calls no_in room i (NewBare f) n r c = (NewBare f, n, (r, inr refl), done)
chain_parts toks calls no_in room i (Dot e x) n r c =
    (let l = in_level calls (Dot e x) c refl in
    let low = chain_low calls in
    let le : chain_level calls ≤ level e = omega arith in
    let left : Reading toks 15 no_in room i e r.stands.0 = record { level = omega arith; formed = r.formed.1; height = r.height; stands = r.stands.1 } in
    let p = chain_parts toks calls no_in room i e r.stands.0 left (inl le) in (
      p.0,
      p.1,
      p.2,
      one_more (Dot e x) n p.3 (
        le,
        record {
          below = (let h = height_positive e in let h' = r.height in omega arith);
          kind = inl (record { name = x; is = refl; sign = r.stands.2; word = r.stands.3; ends = r.stands.4 });
        },
      ),
    ))
chain_parts toks calls no_in room i (At e j) n r c =
    (let l = in_level calls (At e j) c refl in
    let low = chain_low calls in
    let le : chain_level calls ≤ level e = omega arith in
    let left : Reading toks 15 no_in room i e r.stands.0 = record { level = omega arith; formed = r.formed.1; height = (let h = r.height in omega arith); stands = r.stands.2 } in
    let p = chain_parts toks calls no_in room i e r.stands.0 left (inl le) in (
      p.0,
      p.1,
      p.2,
      one_more (At e j) n p.3 (
        le,
        record {
          below = (let h = r.height in omega arith);
          kind = inr (inl (record {
            place = j;
            close = r.stands.1;
            is = refl;
            sign = r.stands.3;
            reading = record { level = omega arith; formed = r.formed.2; height = (let h = r.height in omega arith); stands = r.stands.4 };
            close_sign = r.stands.5;
            ends = r.stands.6;
          }));
        },
      ),
    ))
chain_parts toks calls no_in room i (Call f xs) n r c =
    (let l = in_level calls (Call f xs) c refl in
    let low = chain_low calls in
    let g = r.formed.0 in
    let le : chain_level calls ≤ level f = omega arith in
    let left : Reading toks 15 no_in room i f r.stands.0 = record { level = omega arith; formed = r.formed.1; height = (let h = r.height in omega arith); stands = r.stands.2 } in
    let p = chain_parts toks calls no_in room i f r.stands.0 left (inl le) in (
      p.0,
      p.1,
      p.2,
      one_more (Call f xs) n p.3 (
        le,
        record {
          below = (let h = height_positive f in let h' = r.height in omega arith);
          kind = inr (inr (
            calls_meant calls l,
            record {
              arguments = xs;
              close = r.stands.1;
              is = refl;
              sign = r.stands.3;
              listing = record { formed = r.formed.2; height = (let h = r.height in omega arith); stands = r.stands.4; closed = r.stands.5 };
              ends = r.stands.6;
            },
          ));
        },
      ),
    ))
chain_parts toks calls no_in room i (Binary a op b) n r c =
    absurd (let b = binary_bounds op in let l = r.level in omega arith)
chain_parts toks calls no_in room i t n r c = absurd (let l = r.level in omega arith)

reach_at : (toks : List Tok) (no_in : Bool) (p : ℕ) (t : Token) → token_at toks p ≡ Some t → reach no_in (token_at toks p) ≡ token_reach no_in t
reach_at toks no_in p t e = ap (reach no_in) e

-- the reach of the token that a step begins with
pub suffix_reach : (toks : List Tok) (calls no_in : Bool) (room : ℕ) (y : Expr) (p : ℕ) (y' : Expr) (p' : ℕ) → DotStep toks y p y' p' ⊎ (AtStep toks room y p y' p' ⊎ ((calls ≡ true) × CallStep toks room y p y' p'))
    → chain_level calls < reach no_in (token_at toks p)
suffix_reach toks calls no_in room y p y' p' (inl s) = let e = reach_at toks no_in p _ s.sign in let l = chain_low calls in omega arith
suffix_reach toks calls no_in room y p y' p' (inr (inl s)) = let e = reach_at toks no_in p _ s.sign in let l = chain_low calls in omega arith
suffix_reach toks calls no_in room y p y' p' (inr (inr (c, s))) = let e = reach_at toks no_in p _ s.sign in let l : chain_level calls ≡ 16 = ap chain_level c in omega arith

pub suffix_forward : (toks : List Tok) (calls : Bool) (room : ℕ) (y : Expr) (p : ℕ) (y' : Expr) (p' : ℕ) → DotStep toks y p y' p' ⊎ (AtStep toks room y p y' p' ⊎ ((calls ≡ true) × CallStep toks room y p y' p')) → (p < p') × (p < length toks)
suffix_forward toks calls room y p y' p' (inl s) = let e = s.ends in (omega arith, token_within toks p _ s.sign)
suffix_forward toks calls room y p y' p' (inr (inl s)) = let e = s.ends in let h = forward toks s.place (p + 1) s.close s.reading.stands in (omega arith, token_within toks p _ s.sign)
suffix_forward toks calls room y p y' p' (inr (inr (c, s))) = let e = s.ends in let h = arguments_forward toks s.arguments (p + 1) s.close s.listing.stands in (omega arith, token_within toks p _ s.sign)

pub suffix_grows : (toks : List Tok) (calls no_in : Bool) (room i : ℕ) (y : Expr) (p : ℕ) (y' : Expr) (p' : ℕ) → 0 < room → chain_level calls ≤ level y
    → Reading toks 15 no_in room i y p → DotStep toks y p y' p' ⊎ (AtStep toks room y p y' p' ⊎ ((calls ≡ true) × CallStep toks room y p y' p')) → Reading toks 15 no_in room i y' p' × (chain_level calls ≤ level y')
suffix_grows toks calls no_in room i y p y' p' below le r (inl s) =
    subst (λ (u : Expr). Reading toks 15 no_in room i u p' × (chain_level calls ≤ level u)) (sym s.is) (
      let low = chain_low calls in
          record {
            level = omega arith;
            formed = (omega arith, r.formed);
            height = r.height;
            stands = (p, r.stands, s.sign, s.word, s.ends);
          },
      (let low = chain_low calls in omega arith),
    )
suffix_grows toks calls no_in room i y p y' p' below le r (inr (inl s)) =
    subst (λ (u : Expr). Reading toks 15 no_in room i u p' × (chain_level calls ≤ level u)) (sym s.is) (
      let low = chain_low calls in
          record {
            level = omega arith;
            formed = (omega arith, r.formed, s.reading.formed);
            height = (let h = r.height in let h' = s.reading.height in omega arith);
            stands = (p, s.close, r.stands, s.sign, s.reading.stands, s.close_sign, s.ends);
          },
      (let low = chain_low calls in omega arith),
    )
suffix_grows toks calls no_in room i y p y' p' below le r (inr (inr (c, s))) =
    subst (λ (u : Expr). Reading toks 15 no_in room i u p' × (chain_level calls ≤ level u)) (sym s.is) (
      let low = chain_low calls in
          record {
            level = omega arith;
            formed = (omega arith, r.formed, s.listing.formed);
            height = (let h = r.height in let h' = s.listing.height in omega arith);
            stands = (p, s.close, r.stands, s.sign, s.listing.stands, s.listing.closed, s.ends);
          },
      (let l : chain_level calls ≡ 16 = ap chain_level c in omega arith),
    )

bare_edge : (t : Expr) → is_bare t ≡ true → edge t ≡ 18
bare_edge (NewBare f) h = refl
bare_edge _ h = cc

bare_continues : (toks : List Tok) (calls no_in : Bool) (y : Expr) (p : ℕ) → ContinuesHead toks no_in y p → ContinuesChain toks calls no_in y p
bare_continues toks calls no_in y p d =
    (let b = bare_level y d.0 in let c = chain_low calls in let h = d.1 in omega arith, (let e = bare_edge y d.0 in let z = reach_max no_in (token_at toks p) in omega arith), λ q. absurd (let h = d.1 in omega arith))

-- what the loop keeps of the left part
pub record Chaining (o : Origin) (toks : List Tok) (calls no_in : Bool) (room i : ℕ) (ns : List Node) (left : Part) : Type 0 where
  pub tree : Expr
  pub part : IsPart o ns left tree
  pub reading : Reading toks 15 no_in room i tree left.next
  pub high : chain_level calls ≤ level tree
  pub ahead : Ahead (ChainStep toks calls room) (InClass toks calls no_in room i) (ContinuesChain toks calls no_in) (ContinuesHead toks no_in) tree left.next

module _ (o : Origin) (toks : List Tok) (calls no_in : Bool) (room i : ℕ) where
  pub apart : Apart (ChainStep toks calls room) (InClass toks calls no_in room i) (ContinuesChain toks calls no_in) (ContinuesHead toks no_in)
  apart = record {
    weaker = λ y p d. bare_continues toks calls no_in y p d;
    no_step = λ y p y' p' d s. (let b = bare_level y d.0 in let c = chain_low calls in let h = s.0 in omega arith);
  }

  pub ahead_of : (ns : List Node) (h : Head) (f : FindsHead o toks no_in room i ns h) → Ahead (ChainStep toks calls room) (InClass toks calls no_in room i) (ContinuesChain toks calls no_in) (ContinuesHead toks no_in) f.tree h.part.next
  ahead_of ns h f =
      begin (ChainStep toks calls room) (InClass toks calls no_in room i) (ContinuesChain toks calls no_in) (ContinuesHead toks no_in) (InBase toks no_in room i) f.tree h.part.next apart
      (λ t n k. chain_parts toks calls no_in room i t n k.0 k.1) (λ x e b. f.best.longest x e b.0 b.1)

  pub head_level : (t : Expr) → IsHead t → is_bare t ≡ false → 17 ≤ level t
  head_level t (inl h) b = omega arith
  head_level (NewWith f xs) (inr h) b = omega arith
  head_level _ (inr h) b = cc

  unfoldable pub chain_begin : (ns : List Node) (h : Head) → FindsHead o toks no_in room i ns h → h.is_bare ≡ false → Chaining o toks calls no_in room i ns h.part
  chain_begin ns h f not = record {
    tree = f.tree;
    part = f.part;
    reading = f.best.reading;
    high = (let b = head_level f.tree f.best.head (sym f.is_bare ∙ not) in let c = chain_low calls in omega arith);
    ahead = ahead_of ns h f;
  }

  pub not_ahead : (y y' : Expr) (f f' : ℕ) (k : Expr) (n : ℕ) → ((y' ≡ k) × (f' ≡ n)) ⊎ ((f' < n) × ⊥) → ((y' ≡ k) × (f' ≡ n)) ⊎ ((f' < n) × ContinuesHead toks no_in y' f')
  not_ahead y y' f f' k n (inl s) = inl s
  not_ahead y y' f f' k n (inr l) = absurd l.1

  unfoldable pub chain_step : (old new : List Node) (left p : Part) → Begun o.functions o old left.next → Chaining o toks calls no_in room i old left → Grows o.functions (SuffixStep toks calls room) (λ y n. ⊥) old new left p → Chaining o toks calls no_in room i new p
  chain_step old new left p b g s =
      let one = s.step g.tree in
      let next = suffix_grows toks calls no_in room i g.tree left.next (s.whole g.tree) p.next one.below g.high g.reading one.kind in
      record {
        tree = s.whole g.tree;
        part = s.part o g.tree b g.part;
        reading = next.0;
        high = next.1;
        ahead = go_on (ChainStep toks calls room) (InClass toks calls no_in room i) (ContinuesChain toks calls no_in) (ContinuesHead toks no_in) g.tree left.next (s.whole g.tree) p.next apart
            (suffix_forward toks calls room g.tree left.next (s.whole g.tree) p.next one.kind).0
            (let r = suffix_reach toks calls no_in room g.tree left.next (s.whole g.tree) p.next one.kind in
            let low = chain_low calls in
            (omega arith, (let e = edge_high no_in g.tree g.reading.level g.reading.formed in let z = reach_max no_in (token_at toks left.next) in omega arith), λ q. absurd (omega arith)))
            (λ y' f' k. not_ahead g.tree y' left.next f' (s.whole g.tree) p.next (s.first g.tree y' f' k.1)) g.ahead;
      }

  pub chain_end : (old new : List Node) (left : Part) → Keeps old new → Chaining o toks calls no_in room i old left → ((y y' : Expr) (f' : ℕ) → SuffixStep toks calls room y left.next y' f' → ⊥) → FindsChain o toks calls no_in room i new (record { part = left; is_bare = false })
  chain_end old new left k g none = record {
    tree = g.tree;
    part = part_kept o old new k left g.tree g.part;
    is_bare = (let c = chain_low calls in let h = g.high in sym (not_bare g.tree (omega arith)));
    best = record {
      reading = g.reading;
      chain = inl g.high;
      longest = λ u m r c. finish (ChainStep toks calls room) (InClass toks calls no_in room i) (ContinuesChain toks calls no_in) (ContinuesHead toks no_in) g.tree left.next (λ y' f' s. none g.tree y' f' s.1) g.ahead u m (r, c);
    };
  }

  pub chain_bare : (ns : List Node) (h : Head) → FindsHead o toks no_in room i ns h → h.is_bare ≡ true → FindsChain o toks calls no_in room i ns h
  chain_bare ns h f is = record {
    tree = f.tree;
    part = f.part;
    is_bare = f.is_bare;
    best = record {
      reading = f.best.reading;
      chain = inr (sym f.is_bare ∙ is);
      longest = λ u m r c.
          finish (ChainStep toks calls room) (InClass toks calls no_in room i) (ContinuesChain toks calls no_in) (ContinuesHead toks no_in) f.tree h.part.next
          (λ y' f' s. (let b = bare_level f.tree (sym f.is_bare ∙ is) in let l = chain_low calls in let q = s.0 in omega arith)) (ahead_of ns h f) u m (r, c);
    };
  }

  pub chain_none : ((u : Expr) (m : ℕ) → Reading toks 15 no_in room i u m → IsHead u → ⊥) → (u : Expr) (m : ℕ) → Reading toks 15 no_in room i u m → InChain calls u → ⊥
  chain_none none u m r c = let p = chain_parts toks calls no_in room i u m r c in none p.0 p.1 p.2.0 p.2.1

-- a chain with calls is any tree of its level
pub in_chain : (no_in : Bool) (t : Expr) → 15 ≤ level t → WellFormed no_in t → InChain true t
in_chain no_in (NewBare f) h w = inr refl
in_chain no_in (Dot e x) h w = inl (let l = w.0 in omega arith)
in_chain no_in (At e x) h w = inl (let l = w.0 in omega arith)
in_chain no_in (Binary a op b) h w =
    absurd (let b = binary_bounds op in omega arith)
in_chain no_in t h w = inl (omega arith)

same_chain : (toks : List Tok) (no_in : Bool) (u t : Expr) (m n : ℕ) → 15 ≤ level u → ((u ≡ t) × (m ≡ n)) ⊎ ((m < n) × ContinuesChain toks true no_in u m) → ((u ≡ t) × (m ≡ n)) ⊎ ((m < n) × Continues toks 15 no_in u m)
same_chain toks no_in u t m n h (inl s) = inl s
same_chain toks no_in u t m n h (inr l) = inr (l.0, ((let k = l.1.0 in omega arith), l.1.1, l.1.2))

pub chain_found : (o : Origin) (toks : List Tok) (no_in : Bool) (room i : ℕ) (ns : List Node) (h : Head) → FindsChain o toks true no_in room i ns h → Finds o toks 15 no_in room i ns h.part
chain_found o toks no_in room i ns h f = record {
  tree = f.tree;
  part = f.part;
  best = record {
    reading = f.best.reading;
    longest = λ u m r. same_chain toks no_in u f.tree m h.part.next r.level (f.best.longest u m r (in_chain no_in u r.level r.formed));
  };
}

pub chain_nothing : (toks : List Tok) (no_in : Bool) (room i : ℕ) → ((u : Expr) (m : ℕ) → Reading toks 15 no_in room i u m → InChain true u → ⊥) → Nothing toks 15 no_in room i
chain_nothing toks no_in room i none = record { none = λ u m r. none u m r (in_chain no_in u r.level r.formed) }

-- a head that `new` doesn't begin
no_new : (toks : List Tok) (no_in : Bool) (room i : ℕ) (u : Expr) (m : ℕ) → (HasKey toks i keys.New → ⊥) → Reading toks 15 no_in room i u m → IsHead u → Reading toks 18 no_in room i u m
no_new toks no_in room i u m not r (inl h) = record { level = h; formed = r.formed; height = r.height; stands = r.stands }
no_new toks no_in room i (NewWith f xs) m not r (inr h) = absurd (not r.stands.2)
no_new toks no_in room i (NewBare f) m not r (inr h) = absurd (not r.stands.0)
no_new toks no_in room i _ m not r (inr h) = cc

never : (toks : List Tok) (no_in : Bool) (u t : Expr) (m n : ℕ) → ((u ≡ t) × (m ≡ n)) ⊎ ((m < n) × Continues toks 18 no_in u m) → ((u ≡ t) × (m ≡ n)) ⊎ ((m < n) × ContinuesHead toks no_in u m)
never toks no_in u t m n (inl s) = inl s
never toks no_in u t m n (inr l) = absurd (let k = l.1.0 in let q = reach_max no_in (token_at toks m) in omega arith)

pub plain_head : (o : Origin) (toks : List Tok) (no_in : Bool) (room i : ℕ) (ns : List Node) (p : Part) → (HasKey toks i keys.New → ⊥) → Finds o toks 18 no_in room i ns p → FindsHead o toks no_in room i ns (record { part = p; is_bare = false })
plain_head o toks no_in room i ns p not f = record {
  tree = f.tree;
  part = f.part;
  is_bare = sym (not_bare f.tree (let l = f.best.reading.level in omega arith));
  best = record {
    reading = lower toks 18 15 no_in room i f.tree p.next (omega arith) f.best.reading;
    head = inl f.best.reading.level;
    longest = λ u m r h. never toks no_in u f.tree m p.next (f.best.longest u m (no_new toks no_in room i u m not r h));
  };
}

pub plain_none : (toks : List Tok) (no_in : Bool) (room i : ℕ) → (HasKey toks i keys.New → ⊥) → Nothing toks 18 no_in room i → (u : Expr) (m : ℕ) → Reading toks 15 no_in room i u m → IsHead u → ⊥
plain_none toks no_in room i not f u m r h = f.none u m (no_new toks no_in room i u m not r h)

-- what `new` begins
record BareForm (toks : List Tok) (no_in : Bool) (room i : ℕ) (u : Expr) (m : ℕ) : Type 0 where
  made : Expr
  is : u ≡ NewBare made
  below : 0 < room
  reading : Reading toks 15 no_in (room - 1) (i + 1) made m
  chain : InChain false made

record WithForm (toks : List Tok) (no_in : Bool) (room i : ℕ) (u : Expr) (m : ℕ) : Type 0 where
  made : Expr
  arguments : Arguments
  bracket : ℕ
  close : ℕ
  is : u ≡ NewWith made arguments
  below : 0 < room
  reading : Reading toks 15 no_in (room - 1) (i + 1) made bracket
  high : 17 ≤ level made
  sign : HasSign toks bracket signs.OpenParen
  listing : Listing toks room (bracket + 1) arguments close
  ends : m ≡ close + 1

abbrev is_key_new : Key → Bool
is_key_new keys.New = true
is_key_new _ = false

-- another key isn't `new`
new_is : (k : Key) → tokens.Key keys.New ≡ tokens.Key k → is_key_new k ≡ false → ⊥
new_is k e h = let q : keys.New ≡ k = cc in let z : is_key_new keys.New ≡ is_key_new k = ap is_key_new q in cc

forms : (toks : List Tok) (no_in : Bool) (room i : ℕ) (u : Expr) (m : ℕ) → HasKey toks i keys.New → Reading toks 15 no_in room i u m → IsHead u → BareForm toks no_in room i u m ⊎ WithForm toks no_in room i u m
forms toks no_in room i (NewBare f) m key r h = inl (record {
  made = f;
  is = refl;
  below = (let k = r.height in omega arith);
  reading = record { level = new_level f r.formed.0; formed = r.formed.1; height = (let k = r.height in omega arith); stands = r.stands.1 };
  chain = r.formed.0;
})
forms toks no_in room i (NewWith f xs) m key r h = inr (record {
  made = f;
  arguments = xs;
  bracket = r.stands.0;
  close = r.stands.1;
  is = refl;
  below = (let k = r.height in omega arith);
  reading = record { level = (let l = r.formed.0 in omega arith); formed = r.formed.1; height = (let k = r.height in omega arith); stands = r.stands.3 };
  high = r.formed.0;
  sign = r.stands.4;
  listing = record { formed = r.formed.2; height = (let k = r.height in omega arith); stands = r.stands.5; closed = r.stands.6 };
  ends = r.stands.7;
})
forms toks no_in room i (Name x) m key r h = let q : tokens.Key keys.New ≡ tokens.Word x = same_token _ (tokens.Key keys.New) (tokens.Word x) key r.stands.0 in cc
forms toks no_in room i (Number x) m key r h = let q : tokens.Key keys.New ≡ tokens.Number x = same_token _ (tokens.Key keys.New) (tokens.Number x) key r.stands.0 in cc
forms toks no_in room i (Text x) m key r h = let q : tokens.Key keys.New ≡ tokens.Text x = same_token _ (tokens.Key keys.New) (tokens.Text x) key r.stands.0 in cc
forms toks no_in room i This m key r h = absurd (new_is keys.This (same_token _ (tokens.Key keys.New) (tokens.Key keys.This) key r.stands.0) refl)
forms toks no_in room i ThisWorld m key r h = absurd (new_is keys.ThisWorld (same_token _ (tokens.Key keys.New) (tokens.Key keys.ThisWorld) key r.stands.0) refl)
forms toks no_in room i Null m key r h = absurd (new_is keys.Null (same_token _ (tokens.Key keys.New) (tokens.Key keys.Null) key r.stands.0) refl)
forms toks no_in room i (Boolean true) m key r h = absurd (new_is keys.True (same_token _ (tokens.Key keys.New) (tokens.Key keys.True) key r.stands.0) refl)
forms toks no_in room i (Boolean false) m key r h = absurd (new_is keys.False (same_token _ (tokens.Key keys.New) (tokens.Key keys.False) key r.stands.0) refl)
forms toks no_in room i (ArrayLit x) m key r h = let q : tokens.Key keys.New ≡ tokens.Sign signs.OpenBracket = same_token _ (tokens.Key keys.New) (tokens.Sign signs.OpenBracket) key r.stands.1 in cc
forms toks no_in room i (ObjectLit x) m key r h = let q : tokens.Key keys.New ≡ tokens.Sign signs.OpenBrace = same_token _ (tokens.Key keys.New) (tokens.Sign signs.OpenBrace) key r.stands.1 in cc
forms toks no_in room i (Function x y z) m key r h = absurd (new_is keys.Function (same_token _ (tokens.Key keys.New) (tokens.Key keys.Function) key r.stands.3) refl)
forms toks no_in room i (Paren x) m key r h = let q : tokens.Key keys.New ≡ tokens.Sign signs.OpenParen = same_token _ (tokens.Key keys.New) (tokens.Sign signs.OpenParen) key r.stands.1 in cc
forms toks no_in room i (Binary a op b) m key r h =
    absurd (let b = binary_bounds op in let l = r.level in omega arith)
forms toks no_in room i (Dot e x) m key r h = absurd (no_dot h)
  where
    no_dot : IsHead (Dot e x) → ⊥
    no_dot (inl l) = omega arith
    no_dot (inr l) = cc
forms toks no_in room i (At e x) m key r h = absurd (no_at h)
  where
    no_at : IsHead (At e x) → ⊥
    no_at (inl l) = omega arith
    no_at (inr l) = cc
forms toks no_in room i (Call e x) m key r h = absurd (no_call h)
  where
    no_call : IsHead (Call e x) → ⊥
    no_call (inl l) = omega arith
    no_call (inr l) = cc
forms toks no_in room i u m key r h = absurd (let l = r.level in omega arith)

module _ (functions : Functions) (start : List Node) (toks : List Tok) (no_in : Bool) (room i : ℕ) where
  new_none : (none : (u : Expr) (m : ℕ) → Reading toks 15 no_in (room - 1) (i + 1) u m → InChain false u → ⊥) (u : Expr) (m : ℕ) → BareForm toks no_in room i u m ⊎ WithForm toks no_in room i u m → ⊥
  new_none none u m (inl b) = none b.made m b.reading b.chain
  new_none none u m (inr w) = none w.made w.bracket w.reading (inl w.high)

  pub created_none : HasKey toks i keys.New → ((u : Expr) (m : ℕ) → Reading toks 15 no_in (room - 1) (i + 1) u m → InChain false u → ⊥) → (u : Expr) (m : ℕ) → Reading toks 15 no_in room i u m → IsHead u → ⊥
  created_none key none u m r h = new_none none u m (forms toks no_in room i u m key r h)

  no_room_form : (u : Expr) (m : ℕ) → room ≡ 0 → BareForm toks no_in room i u m ⊎ WithForm toks no_in room i u m → ⊥
  no_room_form u m z (inl b) = let k = b.below in omega arith
  no_room_form u m z (inr w) = let k = w.below in omega arith

  pub created_no_room : HasKey toks i keys.New → room ≡ 0 → (u : Expr) (m : ℕ) → Reading toks 15 no_in room i u m → IsHead u → ⊥
  created_no_room key z u m r h = no_room_form u m z (forms toks no_in room i u m key r h)

  -- the callee of arguments is the one that is read
  same_callee : (t : Expr) (n : ℕ) (u : Expr) (m : ℕ) → (w : WithForm toks no_in room i u m) → ((w.made ≡ t) × (w.bracket ≡ n)) ⊎ ((w.bracket < n) × ContinuesChain toks false no_in w.made w.bracket) → (w.made ≡ t) × (w.bracket ≡ n)
  same_callee t n u m w (inl s) = s
  same_callee t n u m w (inr l) = absurd (let h = w.high in let k = l.1.0 in let e : reach no_in (token_at toks w.bracket) ≡ 17 = ap (reach no_in) w.sign in omega arith)

  made_bare : (t : Expr) (n : ℕ) (u : Expr) (m : ℕ) → (b : BareForm toks no_in room i u m) → ((b.made ≡ t) × (m ≡ n)) ⊎ ((m < n) × ContinuesChain toks false no_in b.made m) → ((u ≡ NewBare t) × (m ≡ n)) ⊎ ((m < n) × ContinuesHead toks no_in u m)
  made_bare t n u m b (inl s) = inl (let a = b.is in let q = s.0 in cc, s.1)
  made_bare t n u m b (inr l) = inr (l.0, (subst (λ (z : Expr). is_bare z ≡ true) (sym b.is) refl, let k = l.1.0 in let q = b.reading.level in omega arith))

  bare_longest : (ns : List Node) (callee : Head) (f : FindsChain (from toks functions start (i + 1)) toks false no_in (room - 1) (i + 1) ns callee)
      → (callee.is_bare ≡ false → HasSign toks callee.part.next signs.OpenParen → (us : Arguments) (m : ℕ) → Listing toks room (callee.part.next + 1) us m → ⊥)
      → (u : Expr) (m : ℕ) → BareForm toks no_in room i u m ⊎ WithForm toks no_in room i u m → ((u ≡ NewBare f.tree) × (m ≡ callee.part.next)) ⊎ ((m < callee.part.next) × ContinuesHead toks no_in u m)
  bare_longest ns callee f none u m (inl b) = made_bare f.tree callee.part.next u m b (f.best.longest b.made m b.reading b.chain)
  bare_longest ns callee f none u m (inr w) =
      absurd (let s = same_callee f.tree callee.part.next u m w (f.best.longest w.made w.bracket w.reading (inl w.high)) in
      none (f.is_bare ∙ not_bare f.tree (let h = w.high in let q : level w.made ≡ level f.tree = ap level s.0 in omega arith))
      (subst (λ (z : ℕ). HasSign toks z signs.OpenParen) s.1 w.sign) w.arguments w.close (subst (λ (z : ℕ). Listing toks room (z + 1) w.arguments w.close) s.1 w.listing))

  pub created_bare : (place tall : ℕ) → Holds toks functions place tall start → (old given new : List Node) (callee : Head) (node : NodeId) → HasKey toks i keys.New → 0 < room → FindsChain (from toks functions start (i + 1)) toks false no_in (room - 1) (i + 1) old callee → Keeps start old → Keeps old given → Keeps given new
      → (callee.is_bare ≡ false → HasSign toks callee.part.next signs.OpenParen → (us : Arguments) (m : ℕ) → Listing toks room (callee.part.next + 1) us m → ⊥)
      → Has new node (nodes.NewBare callee.part.node) → node.0 ≡ length given
      → FindsHead (from toks functions start i) toks no_in room i new (record { part = record { node = node; next = callee.part.next; is_target = false }; is_bare = true })
  created_bare place tall held old given new callee node key below f ks k l none has fresh = record {
    tree = NewBare f.tree;
    part = record {
      used = node.0 ∷ f.part.used;
      shows = (callee.part.node, f.part.used, has, refl, kept given new l f.tree callee.part.node f.part.used (kept old given k f.tree callee.part.node f.part.used f.part.shows));
      own = own_top toks functions start place tall held given new i callee.part.next callee.part.next node f.part.used (keeps_both start old given ks k) l fresh (slice_get_within new node.0 _ has) (omega arith)
          (own_wide functions start old given (i + 1) i callee.part.next callee.part.next f.part.used k (omega arith) (omega arith) f.part.own);
      is_target = refl;
    };
    is_bare = refl;
    best = record {
      reading = record {
        level = omega arith;
        formed = (f.best.chain, f.best.reading.formed);
        height = (let q = f.best.reading.height in omega arith);
        stands = (key, f.best.reading.stands);
      };
      head = inr refl;
      longest = λ u m r h. bare_longest old callee f none u m (forms toks no_in room i u m key r h);
    };
  }

  high_callee : (t : Expr) → InChain false t → is_bare t ≡ false → 17 ≤ level t
  high_callee t (inl h) b = h
  high_callee t (inr h) b = cc

  with_bare : (t : Expr) (n e : ℕ) (u : Expr) (m : ℕ) (xs : Arguments) → HasSign toks n signs.OpenParen → n < e → (b : BareForm toks no_in room i u m) → ((b.made ≡ t) × (m ≡ n)) ⊎ ((m < n) × ContinuesChain toks false no_in b.made m) → ((u ≡ NewWith t xs) × (m ≡ e)) ⊎ ((m < e) × ContinuesHead toks no_in u m)
  with_bare t n e u m xs sign lt b (inl s) =
      inr ((let q = s.1 in omega arith), (subst (λ (z : Expr). is_bare z ≡ true) (sym b.is) refl, (let q : reach no_in (token_at toks n) ≡ 17 = ap (reach no_in) sign in subst (λ (z : ℕ). 15 < reach no_in (token_at toks z)) (sym s.1) (omega arith))))
  with_bare t n e u m xs sign lt b (inr l) =
      inr ((let q = l.0 in omega arith), (subst (λ (z : Expr). is_bare z ≡ true) (sym b.is) refl, let k = l.1.0 in let q = b.reading.level in omega arith))

  with_longest : (ns ns' : List Node) (callee : Head) (f : FindsChain (from toks functions start (i + 1)) toks false no_in (room - 1) (i + 1) ns callee) (items : Listed) (l : Lists (from toks functions ns (callee.part.next + 1)) toks room (callee.part.next + 1) ns' items) → HasSign toks callee.part.next signs.OpenParen
      → (u : Expr) (m : ℕ) → BareForm toks no_in room i u m ⊎ WithForm toks no_in room i u m → ((u ≡ NewWith f.tree l.trees) × (m ≡ items.next + 1)) ⊎ ((m < items.next + 1) × ContinuesHead toks no_in u m)
  with_longest ns ns' callee f items l sign u m (inl b) =
      with_bare f.tree callee.part.next (items.next + 1) u m l.trees sign (let h = arguments_forward toks l.trees (callee.part.next + 1) items.next l.listing.stands in omega arith) b (f.best.longest b.made m b.reading b.chain)
  with_longest ns ns' callee f items l sign u m (inr w) =
      let s = same_callee f.tree callee.part.next u m w (f.best.longest w.made w.bracket w.reading (inl w.high)) in
      let o = l.only w.arguments w.close (subst (λ (z : ℕ). Listing toks room (z + 1) w.arguments w.close) s.1 w.listing) in
      inl ((let a = w.is in let b = s.0 in let c = o.0 in cc), w.ends ∙ ap (λ z. z + 1) o.1)

  pub created_with : (place tall : ℕ) → Holds toks functions place tall start → (old given new : List Node) (callee : Head) (items : Listed) (node : NodeId) → HasKey toks i keys.New → 0 < room → FindsChain (from toks functions start (i + 1)) toks false no_in (room - 1) (i + 1) old callee → Keeps start old → Keeps old given → Keeps given new
      → (callee.is_bare ≡ false) × HasSign toks callee.part.next signs.OpenParen × Lists (from toks functions old (callee.part.next + 1)) toks room (callee.part.next + 1) given items
      → Has new node (nodes.NewWith callee.part.node items.list) → node.0 ≡ length given
      → FindsHead (from toks functions start i) toks no_in room i new (record { part = record { node = node; next = items.next + 1; is_target = false }; is_bare = false })
  created_with place tall held old given new callee items node key below f ks k l g has fresh = record {
    tree = NewWith f.tree g.2.trees;
    part = record {
      used = node.0 ∷ (f.part.used ++ g.2.used);
      shows = (
        callee.part.node,
        items.list,
        f.part.used,
        g.2.used,
        has,
        refl,
        kept given new l f.tree callee.part.node f.part.used (kept old given k f.tree callee.part.node f.part.used f.part.shows),
        arguments_kept given new l g.2.trees items.list g.2.used g.2.show,
      );
      own =
          (let h = arguments_forward toks g.2.trees (callee.part.next + 1) items.next g.2.listing.stands in
          let h' = forward toks f.tree (i + 1) callee.part.next f.best.reading.stands in
          own_under toks functions start place tall held old given new i callee.part.next (callee.part.next + 1) items.next (items.next + 1) node f.part.used g.2.used ks k l fresh (slice_get_within new node.0 _ has)
          (omega arith) (omega arith) (omega arith) (omega arith) (own_wide functions start old old (i + 1) i callee.part.next callee.part.next f.part.used (keeps_self old) (omega arith) (omega arith) f.part.own) g.2.own);
      is_target = refl;
    };
    is_bare = refl;
    best = record {
      reading = record {
        level = omega arith;
        formed = (high_callee f.tree f.best.chain (sym f.is_bare ∙ g.0), f.best.reading.formed, g.2.listing.formed);
        height = (let q = f.best.reading.height in let p = g.2.listing.height in omega arith);
        stands = (callee.part.next, items.next, key, f.best.reading.stands, g.1, g.2.listing.stands, g.2.listing.closed, refl);
      };
      head = inr refl;
      longest = λ u m r h. with_longest old given callee f items g.2 g.1 u m (forms toks no_in room i u m key r h);
    };
  }

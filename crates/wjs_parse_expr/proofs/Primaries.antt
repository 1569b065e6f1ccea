-- Primary expressions.
use Rattle.std.proofs.Common.{◌≡◌, ℕ, ◌+◌, ◌-◌, ◌<◌, ◌⊎◌, inl, inr, Bool, true, false, List, [], ◌∷◌, Option, length, Some, None, refl, sym, ap, ◌∙◌, subst, arith}
use Rattle.std.specs.declared.result.Result.{Result}
use Rattle.std.specs.declared.result.Result.TheVariants.{Ok, Err}
use Rattle.wjs_base.specs.declared.ids.TextId.{TextId}
use Rattle.wjs_base.specs.declared.ids.OutOfMemory.{OutOfMemory}
use Rattle.wjs_base.specs.declared.number.Whole.{Whole}
use Rattle.wjs_base.specs.declared.ids.NodeId.{NodeId}
use Rattle.wjs_tree.specs.declared.tokens.Token.{Token}
use Rattle.wjs_tree.specs.declared.tokens.Token.TheVariants as tokens
use Rattle.wjs_tree.specs.declared.signs.Sign.{Sign}
use Rattle.wjs_tree.specs.declared.signs.Sign.TheVariants as signs
use Rattle.wjs_tree.specs.declared.keys.Key.{Key}
use Rattle.wjs_tree.specs.declared.keys.Key.TheVariants as keys
use Rattle.wjs_tree.specs.declared.tokens.Tok.{Tok}
use Rattle.wjs_tree.specs.declared.node.Node.{Node}
use Rattle.wjs_tree.specs.declared.node.Node.TheVariants as nodes
use Rattle.wjs_tree.specs.Trees.{Expr, Items, Properties, Name, Number, Text, This, ThisWorld, Null, Boolean, Paren, ArrayLit, ObjectLit, Function, Binary}
use Rattle.wjs_tree.specs.Levels.{is_target}
use Rattle.wjs_tree.specs.Ends.{token_at, HasSign, HasKey}
use Rattle.wjs_tree.specs.Shows.{Shows, Keeps, Has}
use Rattle.wjs_tree.proofs.Kept.{kept, keeps_self, items_kept, properties_kept}
use Rattle.wjs_parse_expr.specs.declared.parts.Part.{Part}
use Rattle.wjs_parse_expr.specs.declared.parts.ListedItems.{ListedItems}
use Rattle.wjs_parse_expr.specs.declared.parts.ListedProperties.{ListedProperties}
use Rattle.wjs_parse_expr.specs.declared.primary.Reserved.TheVariants as words
use Rattle.wjs_parse_expr.specs.Reserved.{kind_of}
use Rattle.wjs_parse_expr.specs.Reach.{reach}
use Rattle.wjs_parse_expr.specs.Readings.{Reading, Continues, is_function}
use Rattle.wjs_parse_expr.specs.Steps.{ItemsListing, PropertiesListing}
use Rattle.std.proofs.lemmas.Option.{slice_get_within}
use Rattle.wjs_parse_expr.specs.declared.functions.Functions.{Functions}
use Rattle.wjs_parse_expr.specs.Table.{Holds}
use Rattle.wjs_parse_expr.proofs.Owning.{own_leaf, own_wide, own_top}
use Rattle.wjs_parse_expr.specs.Answers.{Origin, from, Nothing, Finds, Answers, Adds, FindsItems, FindsProperties}
use Rattle.wjs_parse_expr.proofs.Reach.{binary_bounds}
use Rattle.wjs_parse_expr.proofs.Readings.{same_token, height_positive}

-- what a tree of the highest level is, by its first token
abbrev pub Closed : List Tok → ℕ → ℕ → Token → Expr → ℕ → Type 0
Closed toks room i (tokens.Word x) t n = (t ≡ Name x) × (n ≡ i + 1)
Closed toks room i (tokens.Number k) t n = (t ≡ Number k) × (n ≡ i + 1)
Closed toks room i (tokens.Text x) t n = (t ≡ Text x) × (n ≡ i + 1)
Closed toks room i (tokens.Key keys.This) t n = (t ≡ This) × (n ≡ i + 1)
Closed toks room i (tokens.Key keys.ThisWorld) t n = (t ≡ ThisWorld) × (n ≡ i + 1)
Closed toks room i (tokens.Key keys.Null) t n = (t ≡ Null) × (n ≡ i + 1)
Closed toks room i (tokens.Key keys.True) t n = (t ≡ Boolean true) × (n ≡ i + 1)
Closed toks room i (tokens.Key keys.False) t n = (t ≡ Boolean false) × (n ≡ i + 1)
Closed toks room i (tokens.Key keys.Function) t n = is_function t ≡ true
Closed toks room i (tokens.Sign signs.OpenParen) t n = (e : Expr) × (m : ℕ) × (t ≡ Paren e) × Reading toks 0 false (room - 1) (i + 1) e m × HasSign toks m signs.CloseParen × (n ≡ m + 1)
Closed toks room i (tokens.Sign signs.OpenBracket) t n = (xs : Items) × (m : ℕ) × (t ≡ ArrayLit xs) × ItemsListing toks room (i + 1) xs m × (n ≡ m + 1)
Closed toks room i (tokens.Sign signs.OpenBrace) t n = (ps : Properties) × (m : ℕ) × (t ≡ ObjectLit ps) × PropertiesListing toks room (i + 1) ps m × (n ≡ m + 1)
Closed toks room i _ t n = ⊥

module _ (toks : List Tok) (no_in : Bool) (room i : ℕ) (x : Token) (e : token_at toks i ≡ Some x) where
  moved : (y : Token) (t : Expr) (n : ℕ) → token_at toks i ≡ Some y → Closed toks room i y t n → Closed toks room i x t n
  moved y t n f c = subst (λ (z : Token). Closed toks room i z t n) (same_token _ y x f e) c

  pub closed : (t : Expr) (n : ℕ) → Reading toks 18 no_in room i t n → Closed toks room i x t n
  closed (Name y) n r = moved (tokens.Word y) (Name y) n r.stands.0 (refl, r.stands.1)
  closed (Number y) n r = moved (tokens.Number y) (Number y) n r.stands.0 (refl, r.stands.1)
  closed (Text y) n r = moved (tokens.Text y) (Text y) n r.stands.0 (refl, r.stands.1)
  closed This n r = moved (tokens.Key keys.This) This n r.stands.0 (refl, r.stands.1)
  closed ThisWorld n r = moved (tokens.Key keys.ThisWorld) ThisWorld n r.stands.0 (refl, r.stands.1)
  closed Null n r = moved (tokens.Key keys.Null) Null n r.stands.0 (refl, r.stands.1)
  closed (Boolean true) n r = moved (tokens.Key keys.True) (Boolean true) n r.stands.0 (refl, r.stands.1)
  closed (Boolean false) n r = moved (tokens.Key keys.False) (Boolean false) n r.stands.0 (refl, r.stands.1)
  closed (Function a b c) n r = moved (tokens.Key keys.Function) (Function a b c) n r.stands.3 refl
  closed (Paren a) n r =
      moved (tokens.Sign signs.OpenParen) (Paren a) n r.stands.1
      (a, r.stands.0, refl, record { level = omega arith; formed = r.formed; height = (let h = r.height in omega arith); stands = r.stands.2 }, r.stands.3, r.stands.4)
  closed (ArrayLit xs) n r =
      moved (tokens.Sign signs.OpenBracket) (ArrayLit xs) n r.stands.1
      (xs, r.stands.0, refl, record { formed = r.formed; height = (let h = r.height in omega arith); stands = r.stands.2; closed = r.stands.3 }, r.stands.4)
  closed (ObjectLit ps) n r =
      moved (tokens.Sign signs.OpenBrace) (ObjectLit ps) n r.stands.1
      (ps, r.stands.0, refl, record { formed = r.formed; height = (let h = r.height in omega arith); stands = r.stands.2; closed = r.stands.3 }, r.stands.4)
  closed (Binary a op b) n r = absurd (let u = binary_bounds op in let l = r.level in omega arith)
  closed t n r = absurd (let l = r.level in omega arith)

pub no_room : (toks : List Tok) (no_in : Bool) (room i : ℕ) → room ≡ 0 → Nothing toks 18 no_in room i
no_room toks no_in room i z = record { none = λ u m r. (let h = height_positive u in let k = r.height in omega arith) }

leaf_found : (functions : Functions) (old : List Node) (toks : List Tok) (no_in : Bool) (room i : ℕ) (ns : List Node) (t : Expr) (node : Node) (target : Bool)
    → Reading toks 18 no_in room i t (i + 1) → ((p : NodeId) → Has ns p node → Shows ns t p (p.0 ∷ [])) → target ≡ is_target t
    → ((u : Expr) (m : ℕ) → Reading toks 18 no_in room i u m → (u ≡ t) × (m ≡ i + 1))
    → (r : Result (Option Part) OutOfMemory) → Adds old ns node (i + 1) target r → Answers (from toks functions old i) toks 18 no_in room i ns r
leaf_found functions old toks no_in room i ns t node target reading shows is only (Ok (Some p)) a = record {
  tree = t;
  part = record { used = p.node.0 ∷ []; shows = shows p.node a.0; own = own_leaf functions old ns i p.next p.node a.3 (slice_get_within ns p.node.0 _ a.0); is_target = a.2 ∙ is };
  best = record {
    reading = subst (λ (z : ℕ). Reading toks 18 no_in room i t z) (sym a.1) reading;
    longest = λ u m r. (let c = only u m r in inl (c.0, c.1 ∙ sym a.1));
  };
}
leaf_found functions old toks no_in room i ns t node target reading shows is only (Ok None) a = absurd a
leaf_found functions old toks no_in room i ns t node target reading shows is only (Err d) a = tt

-- the key that spells a truth value
abbrev pub of_bool : Bool → Key
of_bool true = keys.True
of_bool false = keys.False

module _ (functions : Functions) (old : List Node) (toks : List Tok) (no_in : Bool) (room i : ℕ) (ns : List Node) (below : 0 < room) where
  pub name_found : (x : TextId) → token_at toks i ≡ Some (tokens.Word x) → (r : Result (Option Part) OutOfMemory) → Adds old ns (nodes.Name x) (i + 1) true r → Answers (from toks functions old i) toks 18 no_in room i ns r
  name_found x e = leaf_found functions old toks no_in room i ns (Name x) (nodes.Name x) true (record { level = omega arith; formed = tt; height = omega arith; stands = (e, refl) }) (λ p h. (h, refl)) refl (λ u m r. closed toks no_in room i _ e u m r)

  pub number_found : (k : Whole) → token_at toks i ≡ Some (tokens.Number k) → (r : Result (Option Part) OutOfMemory) → Adds old ns (nodes.Number k) (i + 1) false r → Answers (from toks functions old i) toks 18 no_in room i ns r
  number_found x e = leaf_found functions old toks no_in room i ns (Number x) (nodes.Number x) false (record { level = omega arith; formed = tt; height = omega arith; stands = (e, refl) }) (λ p h. (h, refl)) refl (λ u m r. closed toks no_in room i _ e u m r)

  pub text_found : (x : TextId) → token_at toks i ≡ Some (tokens.Text x) → (r : Result (Option Part) OutOfMemory) → Adds old ns (nodes.Text x) (i + 1) false r → Answers (from toks functions old i) toks 18 no_in room i ns r
  text_found x e = leaf_found functions old toks no_in room i ns (Text x) (nodes.Text x) false (record { level = omega arith; formed = tt; height = omega arith; stands = (e, refl) }) (λ p h. (h, refl)) refl (λ u m r. closed toks no_in room i _ e u m r)

  pub this_found : HasKey toks i keys.This → (r : Result (Option Part) OutOfMemory) → Adds old ns nodes.This (i + 1) false r → Answers (from toks functions old i) toks 18 no_in room i ns r
  this_found e = leaf_found functions old toks no_in room i ns This nodes.This false (record { level = omega arith; formed = tt; height = omega arith; stands = (e, refl) }) (λ p h. (h, refl)) refl (λ u m r. closed toks no_in room i _ e u m r)

  pub world_found : HasKey toks i keys.ThisWorld → (r : Result (Option Part) OutOfMemory) → Adds old ns nodes.ThisWorld (i + 1) false r → Answers (from toks functions old i) toks 18 no_in room i ns r
  world_found e = leaf_found functions old toks no_in room i ns ThisWorld nodes.ThisWorld false (record { level = omega arith; formed = tt; height = omega arith; stands = (e, refl) }) (λ p h. (h, refl)) refl (λ u m r. closed toks no_in room i _ e u m r)

  pub null_found : HasKey toks i keys.Null → (r : Result (Option Part) OutOfMemory) → Adds old ns nodes.Null (i + 1) false r → Answers (from toks functions old i) toks 18 no_in room i ns r
  null_found e = leaf_found functions old toks no_in room i ns Null nodes.Null false (record { level = omega arith; formed = tt; height = omega arith; stands = (e, refl) }) (λ p h. (h, refl)) refl (λ u m r. closed toks no_in room i _ e u m r)

  true_found : HasKey toks i keys.True → (r : Result (Option Part) OutOfMemory) → Adds old ns (nodes.Bool true) (i + 1) false r → Answers (from toks functions old i) toks 18 no_in room i ns r
  true_found e = leaf_found functions old toks no_in room i ns (Boolean true) (nodes.Bool true) false (record { level = omega arith; formed = tt; height = omega arith; stands = (e, refl) }) (λ p h. (h, refl)) refl (λ u m r. closed toks no_in room i _ e u m r)

  false_found : HasKey toks i keys.False → (r : Result (Option Part) OutOfMemory) → Adds old ns (nodes.Bool false) (i + 1) false r → Answers (from toks functions old i) toks 18 no_in room i ns r
  false_found e = leaf_found functions old toks no_in room i ns (Boolean false) (nodes.Bool false) false (record { level = omega arith; formed = tt; height = omega arith; stands = (e, refl) }) (λ p h. (h, refl)) refl (λ u m r. closed toks no_in room i _ e u m r)

  pub bool_found : (b : Bool) → HasKey toks i (of_bool b) → (r : Result (Option Part) OutOfMemory) → Adds old ns (nodes.Bool b) (i + 1) false r → Answers (from toks functions old i) toks 18 no_in room i ns r
  bool_found true e = true_found e
  bool_found false e = false_found e

-- the key of a kind
pub this_key : (k : Key) → kind_of k ≡ words.This → k ≡ keys.This
this_key keys.This h = refl
this_key _ h = cc

pub world_key : (k : Key) → kind_of k ≡ words.ThisWorld → k ≡ keys.ThisWorld
world_key keys.ThisWorld h = refl
world_key _ h = cc

pub null_key : (k : Key) → kind_of k ≡ words.Null → k ≡ keys.Null
null_key keys.Null h = refl
null_key _ h = cc

pub bool_key : (k : Key) (b : Bool) → kind_of k ≡ words.Bool b → k ≡ of_bool b
bool_key keys.True true h = refl
bool_key keys.True false h = cc
bool_key keys.False true h = cc
bool_key keys.False false h = refl
bool_key _ b h = cc

pub function_key : (k : Key) → kind_of k ≡ words.Function → k ≡ keys.Function
function_key keys.Function h = refl
function_key _ h = cc

other_key : (toks : List Tok) (room i : ℕ) (k : Key) (t : Expr) (n : ℕ) → kind_of k ≡ words.Other → Closed toks room i (tokens.Key k) t n → ⊥
other_key toks room i keys.This t n h c = cc
other_key toks room i keys.ThisWorld t n h c = cc
other_key toks room i keys.Null t n h c = cc
other_key toks room i keys.True t n h c = cc
other_key toks room i keys.False t n h c = cc
other_key toks room i keys.Function t n h c = cc
other_key toks room i _ t n h c = c

pub no_key : (toks : List Tok) (no_in : Bool) (room i : ℕ) (k : Key) → HasKey toks i k → kind_of k ≡ words.Other → Nothing toks 18 no_in room i
no_key toks no_in room i k e h = record { none = λ u m r. other_key toks room i k u m h (closed toks no_in room i _ e u m r) }

other_sign : (toks : List Tok) (room i : ℕ) (s : Sign) (t : Expr) (n : ℕ) → (s ≡ signs.OpenParen → ⊥) → (s ≡ signs.OpenBracket → ⊥) → (s ≡ signs.OpenBrace → ⊥) → Closed toks room i (tokens.Sign s) t n → ⊥
other_sign toks room i signs.OpenParen t n a b c h = a refl
other_sign toks room i signs.OpenBracket t n a b c h = b refl
other_sign toks room i signs.OpenBrace t n a b c h = c refl
other_sign toks room i _ t n a b c h = h

pub no_opening : (toks : List Tok) (no_in : Bool) (room i : ℕ) (s : Sign) → token_at toks i ≡ Some (tokens.Sign s) → (HasSign toks i signs.OpenParen → ⊥) → (HasSign toks i signs.OpenBracket → ⊥) → (HasSign toks i signs.OpenBrace → ⊥) → Nothing toks 18 no_in room i
no_opening toks no_in room i s e a b c = record {
  none = λ u m r.
      other_sign toks room i s u m (λ q. a (e ∙ ap (λ z. Some (tokens.Sign z)) q)) (λ q. b (e ∙ ap (λ z. Some (tokens.Sign z)) q)) (λ q. c (e ∙ ap (λ z. Some (tokens.Sign z)) q))
      (closed toks no_in room i _ e u m r);
}

-- an expression in parentheses
inside : (toks : List Tok) (u e y : Expr) (m f k : ℕ) → u ≡ Paren e → HasSign toks m signs.CloseParen → k ≡ m + 1
    → ((e ≡ y) × (m ≡ f)) ⊎ ((m < f) × Continues toks 0 false e m) → (u ≡ Paren y) × (k ≡ f + 1) × HasSign toks f signs.CloseParen
inside toks u e y m f k q c n (inl s) = ((let a = s.0 in cc), n ∙ ap (λ z. z + 1) s.1, subst (λ (z : ℕ). HasSign toks z signs.CloseParen) s.1 c)
inside toks u e y m f k q c n (inr l) = absurd (let h : reach false (token_at toks m) ≡ 0 = ap (reach false) c in let z = l.1.0 in omega arith)

pub parens_found : (functions : Functions) (start : List Node) (place tall : ℕ) (toks : List Tok) (no_in : Bool) (room i : ℕ) (old new : List Node) (p : Part) (node : NodeId) → Holds toks functions place tall start → HasSign toks i signs.OpenParen → 0 < room
    → Finds (from toks functions start (i + 1)) toks 0 false (room - 1) (i + 1) old p → HasSign toks p.next signs.CloseParen → Keeps start old → Keeps old new → Has new node (nodes.Paren p.node) → node.0 ≡ length old
    → Finds (from toks functions start i) toks 18 no_in room i new (record { node = node; next = p.next + 1; is_target = p.is_target })
parens_found functions start place tall toks no_in room i old new p node held bracket below f close ks k has fresh = record {
  tree = Paren f.tree;
  part = record {
    used = node.0 ∷ f.part.used;
    shows = (p.node, f.part.used, has, refl, kept old new k f.tree p.node f.part.used f.part.shows);
    own = own_top toks functions start place tall held old new i p.next (p.next + 1) node f.part.used ks k fresh (slice_get_within new node.0 _ has) (omega arith)
        (own_wide functions start old old (i + 1) i p.next p.next f.part.used (keeps_self old) (omega arith) (omega arith) f.part.own);
    is_target = f.part.is_target;
  };
  best = record {
    reading = record {
      level = omega arith;
      formed = f.best.reading.formed;
      height = (let q = f.best.reading.height in omega arith);
      stands = (p.next, bracket, f.best.reading.stands, close, refl);
    };
    longest = λ u m r. (let c = closed toks no_in room i _ bracket u m r in let d = inside toks u c.0 f.tree c.1 p.next m c.2 c.4 c.5 (f.best.longest c.0 c.1 c.3) in inl (d.0, d.1));
  };
}

pub parens_nothing : (toks : List Tok) (no_in : Bool) (room i : ℕ) → HasSign toks i signs.OpenParen → Nothing toks 0 false (room - 1) (i + 1) → Nothing toks 18 no_in room i
parens_nothing toks no_in room i bracket f = record { none = λ u m r. (let c = closed toks no_in room i _ bracket u m r in f.none c.0 c.1 c.3) }

pub parens_bare : (o : Origin) (toks : List Tok) (no_in : Bool) (room i : ℕ) (old : List Node) (p : Part) → HasSign toks i signs.OpenParen
    → Finds o toks 0 false (room - 1) (i + 1) old p → (HasSign toks p.next signs.CloseParen → ⊥) → Nothing toks 18 no_in room i
parens_bare o toks no_in room i old p bracket f not = record {
  none = λ u m r. (let c = closed toks no_in room i _ bracket u m r in not (inside toks u c.0 f.tree c.1 p.next m c.2 c.4 c.5 (f.best.longest c.0 c.1 c.3)).2);
}

-- an array literal
pub array_found : (functions : Functions) (start : List Node) (place tall : ℕ) (toks : List Tok) (no_in : Bool) (room i : ℕ) (old new : List Node) (p : ListedItems) (node : NodeId) → Holds toks functions place tall start → HasSign toks i signs.OpenBracket
    → FindsItems (from toks functions start (i + 1)) toks room (i + 1) old p → Keeps start old → Keeps old new → Has new node (nodes.ArrayLit p.list p.tail) → node.0 ≡ length old
    → Finds (from toks functions start i) toks 18 no_in room i new (record { node = node; next = p.next + 1; is_target = false })
array_found functions start place tall toks no_in room i old new p node held bracket f ks k has fresh = record {
  tree = ArrayLit f.trees;
  part = record {
    used = node.0 ∷ f.used;
    shows = (p.list, f.used, subst (λ (z : Bool). Has new node (nodes.ArrayLit p.list z)) f.tail has, refl, items_kept old new k f.trees p.list f.used f.show);
    own = own_top toks functions start place tall held old new i p.next (p.next + 1) node f.used ks k fresh (slice_get_within new node.0 _ has) (omega arith)
        (own_wide functions start old old (i + 1) i p.next p.next f.used (keeps_self old) (omega arith) (omega arith) f.own);
    is_target = refl;
  };
  best = record {
    reading = record {
      level = omega arith;
      formed = f.listing.formed;
      height = (let q = f.listing.height in omega arith);
      stands = (p.next, bracket, f.listing.stands, f.listing.closed, refl);
    };
    longest = λ u m r. (let c = closed toks no_in room i _ bracket u m r in let d = f.only c.0 c.1 c.3 in inl ((let a = c.2 in let b = d.0 in cc), c.4 ∙ ap (λ z. z + 1) d.1));
  };
}

pub array_nothing : (toks : List Tok) (no_in : Bool) (room i : ℕ) → HasSign toks i signs.OpenBracket → ((us : Items) (m : ℕ) → ItemsListing toks room (i + 1) us m → ⊥) → Nothing toks 18 no_in room i
array_nothing toks no_in room i bracket f = record { none = λ u m r. (let c = closed toks no_in room i _ bracket u m r in f c.0 c.1 c.3) }

-- an object literal
pub object_found : (functions : Functions) (start : List Node) (place tall : ℕ) (toks : List Tok) (no_in : Bool) (room i : ℕ) (old new : List Node) (p : ListedProperties) (node : NodeId) → Holds toks functions place tall start → HasSign toks i signs.OpenBrace
    → FindsProperties (from toks functions start (i + 1)) toks room (i + 1) old p → Keeps start old → Keeps old new → Has new node (nodes.ObjectLit p.list p.comma) → node.0 ≡ length old
    → Finds (from toks functions start i) toks 18 no_in room i new (record { node = node; next = p.next + 1; is_target = false })
object_found functions start place tall toks no_in room i old new p node held bracket f ks k has fresh = record {
  tree = ObjectLit f.trees;
  part = record {
    used = node.0 ∷ f.used;
    shows = (p.list, f.used, subst (λ (z : Bool). Has new node (nodes.ObjectLit p.list z)) f.comma has, refl, properties_kept old new k f.trees p.list f.used f.show);
    own = own_top toks functions start place tall held old new i p.next (p.next + 1) node f.used ks k fresh (slice_get_within new node.0 _ has) (omega arith)
        (own_wide functions start old old (i + 1) i p.next p.next f.used (keeps_self old) (omega arith) (omega arith) f.own);
    is_target = refl;
  };
  best = record {
    reading = record {
      level = omega arith;
      formed = f.listing.formed;
      height = (let q = f.listing.height in omega arith);
      stands = (p.next, bracket, f.listing.stands, f.listing.closed, refl);
    };
    longest = λ u m r. (let c = closed toks no_in room i _ bracket u m r in let d = f.only c.0 c.1 c.3 in inl ((let a = c.2 in let b = d.0 in cc), c.4 ∙ ap (λ z. z + 1) d.1));
  };
}

pub object_nothing : (toks : List Tok) (no_in : Bool) (room i : ℕ) → HasSign toks i signs.OpenBrace → ((us : Properties) (m : ℕ) → PropertiesListing toks room (i + 1) us m → ⊥) → Nothing toks 18 no_in room i
object_nothing toks no_in room i bracket f = record { none = λ u m r. (let c = closed toks no_in room i _ bracket u m r in f c.0 c.1 c.3) }

-- What is found with an operand behind a left part.
use Rattle.std.proofs.Common.{◌≡◌, ℕ, ◌+◌, ◌-◌, ◌<◌, ◌⊎◌, inl, inr, Bool, false, List, ◌∷◌, ◌++◌, length, Some, refl, ap, subst, arith}
use Rattle.wjs_base.specs.declared.ids.NodeId.{NodeId}
use Rattle.wjs_tree.specs.declared.tokens.Tok.{Tok}
use Rattle.wjs_tree.specs.declared.signs.Sign.TheVariants as signs
use Rattle.wjs_tree.specs.declared.node.Node.{Node}
use Rattle.wjs_tree.specs.declared.node.Node.TheVariants as nodes
use Rattle.wjs_parse_expr.specs.declared.parts.Part.{Part}
use Rattle.wjs_tree.specs.Trees.{Expr, Binary, Cond, Assign, Comma}
use Rattle.wjs_parse_expr.specs.Reach.{reach}
use Rattle.wjs_parse_expr.specs.Readings.{edge, Reading, Continues}
use Rattle.wjs_tree.specs.Ends.{token_at, HasSign}
use Rattle.wjs_tree.specs.Shows.{Keeps, Has}
use Rattle.wjs_parse_expr.specs.declared.functions.Functions.{Functions}
use Rattle.wjs_parse_expr.specs.Table.{Holds}
use Rattle.wjs_parse_expr.specs.Answers.{Finds, Grows, from}
use Rattle.wjs_parse_expr.specs.Steps.{BinaryStep, CommaStep, CondStep, AssignStep}
use Rattle.std.proofs.lemmas.Option.{slice_get_within}
use Rattle.wjs_tree.proofs.Forward.{forward}
use Rattle.wjs_tree.proofs.Kept.{kept, keeps_both}
use Rattle.wjs_parse_expr.proofs.Owning.{own_both, own_pair}
use Rattle.wjs_parse_expr.proofs.Reach.{same_binary_token, same_assign_token}
use Rattle.wjs_tree.specs.declared.operators.BinaryOperator.{BinaryOperator}
use Rattle.wjs_tree.specs.declared.operators.AssignOperator.{AssignOperator}
use Rattle.wjs_tree.specs.Operators.{binary_token, binary_level, assign_token, IsAllowed}
use Rattle.wjs_parse_expr.specs.Answers.{Origin}

same_binary : (toks : List Tok) (least : ℕ) (no_in : Bool) (y y' : Expr) (op op' : BinaryOperator) (r r' : Expr) (m n : ℕ) → y' ≡ Binary y op' r' → op' ≡ op → ((r' ≡ r) × (m ≡ n)) ⊎ ((m < n) × Continues toks least no_in r' m) → ((y' ≡ Binary y op r) × (m ≡ n)) ⊎ ((m < n) × Continues toks least no_in y' m)
same_binary toks least no_in y y' op op' r r' m n e o (inl s) = inl (let a = s.0 in cc, s.1)
same_binary toks least no_in y y' op op' r r' m n e o (inr x) = inr (x.0, (x.1.0, (let q : edge y' ≡ edge r' = ap edge e in let z = x.1.1 in omega arith), x.1.2))

pub operation_grows : (toks : List Tok) (least : ℕ) (no_in : Bool) (room : ℕ) (functions : Functions) (left right : Part) (op : BinaryOperator) (node : NodeId) (a b c : List Node)
    → token_at toks left.next ≡ Some (binary_token op) → IsAllowed no_in op → binary_level op ≡ least → 0 < room
    → Keeps a b → Keeps b c → Finds (from toks functions a (left.next + 1)) toks (least + 1) no_in (room - 1) (left.next + 1) b right → Has c node (nodes.Binary left.node op right.node) → node.0 ≡ length b
    → Grows functions (BinaryStep toks least no_in room) (Continues toks (least + 1) no_in) a c left (record { node = node; next = right.next; is_target = false })
operation_grows toks least no_in room functions left right op node a b c at allowed binds below k l f has fresh = record {
  whole = λ y. Binary y op f.tree;
  part = λ q y z s. record {
    used = node.0 ∷ (s.used ++ f.part.used);
    shows = (left.node, right.node, s.used, f.part.used, has, refl, kept a c (keeps_both a b c k l) y left.node s.used s.shows, kept b c l f.tree right.node f.part.used f.part.shows);
    own = (let h = forward toks f.tree (left.next + 1) right.next f.best.reading.stands in own_pair functions q a left.next z b c (left.next + 1) right.next right.next node s.used f.part.used k l fresh (slice_get_within c node.0 _ has) (omega arith) (omega arith) (omega arith) s.own f.part.own);
    is_target = refl;
  };
  step = λ y. record { op = op; right = f.tree; is = refl; sign = at; allowed = allowed; binds = binds; below = below; reading = f.best.reading };
  first = λ y y' f' s. same_binary toks (least + 1) no_in y y' op s.op f.tree s.right f' right.next s.is (same_binary_token _ s.op op s.sign at) (f.best.longest s.right f' s.reading);
}

same_comma : (toks : List Tok) (least : ℕ) (no_in : Bool) (y y' : Expr) (r r' : Expr) (m n : ℕ) → y' ≡ Comma y r' → ((r' ≡ r) × (m ≡ n)) ⊎ ((m < n) × Continues toks least no_in r' m) → ((y' ≡ Comma y r) × (m ≡ n)) ⊎ ((m < n) × Continues toks least no_in y' m)
same_comma toks least no_in y y' r r' m n e (inl s) = inl (let a = s.0 in cc, s.1)
same_comma toks least no_in y y' r r' m n e (inr x) = inr (x.0, (x.1.0, (let q : edge y' ≡ edge r' = ap edge e in let z = x.1.1 in omega arith), x.1.2))

pub after_comma_grows : (toks : List Tok) (no_in : Bool) (room : ℕ) (functions : Functions) (left right : Part) (node : NodeId) (a b c : List Node)
    → HasSign toks left.next signs.Comma → 0 < room
    → Keeps a b → Keeps b c → Finds (from toks functions a (left.next + 1)) toks 1 no_in (room - 1) (left.next + 1) b right → Has c node (nodes.Comma left.node right.node) → node.0 ≡ length b
    → Grows functions (CommaStep toks no_in room) (Continues toks 1 no_in) a c left (record { node = node; next = right.next; is_target = false })
after_comma_grows toks no_in room functions left right node a b c sign below k l f has fresh = record {
  whole = λ y. Comma y f.tree;
  part = λ q y z s. record {
    used = node.0 ∷ (s.used ++ f.part.used);
    shows = (left.node, right.node, s.used, f.part.used, has, refl, kept a c (keeps_both a b c k l) y left.node s.used s.shows, kept b c l f.tree right.node f.part.used f.part.shows);
    own = (let h = forward toks f.tree (left.next + 1) right.next f.best.reading.stands in own_pair functions q a left.next z b c (left.next + 1) right.next right.next node s.used f.part.used k l fresh (slice_get_within c node.0 _ has) (omega arith) (omega arith) (omega arith) s.own f.part.own);
    is_target = refl;
  };
  step = λ y. record { right = f.tree; is = refl; sign = sign; below = below; reading = f.best.reading };
  first = λ y y' f' s. same_comma toks 1 no_in y y' f.tree s.right f' right.next s.is (f.best.longest s.right f' s.reading);
}

same_assign : (toks : List Tok) (least : ℕ) (no_in : Bool) (y y' : Expr) (op op' : AssignOperator) (r r' : Expr) (m n : ℕ) → y' ≡ Assign y op' r' → op' ≡ op → ((r' ≡ r) × (m ≡ n)) ⊎ ((m < n) × Continues toks least no_in r' m) → ((y' ≡ Assign y op r) × (m ≡ n)) ⊎ ((m < n) × Continues toks least no_in y' m)
same_assign toks least no_in y y' op op' r r' m n e o (inl s) = inl (let a = s.0 in cc, s.1)
same_assign toks least no_in y y' op op' r r' m n e o (inr x) = inr (x.0, (x.1.0, (let q : edge y' ≡ edge r' = ap edge e in let z = x.1.1 in omega arith), x.1.2))

pub assigned_grows : (toks : List Tok) (no_in : Bool) (room : ℕ) (functions : Functions) (left right : Part) (op : AssignOperator) (node : NodeId) (a b c : List Node)
    → token_at toks left.next ≡ Some (assign_token op) → 0 < room
    → Keeps a b → Keeps b c → Finds (from toks functions a (left.next + 1)) toks 1 no_in (room - 1) (left.next + 1) b right → Has c node (nodes.Assign left.node op right.node) → node.0 ≡ length b
    → Grows functions (AssignStep toks no_in room) (Continues toks 1 no_in) a c left (record { node = node; next = right.next; is_target = false })
assigned_grows toks no_in room functions left right op node a b c sign below k l f has fresh = record {
  whole = λ y. Assign y op f.tree;
  part = λ q y z s. record {
    used = node.0 ∷ (s.used ++ f.part.used);
    shows = (left.node, right.node, s.used, f.part.used, has, refl, kept a c (keeps_both a b c k l) y left.node s.used s.shows, kept b c l f.tree right.node f.part.used f.part.shows);
    own = (let h = forward toks f.tree (left.next + 1) right.next f.best.reading.stands in own_pair functions q a left.next z b c (left.next + 1) right.next right.next node s.used f.part.used k l fresh (slice_get_within c node.0 _ has) (omega arith) (omega arith) (omega arith) s.own f.part.own);
    is_target = refl;
  };
  step = λ y. record { op = op; value = f.tree; is = refl; sign = sign; below = below; reading = f.best.reading };
  first = λ y y' f' s. same_assign toks 1 no_in y y' op s.op f.tree s.value f' right.next s.is (same_assign_token _ s.op op s.sign sign) (f.best.longest s.value f' s.reading);
}

-- the same first choice
same_yes : (toks : List Tok) (one one' : Expr) (m m' : ℕ) → HasSign toks m' signs.Colon → ((one' ≡ one) × (m' ≡ m)) ⊎ ((m' < m) × Continues toks 1 false one' m') → (one' ≡ one) × (m' ≡ m)
same_yes toks one one' m m' c (inl s) = s
same_yes toks one one' m m' c (inr l) = absurd (let h : reach false (token_at toks m') ≡ 0 = ap (reach false) c in omega (arith, l.1.0))

same_no : (toks : List Tok) (no_in : Bool) (y y' one one' two two' : Expr) (m n : ℕ) → y' ≡ Cond y one' two' → one' ≡ one → ((two' ≡ two) × (m ≡ n)) ⊎ ((m < n) × Continues toks 1 no_in two' m) → ((y' ≡ Cond y one two) × (m ≡ n)) ⊎ ((m < n) × Continues toks 1 no_in y' m)
same_no toks no_in y y' one one' two two' m n e o (inl s) = inl (let a = s.0 in cc, s.1)
same_no toks no_in y y' one one' two two' m n e o (inr x) = inr (x.0, (x.1.0, (let q : edge y' ≡ edge two' = ap edge e in let z = x.1.1 in omega arith), x.1.2))

pub choice_grows : (toks : List Tok) (no_in : Bool) (room place tall : ℕ) (functions : Functions) (left one two : Part) (node : NodeId) (a b c d : List Node) → Holds toks functions place tall a
    → HasSign toks left.next signs.Question → HasSign toks one.next signs.Colon → 0 < room
    → Keeps a b → Keeps b c → Keeps c d → Finds (from toks functions a (left.next + 1)) toks 1 false (room - 1) (left.next + 1) b one → Finds (from toks functions b (one.next + 1)) toks 1 no_in (room - 1) (one.next + 1) c two → Has d node (nodes.Cond left.node one.node two.node) → node.0 ≡ length c
    → Grows functions (CondStep toks no_in room) (Continues toks 1 no_in) a d left (record { node = node; next = two.next; is_target = false })
choice_grows toks no_in room place tall functions left one two node a b c d held sign colon below k l m f g has fresh = record {
  whole = λ y. Cond y f.tree g.tree;
  part = λ q y z s. record {
    used = node.0 ∷ (s.used ++ (f.part.used ++ g.part.used));
    shows = (
      left.node,
      one.node,
      two.node,
      s.used,
      f.part.used,
      g.part.used,
      has,
      refl,
      kept a d (keeps_both a b d k (keeps_both b c d l m)) y left.node s.used s.shows,
      kept b d (keeps_both b c d l m) f.tree one.node f.part.used f.part.shows,
      kept c d m g.tree two.node g.part.used g.part.shows,
    );
    own =
        (let h = forward toks f.tree (left.next + 1) one.next f.best.reading.stands in
        let h' = forward toks g.tree (one.next + 1) two.next g.best.reading.stands in
        own_pair functions q a left.next z c d (left.next + 1) two.next two.next node s.used (f.part.used ++ g.part.used) (keeps_both a b c k l) m fresh (slice_get_within d node.0 _ has) (omega arith) (omega arith) (omega arith) s.own
        (own_both toks functions a place tall held b c (left.next + 1) one.next (one.next + 1) two.next f.part.used g.part.used k l (omega arith) (omega arith) (omega arith) f.part.own g.part.own));
    is_target = refl;
  };
  step = λ y. record { yes = f.tree; no = g.tree; colon = one.next; is = refl; sign = sign; below = below; yes_reading = f.best.reading; colon_sign = colon; no_reading = g.best.reading };
  first = λ y y' f' s.
      (let e = same_yes toks f.tree s.yes one.next s.colon s.colon_sign (f.best.longest s.yes s.colon s.yes_reading) in
      let r = subst (λ (z : ℕ). Reading toks 1 no_in (room - 1) (z + 1) s.no f') e.1 s.no_reading in
      same_no toks no_in y y' f.tree s.yes g.tree s.no f' two.next s.is e.0 (g.best.longest s.no f' r));
}

-- where the first choice is read, but two colon or two second choice
pub no_colon : (toks : List Tok) (no_in : Bool) (room : ℕ) (o : Origin) (f : ℕ) (b : List Node) (one : Part) → Finds o toks 1 false (room - 1) (f + 1) b one → (HasSign toks one.next signs.Colon → ⊥)
    → (y y' : Expr) (f' : ℕ) → CondStep toks no_in room y f y' f' → ⊥
no_colon toks no_in room o f b one g not y y' f' s =
    let e = same_yes toks g.tree s.yes one.next s.colon s.colon_sign (g.best.longest s.yes s.colon s.yes_reading) in
    not (subst (λ (z : ℕ). HasSign toks z signs.Colon) e.1 s.colon_sign)

pub no_second : (toks : List Tok) (no_in : Bool) (room : ℕ) (o : Origin) (f : ℕ) (b : List Node) (one : Part) → Finds o toks 1 false (room - 1) (f + 1) b one
    → ((u : Expr) (m : ℕ) → Reading toks 1 no_in (room - 1) (one.next + 1) u m → ⊥)
    → (y y' : Expr) (f' : ℕ) → CondStep toks no_in room y f y' f' → ⊥
no_second toks no_in room o f b one g none y y' f' s =
    let e = same_yes toks g.tree s.yes one.next s.colon s.colon_sign (g.best.longest s.yes s.colon s.yes_reading) in
    none s.no f' (subst (λ (z : ℕ). Reading toks 1 no_in (room - 1) (z + 1) s.no f') e.1 s.no_reading)

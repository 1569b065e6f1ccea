-- The other facts that are kept beside nodes of expressions are those of the trees that they stand for.
use Rattle.std.specs.Prelude.{◌≡◌, ℕ, min, List}
use Rattle.std.proofs.Common.{ap, ◌∙◌}
use Rattle.wjs_base.specs.declared.ids.NodeId.{NodeId}
use Rattle.wjs_tree.specs.declared.node.Node.{Node}
use Rattle.wjs_tree.specs.declared.facts.Facts.{Facts}
use Rattle.wjs_tree.specs.Trees.{Expr, Name, Number, Text, This, ThisWorld, Null, Boolean, Paren, ArrayLit, ObjectLit, Function, Dot, At, Call, NewWith, NewBare, Postfix, Prefix, Binary, Cond, Assign, Comma}
use Rattle.wjs_tree.specs.Levels.{level, is_target, starts_with_brace}
use Rattle.wjs_tree.specs.Facts.{fact_at, AreKept}
use Rattle.wjs_tree.specs.Shows.{Shows}
use Rattle.wjs_tree.proofs.Heights.{of_node, early}

module _ (ns : List Node) (facts : List Facts) (kept : AreKept ns facts) where
  pub level_is : (t : Expr) (i : NodeId) (used : List ℕ) → Shows ns t i used → (fact_at facts i).level ≡ level t
  level_is (Name x) i used h = (of_node ns facts kept i _ h.0).right.level
  level_is (Number k) i used h = (of_node ns facts kept i _ h.0).right.level
  level_is (Text x) i used h = (of_node ns facts kept i _ h.0).right.level
  level_is This i used h = (of_node ns facts kept i _ h.0).right.level
  level_is ThisWorld i used h = (of_node ns facts kept i _ h.0).right.level
  level_is Null i used h = (of_node ns facts kept i _ h.0).right.level
  level_is (Boolean b) i used h = (of_node ns facts kept i _ h.0).right.level
  level_is (Paren e) i used h = (of_node ns facts kept i _ h.2).right.level
  level_is (ArrayLit xs) i used h = (of_node ns facts kept i _ h.2).right.level
  level_is (ObjectLit ps) i used h = (of_node ns facts kept i _ h.2).right.level
  level_is (Function name formals body) i used h = (of_node ns facts kept i _ h.2).right.level
  level_is (Dot e x) i used h = (of_node ns facts kept i _ h.2).right.level ∙ ap (λ (z : Facts). min z.level 17) (early ns facts kept i.0 h.0 (of_node ns facts kept i _ h.2).below) ∙ ap (λ z. min z 17) (level_is e h.0 h.1 h.4)
  level_is (At e j) i used h = (of_node ns facts kept i _ h.4).right.level ∙ ap (λ (z : Facts). min z.level 17) (early ns facts kept i.0 h.0 (of_node ns facts kept i _ h.4).below.0) ∙ ap (λ z. min z 17) (level_is e h.0 h.2 h.6)
  level_is (Call f xs) i used h = (of_node ns facts kept i _ h.4).right.level
  level_is (NewWith f xs) i used h = (of_node ns facts kept i _ h.4).right.level
  level_is (NewBare f) i used h = (of_node ns facts kept i _ h.2).right.level
  level_is (Postfix t op) i used h = (of_node ns facts kept i _ h.2).right.level
  level_is (Prefix op e) i used h = (of_node ns facts kept i _ h.2).right.level
  level_is (Binary l op r) i used h = (of_node ns facts kept i _ h.4).right.level
  level_is (Cond c x y) i used h = (of_node ns facts kept i _ h.6).right.level
  level_is (Assign t op e) i used h = (of_node ns facts kept i _ h.4).right.level
  level_is (Comma l r) i used h = (of_node ns facts kept i _ h.4).right.level

  pub target_is : (t : Expr) (i : NodeId) (used : List ℕ) → Shows ns t i used → (fact_at facts i).is_target ≡ is_target t
  target_is (Name x) i used h = (of_node ns facts kept i _ h.0).right.is_target
  target_is (Number k) i used h = (of_node ns facts kept i _ h.0).right.is_target
  target_is (Text x) i used h = (of_node ns facts kept i _ h.0).right.is_target
  target_is This i used h = (of_node ns facts kept i _ h.0).right.is_target
  target_is ThisWorld i used h = (of_node ns facts kept i _ h.0).right.is_target
  target_is Null i used h = (of_node ns facts kept i _ h.0).right.is_target
  target_is (Boolean b) i used h = (of_node ns facts kept i _ h.0).right.is_target
  target_is (Paren e) i used h = (of_node ns facts kept i _ h.2).right.is_target ∙ ap (λ (z : Facts). z.is_target) (early ns facts kept i.0 h.0 (of_node ns facts kept i _ h.2).below) ∙ ap (λ z. z) (target_is e h.0 h.1 h.4)
  target_is (ArrayLit xs) i used h = (of_node ns facts kept i _ h.2).right.is_target
  target_is (ObjectLit ps) i used h = (of_node ns facts kept i _ h.2).right.is_target
  target_is (Function name formals body) i used h = (of_node ns facts kept i _ h.2).right.is_target
  target_is (Dot e x) i used h = (of_node ns facts kept i _ h.2).right.is_target
  target_is (At e j) i used h = (of_node ns facts kept i _ h.4).right.is_target
  target_is (Call f xs) i used h = (of_node ns facts kept i _ h.4).right.is_target
  target_is (NewWith f xs) i used h = (of_node ns facts kept i _ h.4).right.is_target
  target_is (NewBare f) i used h = (of_node ns facts kept i _ h.2).right.is_target
  target_is (Postfix t op) i used h = (of_node ns facts kept i _ h.2).right.is_target
  target_is (Prefix op e) i used h = (of_node ns facts kept i _ h.2).right.is_target
  target_is (Binary l op r) i used h = (of_node ns facts kept i _ h.4).right.is_target
  target_is (Cond c x y) i used h = (of_node ns facts kept i _ h.6).right.is_target
  target_is (Assign t op e) i used h = (of_node ns facts kept i _ h.4).right.is_target
  target_is (Comma l r) i used h = (of_node ns facts kept i _ h.4).right.is_target

  pub brace_is : (t : Expr) (i : NodeId) (used : List ℕ) → Shows ns t i used → (fact_at facts i).starts_with_brace ≡ starts_with_brace t
  brace_is (Name x) i used h = (of_node ns facts kept i _ h.0).right.starts_with_brace
  brace_is (Number k) i used h = (of_node ns facts kept i _ h.0).right.starts_with_brace
  brace_is (Text x) i used h = (of_node ns facts kept i _ h.0).right.starts_with_brace
  brace_is This i used h = (of_node ns facts kept i _ h.0).right.starts_with_brace
  brace_is ThisWorld i used h = (of_node ns facts kept i _ h.0).right.starts_with_brace
  brace_is Null i used h = (of_node ns facts kept i _ h.0).right.starts_with_brace
  brace_is (Boolean b) i used h = (of_node ns facts kept i _ h.0).right.starts_with_brace
  brace_is (Paren e) i used h = (of_node ns facts kept i _ h.2).right.starts_with_brace
  brace_is (ArrayLit xs) i used h = (of_node ns facts kept i _ h.2).right.starts_with_brace
  brace_is (ObjectLit ps) i used h = (of_node ns facts kept i _ h.2).right.starts_with_brace
  brace_is (Function name formals body) i used h = (of_node ns facts kept i _ h.2).right.starts_with_brace
  brace_is (Dot e x) i used h = (of_node ns facts kept i _ h.2).right.starts_with_brace ∙ ap (λ (z : Facts). z.starts_with_brace) (early ns facts kept i.0 h.0 (of_node ns facts kept i _ h.2).below) ∙ ap (λ z. z) (brace_is e h.0 h.1 h.4)
  brace_is (At e j) i used h = (of_node ns facts kept i _ h.4).right.starts_with_brace ∙ ap (λ (z : Facts). z.starts_with_brace) (early ns facts kept i.0 h.0 (of_node ns facts kept i _ h.4).below.0) ∙ ap (λ z. z) (brace_is e h.0 h.2 h.6)
  brace_is (Call f xs) i used h = (of_node ns facts kept i _ h.4).right.starts_with_brace ∙ ap (λ (z : Facts). z.starts_with_brace) (early ns facts kept i.0 h.0 (of_node ns facts kept i _ h.4).below.0) ∙ ap (λ z. z) (brace_is f h.0 h.2 h.6)
  brace_is (NewWith f xs) i used h = (of_node ns facts kept i _ h.4).right.starts_with_brace
  brace_is (NewBare f) i used h = (of_node ns facts kept i _ h.2).right.starts_with_brace
  brace_is (Postfix t op) i used h = (of_node ns facts kept i _ h.2).right.starts_with_brace ∙ ap (λ (z : Facts). z.starts_with_brace) (early ns facts kept i.0 h.0 (of_node ns facts kept i _ h.2).below) ∙ ap (λ z. z) (brace_is t h.0 h.1 h.4)
  brace_is (Prefix op e) i used h = (of_node ns facts kept i _ h.2).right.starts_with_brace
  brace_is (Binary l op r) i used h = (of_node ns facts kept i _ h.4).right.starts_with_brace ∙ ap (λ (z : Facts). z.starts_with_brace) (early ns facts kept i.0 h.0 (of_node ns facts kept i _ h.4).below.0) ∙ ap (λ z. z) (brace_is l h.0 h.2 h.6)
  brace_is (Cond c x y) i used h = (of_node ns facts kept i _ h.6).right.starts_with_brace ∙ ap (λ (z : Facts). z.starts_with_brace) (early ns facts kept i.0 h.0 (of_node ns facts kept i _ h.6).below.0) ∙ ap (λ z. z) (brace_is c h.0 h.3 h.8)
  brace_is (Assign t op e) i used h = (of_node ns facts kept i _ h.4).right.starts_with_brace ∙ ap (λ (z : Facts). z.starts_with_brace) (early ns facts kept i.0 h.0 (of_node ns facts kept i _ h.4).below.0) ∙ ap (λ z. z) (brace_is t h.0 h.2 h.6)
  brace_is (Comma l r) i used h = (of_node ns facts kept i _ h.4).right.starts_with_brace ∙ ap (λ (z : Facts). z.starts_with_brace) (early ns facts kept i.0 h.0 (of_node ns facts kept i _ h.4).below.0) ∙ ap (λ z. z) (brace_is l h.0 h.2 h.6)

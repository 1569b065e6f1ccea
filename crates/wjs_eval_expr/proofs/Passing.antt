-- A completion that nothing waits for is the expression's own (ECMA-262, 3rd edition, section 11).
use Rattle.std.proofs.Common.{◌≡◌, Bool, true, false, refl}
use Rattle.wjs_base.specs.declared.values.Value.{Value as NumberedValue}
use Rattle.wjs_base.specs.Text.{Table}
use Rattle.wjs_base.specs.declared.ids.NodeId.{NodeId}
use Rattle.wjs_tree.specs.declared.operators.UpdateOperator.{UpdateOperator}
use Rattle.wjs_tree.specs.declared.operators.BinaryOperator.{BinaryOperator}
use Rattle.wjs_tree.specs.declared.operators.BinaryOperator.TheVariants as binary
use Rattle.wjs_tree.specs.declared.operators.AssignOperator.{AssignOperator}
use Rattle.wjs_by_content.specs.Values.{Value}
use Rattle.wjs_meaning.specs.Trees.{Node}
use Rattle.wjs_meaning.specs.Deeds.{Env, Ret, Reference, Completion, Gives, Refers}
use Rattle.wjs_model.specs.declared.frame.Completion.{Completion as NumberedCompletion}
use Rattle.wjs_model.specs.declared.frame.Completion.TheVariants as completions
use Rattle.wjs_model.specs.declared.frame.Reference.{Reference as NumberedReference}
use Rattle.wjs_model.specs.declared.point.Fix.{Fix}
use Rattle.wjs_model.specs.declared.point.ExprPoint.{ExprPoint}
use Rattle.wjs_model.specs.declared.point.ExprPoint.TheVariants as points
use Rattle.wjs_model.specs.Contents.{Holding, completion_in}
use Rattle.wjs_model.specs.Waiting.{after_expr, operand_first, operand_second}

-- ---- neither a value nor a reference

abbrev pub passes : Completion → Bool
passes (Gives v) = false
passes (Refers r) = false
passes _ = true

pub passes_in : (t : Table) (c : NumberedCompletion) → ((v : NumberedValue) → c ≡ completions.Gives v → ⊥) → ((r : NumberedReference) → c ≡ completions.Refers r → ⊥) → passes (completion_in t c) ≡ true
passes_in t (completions.Gives v) n m = absurd (n v refl)
passes_in t (completions.Refers r) n m = absurd (m r refl)
passes_in t c n m = refl

module _ (v : Value) (env : Env) where
  first_passes : (c : Completion) (op : BinaryOperator) → passes c ≡ true → Ret c ≡ operand_first op v env c
  first_passes (Gives w) op k = absurd cc
  first_passes (Refers r) op k = absurd cc
  first_passes c binary.Add k = refl
  first_passes c op k = refl

  second_passes : (c : Completion) (op : BinaryOperator) → passes c ≡ true → Ret c ≡ operand_second op v env c
  second_passes (Gives w) op k = absurd cc
  second_passes (Refers r) op k = absurd cc
  second_passes c binary.Add k = refl
  second_passes c op k = refl

pub expr_passes : (node : Node) (held : Holding) (env : Env) (c : Completion) (p : ExprPoint) → passes c ≡ true → Ret c ≡ after_expr p node held env c
expr_passes node held env (Gives w) p k = absurd cc
expr_passes node held env (Refers r) p k = absurd cc
expr_passes node held env c (points.OperandFirst op) k = first_passes held.value env c op k
expr_passes node held env c (points.OperandSecond op) k = second_passes held.value env c op k
expr_passes node held env c p k = refl

-- ---- a reference where a value is waited for

pub record WaitsForValue (p : ExprPoint) : Type 0 where
  pub callee : p ≡ points.CalleeTarget → ⊥
  pub update : (fix : Fix) (op : UpdateOperator) → p ≡ points.UpdateTarget fix op → ⊥
  pub deleted : p ≡ points.DeleteTarget → ⊥
  pub typed : p ≡ points.TypeofTarget → ⊥
  pub assigned : (sign : AssignOperator) (right : NodeId) → p ≡ points.AssignTarget sign right → ⊥

module _ (v : Value) (env : Env) (r : Reference) where
  first_refers : (op : BinaryOperator) → Ret (Refers r) ≡ operand_first op v env (Refers r)
  first_refers binary.Add = refl
  first_refers op = refl

  second_refers : (op : BinaryOperator) → Ret (Refers r) ≡ operand_second op v env (Refers r)
  second_refers binary.Add = refl
  second_refers op = refl

pub expr_refers : (node : Node) (held : Holding) (env : Env) (r : Reference) (p : ExprPoint) → WaitsForValue p → Ret (Refers r) ≡ after_expr p node held env (Refers r)
expr_refers node held env r points.CalleeTarget w = absurd (w.callee refl)
expr_refers node held env r (points.UpdateTarget fix op) w = absurd (w.update fix op refl)
expr_refers node held env r points.DeleteTarget w = absurd (w.deleted refl)
expr_refers node held env r points.TypeofTarget w = absurd (w.typed refl)
expr_refers node held env r (points.AssignTarget sign right) w = absurd (w.assigned sign right refl)
expr_refers node held env r (points.OperandFirst op) w = first_refers held.value env r op
expr_refers node held env r (points.OperandSecond op) w = second_refers held.value env r op
expr_refers node held env r p w = refl

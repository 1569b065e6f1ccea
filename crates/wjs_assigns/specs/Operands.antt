-- Operands that may be targets (ECMA-262, 3rd edition, sections 8.7 and 11.4).
use Rattle.std.specs.Prelude.{ℕ, true, false}
use Rattle.wjs_meaning.specs.Trees.{is_target}
use Rattle.wjs_meaning.specs.Deeds.{Env, Act, Eval, AtExpr, AtTarget, Completion, tree_here}

-- an operand that is a target is entered as one
abbrev pub operand_at : ℕ → Env → (Completion → Act) → (Completion → Act) → Act
operand_at e env as_target as_value = elim (is_target (tree_here env) e) [ true ↦ Eval (AtTarget e) env as_target | false ↦ Eval (AtExpr e) env as_value ]

-- The cases of a `switch`.
use Rattle.std.specs.Prelude.{ℕ, List, Option, None, Some, drop}
use Rattle.wjs_by_content.specs.Values.{Value}
use Rattle.wjs_meaning.specs.Deeds.{Env, Act, Eval, AtExpr, then_value}
use Rattle.wjs_meaning.specs.Statements.{statements_of, switch_from, from_default}
use Rattle.wjs_model.specs.Waiting.{after_case}
use Rattle.wjs_blocks.specs.declared.clauses.Case.{Case}

-- what the case that was found does, or without one the statements from `default` on
abbrev pub case_goes : Value → List (Option ℕ × List ℕ) → Option Case → Env → Act
case_goes v all None env = switch_from (statements_of (from_default all)) env
case_goes v all (Some c) env = Eval (AtExpr c.test.0) env (then_value (after_case v all (drop c.at all) env))

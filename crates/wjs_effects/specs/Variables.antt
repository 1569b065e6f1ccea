-- The variables that a node declares.
use Rattle.std.specs.Prelude.{ℕ, List, [], Option, None, Some, drop}
use Rattle.wjs_tree.specs.declared.node.Declarator.{Declarator}
use Rattle.wjs_tree.specs.declared.node.ForInit.TheVariants as inits
use Rattle.wjs_tree.specs.declared.node.Node.{Node as NumberedNode}
use Rattle.wjs_tree.specs.declared.node.Node.TheVariants as nodes
use Rattle.wjs_by_content.specs.Values.{Text}
use Rattle.wjs_meaning.specs.Deeds.{Env, Act, Ret, Eval, AtExpr, Normal, then_value}
use Rattle.wjs_model.specs.Waiting.{store_variable}
use Rattle.wjs_effects.specs.declared.declarators.Initialiser.{Initialiser}

abbrev pub declarators_in : NumberedNode → List Declarator
declarators_in (nodes.Var xs end) = xs
declarators_in (nodes.For (inits.Var xs) t u s) = xs
declarators_in node = []

-- what the initialiser that was found does
abbrev pub initialiser_goes : ℕ → List (Text × Option ℕ) → Option Initialiser → Env → Act
initialiser_goes here all None env = Ret Normal
initialiser_goes here all (Some x) env = Eval (AtExpr x.value.0) env (then_value (store_variable here (drop x.at all) x.at env))

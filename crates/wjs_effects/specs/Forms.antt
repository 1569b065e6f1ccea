-- Expressions that store, by their form (ECMA-262, 3rd edition, sections 11.3, 11.4.4, 11.4.5 and 11.13).
use Rattle.wjs_tree.specs.Operators.{compound}
use Rattle.wjs_meaning.specs.Deeds.{Env, Act, Eval, AtTarget, then_reference}
use Rattle.wjs_meaning.specs.Expressions as line
use Rattle.wjs_model.specs.Waiting.{fix_in}
use Rattle.wjs_effects.specs.declared.stores.Storing.{Storing}
use Rattle.wjs_effects.specs.declared.stores.Storing.TheVariants.{Assigns, Updates}

-- its line
abbrev pub storing_in : Storing → Env → Act
storing_in (Assigns target sign right) env = Eval (AtTarget target.0) env (then_reference (line.assign_reference (compound sign) right.0 env))
storing_in (Updates target fix op) env = line.update_target (fix_in fix) op target.0 env

use Rattle.std.proofs.Common.{◌≡◌, ℕ, drop}
use Rattle.std.specs.Prelude.{map}
use Rattle.wjs_base.specs.Text.{Table}
use Rattle.wjs_meaning.specs.Deeds.{Env}
use Rattle.wjs_meaning.specs.Reading.{variable_in}
use Rattle.wjs_meaning.specs.Statements.{vars_from}
use Rattle.wjs_effects.proofs.declarators.initialiser_from.Given as goal

-- no variable so far has an initialiser
abbrev pub invariant-loop-at : goal.invariant-loop-at
invariant-loop-at l = (t : Table) (here : ℕ) (env : Env) → let all = map (variable_in t) l.declarators in vars_from here l.fn.from (drop l.fn.from all) env ≡ vars_from here l.at (drop l.at all) env

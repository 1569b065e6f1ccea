use Rattle.std.proofs.Common.{◌≡◌, ◌≤◌, drop}
use Rattle.std.specs.Prelude.{map}
use Rattle.wjs_base.specs.Text.{Table}
use Rattle.wjs_by_content.specs.Values.{Value}
use Rattle.wjs_meaning.specs.Deeds.{Env}
use Rattle.wjs_meaning.specs.Reading.{clause_in}
use Rattle.wjs_meaning.specs.Statements.{switch_cases}
use Rattle.wjs_blocks.proofs.clauses.case_from.Given as goal

-- no clause so far is a case
abbrev pub invariant-loop-at : goal.invariant-loop-at
invariant-loop-at l = record {
  reached : l.fn.from ≤ l.at;
  none : (t : Table) (v : Value) (env : Env) → let all = map (clause_in t) l.clauses in switch_cases v all (drop l.fn.from all) env ≡ switch_cases v all (drop l.at all) env;
}

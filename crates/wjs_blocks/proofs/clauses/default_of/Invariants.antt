use Rattle.std.proofs.Common.{◌≡◌, drop}
use Rattle.std.specs.Prelude.{map}
use Rattle.wjs_base.specs.Text.{Table}
use Rattle.wjs_meaning.specs.Reading.{clause_in}
use Rattle.wjs_meaning.specs.Statements.{from_default}
use Rattle.wjs_blocks.proofs.clauses.default_of.Given as goal

-- no clause so far is the `default`
abbrev pub invariant-loop-at : goal.invariant-loop-at
invariant-loop-at l = (t : Table) → from_default (map (clause_in t) l.clauses) ≡ from_default (drop l.at (map (clause_in t) l.clauses))

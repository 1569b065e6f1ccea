use Rattle.std.proofs.Common.{◌≡◌, drop}
use Rattle.std.specs.Prelude.{slice_get}
use Rattle.wjs_step_common.specs.Lists.{statements_of_clauses}
use Rattle.wjs_blocks.proofs.clauses.statement_at.Given as goal

-- the statement is among those of the clauses from here on
abbrev pub invariant-loop-clause : goal.invariant-loop-clause
invariant-loop-clause l = slice_get (statements_of_clauses (drop l.clause-index l.clauses)) l.left ≡ slice_get (statements_of_clauses l.clauses) l.fn.at

use Rattle.std.proofs.Common.{◌≡◌, ◌≤◌, drop}
use Rattle.wjs_step_common.specs.Lists.{statements_of_clauses}
use Rattle.wjs_blocks.proofs.clauses.statements_before.Given as goal

-- the statements behind so many are those of the clauses from here on
abbrev pub invariant-loop-at : goal.invariant-loop-at
invariant-loop-at l = record {
  reached : l.at ≤ l.clause;
  behind : drop l.before (statements_of_clauses l.clauses) ≡ statements_of_clauses (drop l.at l.clauses);
}

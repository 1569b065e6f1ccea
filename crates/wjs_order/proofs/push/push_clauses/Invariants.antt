use Rattle.std.proofs.Common.{◌≡◌, ◌≤◌, ◌++◌, length, drop}
use Rattle.wjs_scope.specs.Nesting.{clause_parts}
use Rattle.wjs_order.proofs.push.push_clauses.Given as goal

abbrev pub invariant-back : goal.invariant-back
invariant-back l = record {
  within : l.i ≤ length l.list;
  pushed : l.stack ≡ clause_parts (drop l.i l.list) ++ l.initial.stack;
}

abbrev pub decreases-back : goal.decreases-back
decreases-back l = l.i

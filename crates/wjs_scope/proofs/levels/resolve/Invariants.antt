use Rattle.wjs_scope.proofs.Opening.{Outwards}
use Rattle.wjs_scope.proofs.levels.resolve.Given as goal

abbrev pub invariant-loop-at : goal.invariant-loop-at
invariant-loop-at l = Outwards l.levels l.from l.name l.at l.hops

abbrev pub decreases-loop-at : goal.decreases-loop-at
decreases-loop-at l = l.at

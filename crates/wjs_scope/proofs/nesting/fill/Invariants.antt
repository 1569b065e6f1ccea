use Rattle.wjs_scope.proofs.Nested.{Walked}
use Rattle.wjs_scope.proofs.nesting.fill.Given as goal

abbrev pub invariant-loop-left : goal.invariant-loop-left
invariant-loop-left l = Walked l.nodes l.arguments l.fn.body l.marks l.levels.items l.left

abbrev pub decreases-loop-left : goal.decreases-loop-left
decreases-loop-left l = l.left

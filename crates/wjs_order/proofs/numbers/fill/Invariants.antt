use Rattle.wjs_order.proofs.Falling.{Filled}
use Rattle.wjs_order.proofs.numbers.fill.Given as goal

abbrev pub invariant-loop-left : goal.invariant-loop-left
invariant-loop-left l = Filled l.order l.numbers l.left

abbrev pub decreases-loop-left : goal.decreases-loop-left
decreases-loop-left l = l.left

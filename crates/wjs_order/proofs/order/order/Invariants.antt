use Rattle.std.proofs.Common.{◌-◌, length}
use Rattle.wjs_order.proofs.Taking.{Taking}
use Rattle.wjs_order.proofs.order.order.Given as goal

abbrev pub invariant-walk : goal.invariant-walk
invariant-walk l = Taking l.nodes l.fn.body l.order.items l.stack

abbrev pub decreases-walk : goal.decreases-walk
decreases-walk l = l.fn.body.0 - length l.order.items

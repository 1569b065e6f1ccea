use Rattle.wjs_order.specs.Renumbered.{number_in}
use Rattle.wjs_order.proofs.Moving.{Moved}
use Rattle.wjs_order.proofs.program.moved.Given as goal

abbrev pub invariant-loop-left : goal.invariant-loop-left
invariant-loop-left l = Moved l.old (number_in l.numbers) l.order l.left l.nodes

abbrev pub decreases-loop-left : goal.decreases-loop-left
decreases-loop-left l = l.left

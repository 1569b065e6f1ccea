use Rattle.wjs_labels.specs.Around.{around_of}
use Rattle.wjs_labels.proofs.Lists.{ElementsWalk}
use Rattle.wjs_labels.proofs.jumps.jumps_are_right.Given as goal

abbrev pub invariant-loop-element : goal.invariant-loop-element
invariant-loop-element l = ElementsWalk l.nodes (around_of l.around) 200 l.elements l.element-index

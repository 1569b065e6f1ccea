use Rattle.wjs_scope.proofs.Visiting.{FunctionsAdded}
use Rattle.wjs_scope.proofs.body.add_functions.Given as goal

abbrev pub invariant-loop-element : goal.invariant-loop-element
invariant-loop-element l = FunctionsAdded l.nodes l.elements l.initial.names l.element-index l.names

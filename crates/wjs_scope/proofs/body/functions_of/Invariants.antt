use Rattle.wjs_scope.proofs.Functions.{FunctionsWalk}
use Rattle.wjs_scope.proofs.body.functions_of.Given as goal

abbrev pub invariant-loop-element : goal.invariant-loop-element
invariant-loop-element l = FunctionsWalk l.nodes l.elements l.element-index l.functions.items

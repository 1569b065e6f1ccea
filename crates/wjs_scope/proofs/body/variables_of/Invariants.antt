use Rattle.wjs_scope.proofs.Lists.{ElementsWalk}
use Rattle.wjs_scope.proofs.body.variables_of.Given as goal

abbrev pub invariant-loop-element : goal.invariant-loop-element
invariant-loop-element l = ElementsWalk l.nodes 200 l.elements l.initial.vars l.element-index l.vars

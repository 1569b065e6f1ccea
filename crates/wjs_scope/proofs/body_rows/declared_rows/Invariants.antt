use Rattle.wjs_scope.specs.Bodies.{DeclaresTo}
use Rattle.wjs_scope.proofs.body_rows.declared_rows.Given as goal

abbrev pub invariant-loop-number : goal.invariant-loop-number
invariant-loop-number l = DeclaresTo l.nodes l.arguments l.number l.rows.items

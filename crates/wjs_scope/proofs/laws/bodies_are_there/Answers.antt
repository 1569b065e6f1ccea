use Rattle.wjs_scope.proofs.Bodies.{bodies_are_there as of_script}
use Rattle.wjs_scope.proofs.laws.bodies_are_there.Goals as goal

pub returns : goal.returns
returns c = of_script

use Rattle.wjs_programs.proofs.Declaring.{bodies_are_meant as law}
use Rattle.wjs_programs.proofs.bodies.bodies_are_meant.Goals as goal

pub returns : goal.returns
returns c = law

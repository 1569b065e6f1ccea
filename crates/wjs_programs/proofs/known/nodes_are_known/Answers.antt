use Rattle.wjs_programs.proofs.Knowing.{nodes_are_known as of_program}
use Rattle.wjs_programs.proofs.known.nodes_are_known.Goals as goal

pub returns : goal.returns
returns c = of_program

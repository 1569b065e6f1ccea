use Rattle.wjs_programs.proofs.OneProgram.{one_program}
use Rattle.wjs_programs.proofs.laws.one_program.Goals as goal

pub returns : goal.returns
returns c = one_program

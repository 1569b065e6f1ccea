use Rattle.wjs_programs.proofs.OneProgram.{program_or_none}
use Rattle.wjs_programs.proofs.laws.program_or_none.Goals as goal

pub returns : goal.returns
returns c = program_or_none

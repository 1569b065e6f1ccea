use Rattle.wjs_programs.proofs.Next.{parts_are_next}
use Rattle.wjs_programs.proofs.numbers.parts_are_next.Goals as goal

pub returns : goal.returns
returns c = parts_are_next

use Rattle.wjs_programs.proofs.Next.{labels_are_around}
use Rattle.wjs_programs.proofs.numbers.labels_are_around.Goals as goal

pub returns : goal.returns
returns c = labels_are_around

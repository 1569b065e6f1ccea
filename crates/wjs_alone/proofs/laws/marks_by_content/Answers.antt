use Rattle.wjs_alone.proofs.NamedMarks.{marks_lem}
use Rattle.wjs_alone.proofs.laws.marks_by_content.Goals as goal

pub returns : goal.returns
returns c = marks_lem

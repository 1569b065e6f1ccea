use Rattle.wjs_division.proofs.Texts.{part_texts}
use Rattle.wjs_division.proofs.Onward.{lines_go_on}
use Rattle.wjs_division.proofs.laws.parts_are_texts.Goals as goal

pub returns-clause-texts : goal.returns-clause-texts
returns-clause-texts c = part_texts

pub returns-clause-lines : goal.returns-clause-lines
returns-clause-lines c = lines_go_on

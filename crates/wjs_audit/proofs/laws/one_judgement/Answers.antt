use Rattle.wjs_audit.proofs.Judgements.{right_or_wrong, wrong_one, right_or_wrong_some}
use Rattle.wjs_audit.proofs.laws.one_judgement.Goals as goal

pub returns : goal.returns
returns c = record { either = right_or_wrong; line = wrong_one; some = right_or_wrong_some }

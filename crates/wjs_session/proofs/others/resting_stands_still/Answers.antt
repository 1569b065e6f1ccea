use Rattle.wjs_session.proofs.RestLaws.{stands_still}
use Rattle.wjs_session.proofs.others.resting_stands_still.Goals as goal

pub returns : goal.returns
returns c = stands_still

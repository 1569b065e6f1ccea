use Rattle.wjs_session.proofs.Leaving.{turns}
use Rattle.wjs_session.proofs.others.turns_leave_others.Goals as goal

pub returns : goal.returns
returns c = turns

use Rattle.wjs_session.proofs.Leaving.{begins}
use Rattle.wjs_session.proofs.others.begins_leave_others.Goals as goal

pub returns : goal.returns
returns c = begins

use Rattle.wjs_session.proofs.Leaving.{ends}
use Rattle.wjs_session.proofs.others.ends_leave_others.Goals as goal

pub returns : goal.returns
returns c = ends

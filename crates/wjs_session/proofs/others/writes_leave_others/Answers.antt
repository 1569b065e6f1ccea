use Rattle.wjs_session.proofs.Leaving.{writes}
use Rattle.wjs_session.proofs.others.writes_leave_others.Goals as goal

pub returns : goal.returns
returns c = writes

use Rattle.wjs_session.proofs.Leaving.{abandons}
use Rattle.wjs_session.proofs.others.abandons_leave_others.Goals as goal

pub returns : goal.returns
returns c = abandons

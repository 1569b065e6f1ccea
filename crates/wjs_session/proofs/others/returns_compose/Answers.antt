use Rattle.wjs_session.proofs.Leaving.{returns_compose}
use Rattle.wjs_session.proofs.others.returns_compose.Goals as goal

pub returns : goal.returns
returns c = returns_compose

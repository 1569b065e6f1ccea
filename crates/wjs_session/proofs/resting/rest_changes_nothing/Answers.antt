use Rattle.wjs_session.proofs.RestLaws.{rest_law}
use Rattle.wjs_session.proofs.resting.rest_changes_nothing.Goals as goal

pub returns : goal.returns
returns c = rest_law

use Rattle.wjs_session.proofs.Leaving.{numbers}
use Rattle.wjs_session.proofs.others.numbers_by_owner.Goals as goal

pub returns : goal.returns
returns c = numbers

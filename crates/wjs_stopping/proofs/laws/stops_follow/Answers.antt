use Rattle.wjs_stopping.proofs.Evaluating.{stops_follow}
use Rattle.wjs_stopping.proofs.laws.stops_follow.Goals as goal

pub returns : goal.returns
returns g c = stops_follow g.S.WorldStore.meaning

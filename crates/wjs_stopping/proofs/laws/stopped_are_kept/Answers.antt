use Rattle.wjs_stopping.proofs.Stopping.{keeps_stopped}
use Rattle.wjs_stopping.proofs.laws.stopped_are_kept.Goals as goal

pub returns : goal.returns
returns g c = keeps_stopped g.S.WorldStore.meaning

use Rattle.wjs_frames.proofs.Reaching.{reached_reached}
use Rattle.wjs_frames.proofs.laws.reached_is_reached.Goals as goal

pub returns : goal.returns
returns g c = reached_reached g.S.WorldStore.meaning

use Rattle.wjs_frames.proofs.Reaching.{turn_reaches}
use Rattle.wjs_frames.proofs.laws.turns_reach.Goals as goal

pub returns : goal.returns
returns g c = turn_reaches g.S.WorldStore.meaning

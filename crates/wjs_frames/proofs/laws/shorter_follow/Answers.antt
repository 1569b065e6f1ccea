use Rattle.wjs_frames.proofs.Shorter.{follows_shorter}
use Rattle.wjs_frames.proofs.laws.shorter_follow.Goals as goal

pub returns : goal.returns
returns g c = follows_shorter g.S.WorldStore.meaning

use Rattle.wjs_frames.proofs.Shorter.{follows_look}
use Rattle.wjs_frames.proofs.laws.looks_follow.Goals as goal

pub returns : goal.returns
returns g c = follows_look g.S.WorldStore.meaning

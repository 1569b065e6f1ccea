use Rattle.wjs_frames.proofs.Shorter.{shorten_ended}
use Rattle.wjs_frames.proofs.laws.nested_ends_shorten.Goals as goal

pub returns : goal.returns
returns c = shorten_ended

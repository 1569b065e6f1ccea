use Rattle.wjs_session.proofs.RestLaws.{is_sound}
use Rattle.wjs_session.proofs.others.resting_is_sound.Goals as goal

pub returns : goal.returns
returns c = is_sound

use Rattle.wjs_frames.proofs.Growing.{later_alike}
use Rattle.wjs_frames.proofs.laws.more_texts_outside_change_nothing.Goals as goal

pub returns : goal.returns
returns g c t u v config s grows later k = later_alike g.S.WorldStore.meaning t u v config s grows later k

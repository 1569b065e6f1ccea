use Rattle.wjs_frames.proofs.Growing.{left_alike}
use Rattle.wjs_frames.proofs.laws.more_texts_change_nothing.Goals as goal

pub returns : goal.returns
returns g c t v config s grows = left_alike g.S.WorldStore.meaning t v config s grows

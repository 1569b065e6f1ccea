use Rattle.wjs_model.proofs.Others.{keeps_apart}
use Rattle.wjs_model.proofs.laws.sound_keeps_apart.Goals as goal

pub returns : goal.returns
returns g c = λ d u s a rest. keeps_apart d u a g.S.WorldStore.meaning s rest

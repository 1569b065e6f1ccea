use Rattle.wjs_model.proofs.Others.{sound_listed}
use Rattle.wjs_model.proofs.laws.may_be_kept_apart.Goals as goal

pub returns : goal.returns
returns g c = λ d new s e k. sound_listed d new g.S.WorldStore.meaning s k e

use Rattle.wjs_model.proofs.Others.{stays_apart}
use Rattle.wjs_model.proofs.laws.kept_apart_stays.Goals as goal

pub returns : goal.returns
returns g c = λ old new u was stays is a kept. stays_apart g.S.WorldStore.meaning old new u was stays kept is a

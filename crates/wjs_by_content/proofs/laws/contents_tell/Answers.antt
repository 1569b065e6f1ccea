use Rattle.wjs_by_content.specs.Telling.{names_tell, slots_tell, values_tell}
use Rattle.wjs_by_content.proofs.laws.contents_tell.Goals as goal

pub returns : goal.returns
returns c = λ texts. record { names = names_tell texts; slots = slots_tell texts; values = values_tell texts }

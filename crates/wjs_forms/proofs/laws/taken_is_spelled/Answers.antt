use Rattle.wjs_forms.proofs.Spelled.{taken_is_spelled as by_rests}
use Rattle.wjs_forms.proofs.laws.taken_is_spelled.Goals as goal

pub returns : goal.returns
returns c = by_rests

use Rattle.wjs_forms.proofs.Preserving.{goes_on as on}
use Rattle.wjs_forms.proofs.laws.goes_on.Goals as goal

pub returns : goal.returns
returns c = on

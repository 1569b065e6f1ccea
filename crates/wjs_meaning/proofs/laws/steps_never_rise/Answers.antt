use Rattle.wjs_meaning.proofs.Steps.{steps_never_rise_lem}
use Rattle.wjs_meaning.proofs.laws.steps_never_rise.Goals as goal

pub returns : goal.returns
returns c = steps_never_rise_lem

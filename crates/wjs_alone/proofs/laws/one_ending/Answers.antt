use Rattle.wjs_alone.proofs.Budget.{one_ending_lem}
use Rattle.wjs_alone.proofs.laws.one_ending.Goals as goal

pub returns : goal.returns
returns c = one_ending_lem

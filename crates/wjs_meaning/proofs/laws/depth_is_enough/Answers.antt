use Rattle.wjs_meaning.proofs.Steps.{depth_is_enough_lem}
use Rattle.wjs_meaning.proofs.laws.depth_is_enough.Goals as goal

pub returns : goal.returns
returns c = depth_is_enough_lem

use Rattle.wjs_programs.proofs.Depths.{depth_is_enough}
use Rattle.wjs_programs.proofs.numbers.depth_is_enough.Goals as goal

pub returns : goal.returns
returns c = depth_is_enough

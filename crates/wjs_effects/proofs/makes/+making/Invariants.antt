use Rattle.std.proofs.Common.{◌+◌, ◌*◌}
use Rattle.wjs_effects.proofs.makes.+making.Given as goal

abbrev pub decreases-sum : goal.decreases-sum
decreases-sum g l = l.height * 2

abbrev pub decreases-sum_behind : goal.decreases-sum_behind
decreases-sum_behind g l = l.height * 2 + 1

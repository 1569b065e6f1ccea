use Rattle.std.proofs.Common.{sym}
use Rattle.wjs_step_common.proofs.Following.{follows_as}
use Rattle.wjs_quick.proofs.Operations.{left_is_held}
use Rattle.wjs_operators.proofs.binary.binary_left.Goals as goal

pub returns-in_default : goal.returns-in_default
returns-in_default g c = follows_as _ _ _ _ _ _ (λ grows. sym (left_is_held c.args.operator _ _ _ c.in_default.not-And c.in_default.not-Or)) c.hold_left.ensures

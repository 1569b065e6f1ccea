use Rattle.std.proofs.Common.{refl}
use Rattle.wjs_step_common.proofs.Following.{follows_as}
use Rattle.wjs_assigns.proofs.prefixes.plus_primitive.Goals as goal

pub returns : goal.returns
returns g c = follows_as _ _ _ _ _ _ (λ grows. rw (c.to_number-number.ensures _ grows) refl) c.finish.ensures

use Rattle.std.proofs.Common.{refl}
use Rattle.wjs_step_common.proofs.Following.{follows_as}
use Rattle.wjs_assigns.proofs.prefixes.not_value.Goals as goal

pub returns : goal.returns
returns g c = follows_as _ _ _ _ _ _ (λ grows. rw (c.to_boolean-truth.ensures _ grows) refl) c.finish.ensures

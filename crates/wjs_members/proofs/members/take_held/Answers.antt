use Rattle.std.proofs.Common.{refl}
use Rattle.wjs_step_common.proofs.Following.{follows_as}
use Rattle.wjs_members.proofs.members.take_held.Goals as goal

pub returns : goal.returns
returns g c = follows_as _ _ _ _ _ _ (λ grows. rw c.held_value-base.ensures.is refl) c.take.ensures

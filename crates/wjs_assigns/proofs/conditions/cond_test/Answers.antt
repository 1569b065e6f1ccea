use Rattle.std.proofs.Common.{refl}
use Rattle.wjs_step_common.proofs.Following.{follows_as}
use Rattle.wjs_assigns.proofs.conditions.cond_test.Goals as goal

pub returns-then-to_boolean : goal.returns-then-to_boolean
returns-then-to_boolean g c = follows_as _ _ _ _ _ _ (λ grows. rw (c.to_boolean.ensures _ grows, c.if-to_boolean.true) refl) c.enter_last_quickly.ensures

use Rattle.std.proofs.Common.{refl}
use Rattle.wjs_step_common.proofs.Following.{follows_as}
use Rattle.wjs_literals.proofs.calls.call_start.Goals as goal

pub returns-then-is_target : goal.returns-then-is_target
returns-then-is_target g c = follows_as _ _ _ _ _ _ (λ grows. rw (c.is_target.ensures c.target_called.new.config.heap.texts, c.if-is_target.true) refl) c.target_called.ensures

pub returns-else-is_target : goal.returns-else-is_target
returns-else-is_target g c = follows_as _ _ _ _ _ _ (λ grows. rw (c.is_target.ensures c.value_called.new.config.heap.texts, c.if-is_target.false) refl) c.value_called.ensures

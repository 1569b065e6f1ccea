use Rattle.std.proofs.Common.{refl, sym}
use Rattle.wjs_step_common.proofs.Following.{follows_as}
use Rattle.wjs_assigns.proofs.updates.update_number.Goals as goal

pub returns-in-Ok : goal.returns-in-Ok
returns-in-Ok g c = follows_as _ _ _ _ _ _ (λ grows. rw (sym c.in-Ok.ensures, c.given-given.ensures) refl) c.store_and_give.ensures

pub returns-in-Err : goal.returns-in-Err
returns-in-Err g c = follows_as _ _ _ _ _ _ (λ grows. rw (sym c.in-Err.ensures, c.trouble_of.ensures) refl) c.throw.ensures

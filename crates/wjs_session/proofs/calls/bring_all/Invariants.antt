use Rattle.std.proofs.Common.{◌≡◌, take}
use Rattle.wjs_session.specs.Stores.{worlds_in}
use Rattle.wjs_session.specs.Calls.{AllTouched}
use Rattle.wjs_session.proofs.Bringing.{Begun}
use Rattle.wjs_session.proofs.calls.bring_all.Given as goal

abbrev pub invariant-loop-place : goal.invariant-loop-place
invariant-loop-place l = Begun (worlds_in l.fn.shared) l.world (worlds_in l.fn.inner) l.object (take l.place l.names) (worlds_in l.shared) (worlds_in l.inner) × (l.shared.spent ≡ l.fn.shared.spent) × (l.inner.spent ≡ l.fn.inner.spent) × (AllTouched (worlds_in l.fn.shared) l.world l.object → worlds_in l.shared ≡ worlds_in l.fn.shared)

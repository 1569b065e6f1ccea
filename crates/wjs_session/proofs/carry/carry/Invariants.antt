use Rattle.std.proofs.Common.{◌≡◌}
use Rattle.std.specs.FinMap as map
use Rattle.wjs_layers.specs.Cursor.{to_come, count_passing}
use Rattle.wjs_session.specs.Session.{world_at}
use Rattle.wjs_session.specs.Stores.{worlds_in}
use Rattle.wjs_session.proofs.CarryLaws.{Carries}
use Rattle.wjs_session.proofs.ToCome.{IsToWrite}
use Rattle.wjs_session.proofs.carry.carry.Given as goal

abbrev pub invariant-slots : goal.invariant-slots
invariant-slots l = Carries (worlds_in l.fn.shared) l.world (worlds_in l.fn.inner) l.at l.passed (worlds_in l.shared) × (worlds_in l.inner ≡ worlds_in l.fn.inner) × (l.shared.spent ≡ l.fn.shared.spent) × (l.inner.spent ≡ l.fn.inner.spent) × IsToWrite (worlds_in l.fn.inner) l.at l.world (worlds_in l.fn.shared) l.passed (worlds_in l.shared)

abbrev pub decreases-slots : goal.decreases-slots
decreases-slots l = count_passing (to_come l.passed) (map.keys (world_at (worlds_in l.fn.inner) l.at).written)

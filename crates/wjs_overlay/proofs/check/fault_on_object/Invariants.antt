use Rattle.std.proofs.Common.{◌≡◌, ◌+◌, ◌*◌, ◌≤◌, false, IfSome, Some, None}
use Rattle.wjs_base.specs.declared.values.Slot.{Slot}
use Rattle.wjs_store.specs.Naming.{plain}
use Rattle.wjs_store.specs.State.{World, find_world}
use Rattle.wjs_layers.specs.Sparse.{full_of, depth_of}
use Rattle.wjs_overlay.specs.Check.{is_unseen}
use Rattle.wjs_layers.specs.Cursor.{to_come, comes_on}
use Rattle.wjs_layers.specs.Work.{kept_from}
use Rattle.wjs_overlay.proofs.check.fault_on_object.Given as goal

abbrev pub invariant-slots : goal.invariant-slots
invariant-slots g l = record {
  on : IfSome l.passed (λ (s : Slot). s.object ≡ l.object);
  before : (x y : World plain) → find_world (full_of l.layers) l.fn.world.world ≡ Some x → find_world (full_of l.layers) l.above.world ≡ Some y → (t : Slot) → t.object ≡ l.object → to_come l.passed t ≡ false → is_unseen x y t ≡ false;
  cost : l.steps + kept_from (comes_on l.object l.passed) (full_of l.layers) l.above.world * (3 * depth_of (full_of l.layers) l.above.world + 4) ≤ l.fn.steps + kept_from (comes_on l.object None) (full_of l.layers) l.above.world * (3 * depth_of (full_of l.layers) l.above.world + 4);
}

abbrev pub decreases-slots : goal.decreases-slots
decreases-slots g l = kept_from (comes_on l.object l.passed) (full_of l.layers) l.above.world

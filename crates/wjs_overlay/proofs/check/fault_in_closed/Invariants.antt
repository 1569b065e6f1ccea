use Rattle.std.proofs.Common.{◌≡◌, ◌+◌, ◌*◌, ◌≤◌, length, true, false, ◌&&◌, Some}
use Rattle.std.specs.FinMap as map
use Rattle.wjs_base.specs.declared.ids.ObjId.{ObjId}
use Rattle.wjs_base.specs.declared.values.Slot.{Slot}
use Rattle.wjs_store.specs.Naming.{plain}
use Rattle.wjs_store.specs.State.{World, find_world}
use Rattle.wjs_layers.specs.Sparse.{full_of, depth_of}
use Rattle.wjs_overlay.specs.Check.{is_unseen, object_before}
use Rattle.wjs_layers.specs.Work.{kept_from}
use Rattle.wjs_overlay.proofs.Lefts.{objects_left, comes_closed}
use Rattle.wjs_overlay.proofs.check.fault_in_closed.Given as goal

abbrev pub invariant-objects : goal.invariant-objects
invariant-objects g l = record {
  there : (o : ObjId) → l.next ≡ Some o → map.contains_key l.layer.closed o ≡ true;
  before : (x y : World plain) → find_world (full_of l.layers) l.fn.world.world ≡ Some x → find_world (full_of l.layers) l.above.world ≡ Some y → (t : Slot) → object_before t.object l.next ≡ true → (map.contains_key x.closed t.object && is_unseen x y t) ≡ false;
  cost : l.steps + (objects_left l.layer.closed l.next * (depth_of (full_of l.layers) l.above.world + 2) + kept_from (comes_closed l.layer.closed l.next) (full_of l.layers) l.above.world * (3 * depth_of (full_of l.layers) l.above.world + 4)) ≤ l.fn.steps + (length (map.keys l.layer.closed) * (depth_of (full_of l.layers) l.above.world + 2) + kept_from (λ (s : Slot). map.contains_key l.layer.closed s.object) (full_of l.layers) l.above.world * (3 * depth_of (full_of l.layers) l.above.world + 4) + 1);
}

abbrev pub decreases-objects : goal.decreases-objects
decreases-objects g l = objects_left l.layer.closed l.next

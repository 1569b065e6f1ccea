use Rattle.std.proofs.Common.{◌≡◌, ◌+◌, ◌*◌, ◌≤◌, length, true, false, not, Some}
use Rattle.std.specs.FinMap as map
use Rattle.wjs_base.specs.declared.values.Slot.{Slot}
use Rattle.wjs_store.specs.Naming.{plain}
use Rattle.wjs_store.specs.State.{World, find_world}
use Rattle.wjs_layers.specs.declared.maps.Row.{Row}
use Rattle.wjs_layers.specs.Sparse.{full_of, depth_of}
use Rattle.wjs_overlay.specs.Check.{differs}
use Rattle.wjs_layers.specs.Cursor.{is_before, count_passing}
use Rattle.wjs_overlay.proofs.Checks.{slot_of}
use Rattle.wjs_overlay.proofs.check.fault_in_reads.Given as goal

abbrev pub invariant-rows : goal.invariant-rows
invariant-rows g l = record {
  there : (e : Slot × Row) → l.next ≡ Some e → map.get l.layer.rows e.0 ≡ Some e.1;
  before : (x y : World plain) → find_world (full_of l.layers) l.fn.world.world ≡ Some x → find_world (full_of l.layers) l.above.world ≡ Some y → (t : Slot) → is_before t (slot_of l.next) ≡ true → differs x y t ≡ false;
  cost : l.steps + count_passing (λ t. not (is_before t (slot_of l.next))) (map.keys l.layer.rows) * (2 * depth_of (full_of l.layers) l.above.world + 3) ≤ l.fn.steps + (length (map.keys l.layer.rows) * (2 * depth_of (full_of l.layers) l.above.world + 3) + 1);
}

abbrev pub decreases-rows : goal.decreases-rows
decreases-rows g l = count_passing (λ t. not (is_before t (slot_of l.next))) (map.keys l.layer.rows)

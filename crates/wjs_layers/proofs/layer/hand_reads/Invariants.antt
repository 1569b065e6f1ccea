use Rattle.std.proofs.Common.{◌≡◌, ◌+◌, ◌*◌, ◌≤◌, true, is_some, fold, take}
use Rattle.wjs_store.specs.Naming.{plain}
use Rattle.wjs_store.specs.State.{World}
use Rattle.wjs_layers.specs.Moves.{handed, ReadsAgree}
use Rattle.wjs_layers.specs.Sparse.{Keeps}
use Rattle.wjs_layers.proofs.layer.hand_reads.Given as goal

abbrev pub invariant-loop-slot : goal.invariant-loop-slot
invariant-loop-slot g l = record {
  above : l.layer.above ≡ l.fn.layer.above;
  kept : (y : World plain) → Keeps l.fn.layer y → is_some y.parent ≡ true → ReadsAgree l.rows y → Keeps l.layer (fold handed y (take l.slot-index l.rows));
  cost : l.steps ≤ l.fn.steps + 3 * l.slot-index;
}

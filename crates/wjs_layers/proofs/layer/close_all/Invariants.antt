use Rattle.std.proofs.Common.{◌≡◌, ◌+◌, ◌≤◌, take}
use Rattle.wjs_store.specs.Naming.{plain}
use Rattle.wjs_store.specs.State.{World}
use Rattle.wjs_layers.specs.Moves.{closed_all}
use Rattle.wjs_layers.specs.Sparse.{Keeps}
use Rattle.wjs_layers.proofs.layer.close_all.Given as goal

abbrev pub invariant-loop-object : goal.invariant-loop-object
invariant-loop-object g l = record {
  above : l.layer.above ≡ l.fn.layer.above;
  kept : (y : World plain) → Keeps l.fn.layer y → Keeps l.layer (closed_all (take l.object-index l.objects) y);
  cost : l.steps ≤ l.fn.steps + l.object-index;
}

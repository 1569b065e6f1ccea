use Rattle.std.proofs.Common.{◌≡◌, ◌+◌, ◌*◌, ◌<◌, ◌≤◌, length}
use Rattle.wjs_store.specs.State.{content_at}
use Rattle.wjs_layers.specs.Sparse.{IsAt, full_of, depth_of}
use Rattle.wjs_layers.proofs.layers.content.Given as goal

abbrev pub invariant-up : goal.invariant-up
invariant-up g l = record {
  there : IsAt l.layers l.at;
  bound : l.at.place < length l.layers;
  same : content_at (full_of l.layers) l.at.world l.slot ≡ content_at (full_of l.layers) l.fn.world.world l.slot;
  cost : l.steps + (2 * depth_of (full_of l.layers) l.at.world) ≤ l.fn.steps + (2 * depth_of (full_of l.layers) l.fn.world.world);
}

abbrev pub decreases-up : goal.decreases-up
decreases-up g l = l.at.place

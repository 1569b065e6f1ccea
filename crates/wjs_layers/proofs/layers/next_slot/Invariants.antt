use Rattle.std.proofs.Common.{◌+◌, ◌<◌, ◌≤◌, length}
use Rattle.wjs_layers.specs.Sparse.{IsAt, full_of, depth_of}
use Rattle.wjs_layers.proofs.Scans.{Scan}
use Rattle.wjs_layers.proofs.layers.next_slot.Given as goal

abbrev pub invariant-up : goal.invariant-up
invariant-up g l = record {
  there : IsAt l.layers l.at;
  bound : l.at.place < length l.layers;
  scan : Scan l.layers l.fn.world.world l.object l.passed l.least l.at.world;
  cost : l.steps + depth_of (full_of l.layers) l.at.world ≤ l.fn.steps + depth_of (full_of l.layers) l.fn.world.world;
}

abbrev pub decreases-up : goal.decreases-up
decreases-up g l = l.at.place

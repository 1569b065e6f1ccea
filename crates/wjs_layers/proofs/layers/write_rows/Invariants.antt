use Rattle.std.proofs.Common.{◌≡◌, ◌+◌, ◌*◌, ◌≤◌, drop}
use Rattle.wjs_layers.specs.Sparse.{full_of, depth_of, IsSparse, IsAt}
use Rattle.wjs_layers.specs.Moves.{written_rows}
use Rattle.wjs_layers.proofs.layers.write_rows.Given as goal

abbrev pub invariant-loop-slot : goal.invariant-loop-slot
invariant-loop-slot g l = record {
  sparse : IsSparse l.layers;
  there : IsAt l.layers l.world;
  rest : written_rows l.world.world (drop l.slot-index l.rows) (full_of l.layers) ≡ written_rows l.world.world l.rows (full_of l.fn.layers);
  depth : depth_of (full_of l.layers) l.world.world ≡ depth_of (full_of l.fn.layers) l.world.world;
  cost : l.steps ≤ l.fn.steps + l.slot-index * (2 * depth_of (full_of l.fn.layers) l.world.world + 3);
}

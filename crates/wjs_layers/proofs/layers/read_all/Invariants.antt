use Rattle.std.proofs.Common.{◌≡◌, drop}
use Rattle.wjs_layers.specs.Sparse.{full_of, IsSparse, IsAt, after_reads}
use Rattle.wjs_layers.proofs.layers.read_all.Given as goal

abbrev pub invariant-loop-slot : goal.invariant-loop-slot
invariant-loop-slot g l = record {
  sparse : IsSparse l.layers;
  there : IsAt l.layers l.world;
  rest : after_reads l.world.world (drop l.slot-index l.slots) (full_of l.layers) ≡ after_reads l.world.world l.slots (full_of l.fn.layers);
}

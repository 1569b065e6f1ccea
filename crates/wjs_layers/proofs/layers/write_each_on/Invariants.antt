use Rattle.std.proofs.Common.{◌≡◌, drop}
use Rattle.wjs_store.specs.State.{write_all}
use Rattle.wjs_store.specs.Meaning.{entries_of}
use Rattle.wjs_layers.specs.Sparse.{full_of, IsSparse, IsAt}
use Rattle.wjs_layers.proofs.layers.write_each_on.Given as goal

abbrev pub invariant-loop-row : goal.invariant-loop-row
invariant-loop-row g l = record {
  sparse : IsSparse l.layers;
  there : IsAt l.layers l.world;
  rest : write_all l.world.world (entries_of l.object (drop l.row-index l.rows)) (full_of l.layers) ≡ write_all l.world.world (entries_of l.object l.rows) (full_of l.fn.layers);
}

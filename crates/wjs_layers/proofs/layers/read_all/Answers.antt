use Rattle.std.proofs.Common.{ap, ◌∙◌, arith}
use Rattle.wjs_layers.specs.Sparse.{full_of, place_of}
use Rattle.wjs_layers.proofs.ListLaws.{reads_more, read_places}
use Rattle.wjs_layers.proofs.layers.read_all.Goals as goal

pub loop-slot-preserved : goal.loop-slot-preserved
loop-slot-preserved g c =
    let a = c.in_ok-read.ensures.after in
    record {
      sparse = a.sparse;
      there = ap (λ F. place_of F c.args.world.world) a.full ∙ read_places (full_of c.loop-slot.layers) c.args.world.world _ c.args.world.world ∙ c.loop-slot.invariant.there;
      rest = reads_more c.args.world.world c.args.slots.now c.loop-slot.slot-index _ (full_of c.loop-slot.layers) (full_of c.read.new.layers) _ (omega arith) a.full c.loop-slot.invariant.rest;
    }

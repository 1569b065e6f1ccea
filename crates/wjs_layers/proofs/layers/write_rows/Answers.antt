use Rattle.std.proofs.Common.{ap, ◌∙◌, arith}
use Rattle.wjs_layers.specs.Sparse.{now_of, full_of, place_of, depth_of}
use Rattle.wjs_layers.proofs.SettleLaws.{written_more, row_places}
use Rattle.wjs_layers.proofs.Depths.{depth_row}
use Rattle.wjs_layers.proofs.layers.write_rows.Goals as goal

pub loop-slot-preserved : goal.loop-slot-preserved
loop-slot-preserved g c =
    let a = c.in_ok-write_row.ensures.after in
    let e = c.loop-slot-item.result in
    let d = c.loop-slot.invariant.depth in
    record {
      depth = ap (λ F. depth_of F c.args.world.world) a.full ∙ depth_row e.1.written (full_of c.loop-slot.layers) c.args.world.world e.0 (now_of e.1) c.args.world.world ∙ d;
      cost = omega (arith, d, c.loop-slot.invariant.cost, c.write_row.ensures.steps);
      sparse = a.sparse;
      there = ap (λ F. place_of F c.args.world.world) a.full ∙ row_places e.1.written c.args.world.world e.0 (now_of e.1) (full_of c.loop-slot.layers) c.args.world.world ∙ c.loop-slot.invariant.there;
      rest = written_more c.args.world.world c.args.rows.now c.loop-slot.slot-index e (full_of c.loop-slot.layers) (full_of c.write_row.new.layers) _ (omega arith) c.loop-slot-item.is a.full c.loop-slot.invariant.rest;
    }

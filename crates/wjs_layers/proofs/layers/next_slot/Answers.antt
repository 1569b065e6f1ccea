use Rattle.std.proofs.Common.{sym, subst, arith}
use Rattle.wjs_layers.specs.Sparse.{full_of}
use Rattle.wjs_layers.specs.Cursor.{IsNextSlot}
use Rattle.wjs_layers.proofs.Places.{slice_read}
use Rattle.wjs_layers.proofs.Looks.{above_at, depth_above, below_at}
use Rattle.wjs_layers.proofs.Scans.{Scan, scan_start, scan_up, scan_end}
use Rattle.wjs_layers.proofs.layers.next_slot.Goals as goal

pub up-init : goal.up-init
up-init g c = record { there = c.requires.there; bound = below_at c.args.layers.now c.args.world c.requires.sparse c.requires.there; scan = scan_start c.args.layers.now c.args.world.world c.args.object c.args.passed; cost = omega arith }

pub returns-in-None-clause-next : goal.returns-in-None-clause-next
returns-in-None-clause-next g c = subst (IsNextSlot (full_of c.args.layers.now) c.args.world.world c.args.object c.args.passed) (sym c.lesser-least.ensures) (scan_end c.args.layers.now c.requires.sparse c.args.world.world c.args.object c.args.passed c.up.least c.up.at c.up.invariant.there c.index-layers-at.result (slice_read c.args.layers.now c.up.at.place c.index-layers-at.result c.index-layers-at.is c.up.invariant.bound) c.next_row.result c.next_row.ensures.next c.up.invariant.scan (sym c.in-None.ensures))

pub up-smaller : goal.up-smaller
up-smaller g c = (above_at c.args.layers.now c.requires.sparse c.up.at c.up.invariant.there c.index-layers-at.result (slice_read c.args.layers.now c.up.at.place c.index-layers-at.result c.index-layers-at.is c.up.invariant.bound) c.in-Some.above (sym c.in-Some.ensures)).1

pub up-preserved : goal.up-preserved
up-preserved g c =
    let a = above_at c.args.layers.now c.requires.sparse c.up.at c.up.invariant.there c.index-layers-at.result (slice_read c.args.layers.now c.up.at.place c.index-layers-at.result c.index-layers-at.is c.up.invariant.bound) c.in-Some.above (sym c.in-Some.ensures) in
    let d = depth_above c.args.layers.now c.requires.sparse c.up.at c.up.invariant.there c.index-layers-at.result (slice_read c.args.layers.now c.up.at.place c.index-layers-at.result c.index-layers-at.is c.up.invariant.bound) c.in-Some.above (sym c.in-Some.ensures) in
    record {
      there = a.0;
      bound = below_at c.args.layers.now c.in-Some.above c.requires.sparse a.0;
      scan = subst (λ n. Scan c.args.layers.now c.args.world.world c.args.object c.args.passed n c.in-Some.above.world) (sym c.lesser-least.ensures) (scan_up c.args.layers.now c.requires.sparse c.args.world.world c.args.object c.args.passed c.up.least c.up.at c.up.invariant.there c.index-layers-at.result (slice_read c.args.layers.now c.up.at.place c.index-layers-at.result c.index-layers-at.is c.up.invariant.bound) c.next_row.result c.next_row.ensures.next c.up.invariant.scan c.in-Some.above (sym c.in-Some.ensures));
      cost = omega (arith, d, c.up.invariant.cost, c.next_row.ensures.step);
    }

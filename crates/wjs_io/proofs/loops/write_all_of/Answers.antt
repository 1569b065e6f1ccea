use Rattle.std.proofs.Common.{◌<◌, le_trans, arith}
use Rattle.wjs_io.proofs.Pieces.{Appends-piece, length-slice_range}
use Rattle.wjs_io.proofs.loops.write_all_of.Goals as goal

pub loop-gone-preserved : goal.loop-gone-preserved
loop-gone-preserved g c =
    let bytes = c.args.bytes.now in
    let before = c.loop-gone.invariant in
    let call = c.in-Ok.ensures in
    let some : 0 < c.in-Ok.taken = call.progress (length-slice_range bytes c.loop-gone.gone c.loop-gone-test.true) in
    record {
      within = search (arith, call.bound);
      appended = Appends-piece _ _ _ bytes _ c.in-Ok.taken before.appended call.bytes;
      never_falls = le_trans before.never_falls call.cause.never_falls;
      untouched = λ none. absurd (omega arith);
    }

use Rattle.std.proofs.Common.{drop, arith, ap, ◌∙◌, length-append, length-drop, length-take}
use Rattle.wjs_io.proofs.Pieces.{slice_range-to_end, append-copied, drop-none_copied}
use Rattle.wjs_io.proofs.memory.MemSourceSource.read.Goals as goal

pub returns-clause-bytes : goal.returns-clause-bytes
returns-clause-bytes c =
    let at = c.self.inside.at in
    let buf = c.args.buf.now in
    let n = c.min-count.result in
    let piece = c.copy_from_slice in
    let is = slice_range-to_end c.deref.result.now at ∙ ap (drop at) c.deref.ensures.value in
    rw (← c.self.view_is) (
      append-copied _ _ _ _ at n is piece.ensures.after (omega arith),
      λ none room. drop-none_copied _ _ at _ c.min.result is c.min-count.ensures
          (omega (
            arith,
            none,
            room,
            c.min.ensures,
            c.self.invariant.1,
            piece.ensures.len,
            length-append piece.new.self (drop n buf),
            length-drop n buf,
            length-take n buf,
          )) none,
    )

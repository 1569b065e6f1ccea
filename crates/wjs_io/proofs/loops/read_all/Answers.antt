use Rattle.std.proofs.Common.{◌≡◌, ◌≤◌, ◌+◌, length, refl, arith}
use Rattle.std.proofs.lemmas.Result.{err_from_is_err_and}
use Rattle.wjs_io.proofs.Pieces.{Takes-piece}
use Rattle.wjs_io.proofs.loops.read_all.Goals as goal

pub returns-then-taken-room-clause-stops : goal.returns-then-taken-room-clause-stops
returns-then-taken-room-clause-stops g c =
    let bytes = c.loop-bytes.bytes in
    let buffer = c.read_piece.new.buffer in
    let n = c.in_ok-taken.taken in
    let fits : n ≤ length buffer = omega (arith, c.in_ok-taken.ensures.bound) in
    let one_past : length bytes.items + n ≡ c.args.limit + 1 = omega (arith, c.in_ok-taken.ensures.bound, bytes.ok.0) in
    Takes-piece _ _ _ bytes.items buffer n _ fits one_past c.loop-bytes.invariant.taken c.in_ok-taken.ensures.taken

pub returns-in_err-extend_from_slice-clause-stops : goal.returns-in_err-extend_from_slice-clause-stops
returns-in_err-extend_from_slice-clause-stops g c =
    let bytes = c.loop-bytes.bytes in
    let buffer = c.read_piece.new.buffer in
    let n = c.in_ok-taken.taken in
    let fits : n ≤ length buffer = omega (arith, c.in_ok-taken.ensures.bound) in
    let within : length bytes.items + n ≤ c.args.limit = omega (arith, bytes.ok.0) in
    let fault = c.from_residual-in_err-extend_from_slice in
    let p = err_from_is_err_and fault.result fault.ensures.1 in
    rw (p.1, p.2) (_, within, Takes-piece _ _ _ bytes.items buffer n _ fits refl c.loop-bytes.invariant.taken c.in_ok-taken.ensures.taken)

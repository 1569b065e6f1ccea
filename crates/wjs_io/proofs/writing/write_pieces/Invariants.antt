use Rattle.std.proofs.Common.{◌≡◌, ◌≤◌, ◌++◌, List, ℕ, length}
use Rattle.wjs_io.proofs.Written.{Written}
use Rattle.wjs_io.proofs.writing.write_pieces.Given as goal

-- what is gone, and the rest
abbrev pub invariant-loop-rest : goal.invariant-loop-rest
invariant-loop-rest g l =
    Written (g.O.Sink.seen l.initial.out).bytes (g.O.Sink.seen l.out).bytes (g.O.Sink.seen l.initial.out).faults (g.O.Sink.seen l.out).faults l.bytes l.rest

abbrev pub decreases-loop-rest : goal.decreases-loop-rest
decreases-loop-rest g l = length l.rest

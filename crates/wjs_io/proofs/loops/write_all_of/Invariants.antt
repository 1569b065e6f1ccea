use Rattle.std.proofs.Common.{length, ◌-◌, ◌≡◌, ◌≤◌, take}
use Rattle.std.specs.Io.KnownBytes.{Appends}
use Rattle.wjs_io.proofs.loops.write_all_of.Given as goal

-- the first bytes are gone, as many as counted, and the sink is as it was until the first of them
abbrev pub invariant-loop-gone : goal.invariant-loop-gone
invariant-loop-gone g l =
    let seen = g.O.Sink.seen in
    record {
      within : l.gone ≤ length l.bytes;
      appended : Appends (seen l.initial.sink).bytes (seen l.sink).bytes (take l.gone l.bytes);
      never_falls : (seen l.initial.sink).faults ≤ (seen l.sink).faults;
      untouched : l.gone ≡ 0 → l.sink ≡ l.initial.sink;
    }

abbrev pub decreases-loop-gone : goal.decreases-loop-gone
decreases-loop-gone g l = length l.bytes - l.gone

use Rattle.std.proofs.Common.{◌≡◌, ◌≤◌, ◌-◌, vec_len}
use Rattle.std.specs.Io.KnownBytes.{Consumes}
use Rattle.wjs_io.proofs.loops.read_all.Given as goal

-- the bytes so far are those that the source lost, and they are within the limit
abbrev pub invariant-loop-bytes : goal.invariant-loop-bytes
invariant-loop-bytes g l =
    let seen = g.S.Source.seen in
    record {
      room : vec_len l.buffer ≡ 65536;
      within : vec_len l.bytes ≤ l.limit;
      taken : Consumes (seen l.initial.source).bytes (seen l.source).bytes l.bytes.items;
      never_falls : (seen l.initial.source).faults ≤ (seen l.source).faults;
    }

abbrev pub decreases-loop-bytes : goal.decreases-loop-bytes
decreases-loop-bytes g l = l.limit - vec_len l.bytes

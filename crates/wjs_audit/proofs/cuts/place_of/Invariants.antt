use Rattle.std.proofs.Common.{take}
use Rattle.wjs_audit.specs.Parts.{Lacks}
use Rattle.wjs_audit.proofs.cuts.place_of.Given as goal

abbrev pub invariant-loop-place : goal.invariant-loop-place
invariant-loop-place l = Lacks l.byte (take l.place l.bytes)

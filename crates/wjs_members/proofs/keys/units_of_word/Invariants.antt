use Rattle.std.proofs.Common.{◌≡◌, take}
use Rattle.wjs_members.proofs.keys.units_of_word.Given as goal

abbrev pub invariant-loop-byte : goal.invariant-loop-byte
invariant-loop-byte l = l.units.items ≡ take l.byte-index l.bytes

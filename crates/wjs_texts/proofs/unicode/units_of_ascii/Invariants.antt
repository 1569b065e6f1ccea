use Rattle.std.proofs.Common.{◌≡◌, take}
use Rattle.wjs_texts.proofs.unicode.units_of_ascii.Given as goal

abbrev pub invariant-loop-byte : goal.invariant-loop-byte
invariant-loop-byte l = l.units.items ≡ take l.byte-index l.ascii

use Rattle.std.proofs.Common.{◌≡◌, ◌-◌, ◌^◌, ◌<◌, ◌≤◌, ◌++◌, map, drop, length}
use Rattle.std.specs.Char.{digit_char}
use Rattle.std.specs.Int.Digits.{digits_of}
use Rattle.wjs_num.proofs.digits.write_digits.Given as goal

abbrev pub invariant-loop-rest : goal.invariant-loop-rest
invariant-loop-rest l =
    (1 ≤ l.start) × (l.start ≤ 54) × (l.rest < 2 ^ (l.start - 1)) × (length l.buffer ≡ 54)
    × (map digit_char (digits_of l.radix l.rest) ++ drop l.start l.buffer ≡ map digit_char (digits_of l.radix l.number))

abbrev pub decreases-loop-rest : goal.decreases-loop-rest
decreases-loop-rest l = l.rest

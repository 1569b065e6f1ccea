use Rattle.std.proofs.Common.{◌≡◌, ℕ, ◌<◌, ◌^◌, min, take, get_or, true}
use Rattle.std.specs.Char.{is_digit}
use Rattle.std.specs.Str.Parse.{digits_value}
use Rattle.wjs_num.proofs.numerals.leading_digits.Given as goal

abbrev pub invariant-loop-count : goal.invariant-loop-count
invariant-loop-count l =
    (l.value ≡ min (digits_value l.radix (take l.count l.units)) (2 ^ 53)) × ((k : ℕ) → k < l.count → is_digit (get_or l.units k 0) l.radix ≡ true)

use Rattle.std.proofs.Common.{◌≡◌, take}
use Rattle.std.specs.Str.Parse.{AllDigits, digits_value}
use Rattle.wjs_audit.proofs.numbers.number_of_digits.Given as goal

-- the bytes so far are digits, and `number` is what they write
abbrev pub invariant-loop-digit : goal.invariant-loop-digit
invariant-loop-digit l = AllDigits 10 (take l.digit-index l.digits) × (l.number ≡ digits_value 10 (take l.digit-index l.digits))

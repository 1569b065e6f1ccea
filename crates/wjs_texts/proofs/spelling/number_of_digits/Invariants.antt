use Rattle.std.proofs.Common.{◌≡◌, take}
use Rattle.std.specs.Str.Parse.{AllDigits, digits_value}
use Rattle.wjs_texts.proofs.spelling.number_of_digits.Given as goal

-- the units so far are digits, and `number` is what they write
abbrev pub invariant-loop-unit : goal.invariant-loop-unit
invariant-loop-unit l = AllDigits 10 (take l.unit-index l.units) × (l.number ≡ digits_value 10 (take l.unit-index l.units))

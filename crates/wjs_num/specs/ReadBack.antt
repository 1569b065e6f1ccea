-- Numbers that are written are read back as they were.
use Rattle.std.specs.Prelude.{◌≡◌, ℕ, ◌≤◌, Option, Some, Ok, ℤ, pos}
use Rattle.wjs_base.specs.Range.{InRange, IsInRange}
use Rattle.wjs_num.specs.Digits.{text_of_number}
use Rattle.wjs_num.specs.Numerals.{number_of_text, integer_of_text}

-- in each radix a number's digits are those of the number
abbrev pub RadixReadsBack : Type 0
RadixReadsBack = (radix : ℕ) (x : ℤ) → 2 ≤ radix → radix ≤ 36 → InRange x → integer_of_text (text_of_number radix (Some x)) (pos radix) ≡ Ok (Some x)

-- ToNumber undoes ToString, also of NaN
abbrev pub DecimalReadsBack : Type 0
DecimalReadsBack = (a : Option ℤ) → IsInRange a → number_of_text (text_of_number 10 a) ≡ a

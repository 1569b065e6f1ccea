-- How a number is written in a radix (ECMA-262 9.8.1 and 15.7.4.2).
use Rattle.std.specs.Prelude.{ℕ, suc, ◌==◌, if◌then◌else◌, List, [], ◌∷◌, map, codes, Option, None, Some, ℤ, pos, negsuc}
use Rattle.std.specs.Char.{digit_char}
use Rattle.std.specs.Int.Digits.{digits_of}

-- the digits of n, the highest first and not 0 unless n is 0; those past 9 are small letters
abbrev pub numeral : ℕ → ℕ → List ℕ
numeral radix n = if n == 0 then 48 ∷ [] else map digit_char (digits_of radix n)

-- a number's digits, with `-` before those of one below 0
abbrev pub text_of_number : ℕ → Option ℤ → List ℕ
text_of_number radix None = codes "NaN"
text_of_number radix (Some (pos n)) = numeral radix n
text_of_number radix (Some (negsuc n)) = 45 ∷ numeral radix (suc n)

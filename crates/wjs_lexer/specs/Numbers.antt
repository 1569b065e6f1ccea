-- Numeric literals: whole numbers, decimal or hexadecimal (ECMA-262, 3rd edition, section 7.8.3).
use Rattle.std.specs.Prelude.{◌≡◌, ℕ, ◌+◌, ◌^◌, ◌<◌, ◌⊎◌, Bool, true, false, ◌||◌, ◌==◌, List, Some, slice_get, slice_range}
use Rattle.std.specs.Char.{is_digit}
use Rattle.std.specs.Int.{is_in_range}
use Rattle.std.specs.Str.Parse.{digits_value}
use Rattle.wjs_lexer.specs.Characters.{starts_name, is_decimal}
use Rattle.wjs_lexer.specs.Places.{passes, AllPass}
use Rattle.wjs_lexer.specs.declared.numbers.Base.{Base}
use Rattle.wjs_lexer.specs.declared.numbers.Base.TheVariants as bases

-- ten or sixteen
abbrev pub radix : Base → ℕ
radix bases.Decimal = 10
radix bases.Hexadecimal = 16

-- where the digits of a literal at i begin: behind `0x`
abbrev pub digits_from : Base → ℕ → ℕ
digits_from bases.Decimal i = i
digits_from bases.Hexadecimal i = i + 2

-- `x` or `X`
abbrev pub is_x : ℕ → Bool
is_x c = (c == 120) || (c == 88)

-- how a literal begins: with `1` to `9`, or with `0x` or `0X`
abbrev pub Opens : Base → List ℕ → ℕ → Type 0
Opens bases.Decimal cs i = passes (λ c. is_in_range 49 57 c) (slice_get cs i) ≡ true
Opens bases.Hexadecimal cs i = (slice_get cs i ≡ Some 48) × (passes is_x (slice_get cs (i + 1)) ≡ true)

-- at least one digit of the base, and the value of the digits
pub record IsNumeral (base : Base) (cs : List ℕ) (i n v : ℕ) : Type 0 where
  pub opens : Opens base cs i
  pub some : digits_from base i < n
  pub digits : AllPass (λ c. is_digit c (radix base)) cs (digits_from base i) n
  pub value : v ≡ digits_value (radix base) (slice_range cs (digits_from base i) n)

-- `0` alone
abbrev pub IsZero : List ℕ → ℕ → ℕ → ℕ → Type 0
IsZero cs i n v = (slice_get cs i ≡ Some 48) × ((n ≡ i + 1) × (v ≡ 0))

-- what may not stand behind a number: an identifier's start, a digit, `.`
abbrev pub is_bound_to_number : ℕ → Bool
is_bound_to_number c = starts_name c || (is_decimal c || (c == 46))

-- a numeric literal, whose value is at most 9,007,199,254,740,991
pub record IsNumber (cs : List ℕ) (i n v : ℕ) : Type 0 where
  pub numeral : IsZero cs i n v ⊎ ((base : Base) × IsNumeral base cs i n v)
  pub small : v < 2 ^ 53
  pub next : passes is_bound_to_number (slice_get cs n) ≡ false

-- Decimal digits that are read, and those that are written.
use Rattle.std.proofs.Common.{◌≡◌, ℕ, zero, suc, ◌+◌, ◌-◌, ◌*◌, ◌/◌, ◌%◌, ◌^◌, ◌<◌, ◌≤◌, List, [], ◌∷◌, ◌++◌, length, take, drop, map, set, get_or, Some, None, slice_get, sym, ap, subst, ◌∙◌, arith, append_assoc}
use Rattle.std.proofs.lemmas.Fmt.{decimal_is_IsNumeral, decimal_digit, decimal_step, first_decimal, decimal_nonempty, length-decimal-le, decimal-digits_value}
use Rattle.std.proofs.lemmas.Int.Digits.{digits_value_is, digits_value_more, digits_more, number_after_append, number_after_ge}
use Rattle.std.proofs.lemmas.List.{take-append-drop, map-append, length-append, length-drop, drop-set}
use Rattle.std.proofs.lemmas.Option.{slice_get_within, get_or_from_slice_get}
use Rattle.std.proofs.lemmas.Str.{digit_value_digit}
use Rattle.std.proofs.lemmas.Str.Parse.{digit_at, numerals_by_value, tells_digits}
use Rattle.std.specs.Char.{digit_value}
use Rattle.std.specs.Int.Digits.{number_from_digits}
use Rattle.std.specs.Prelude.{decimal}
use Rattle.std.specs.Str.Parse.{AllDigits, digits_value}

-- the front of digits writes no more than all of them
value_of_front : (units : List ℕ) (i : ℕ) → digits_value 10 (take i units) ≤ digits_value 10 units
value_of_front units i =
    let front = map digit_value (take i units) in
    let back = map digit_value (drop i units) in
    let all : map digit_value units ≡ front ++ back = ap (map digit_value) (sym (take-append-drop i units)) ∙ map-append digit_value (take i units) (drop i units) in
    let whole = digits_value_is 10 units ∙ ap (number_from_digits 10) all ∙ number_after_append 10 0 front back in
    let some = digits_value_is 10 (take i units) in
    let more = number_after_ge 10 (number_from_digits 10 front) back (omega arith) in
    omega (arith, whole, some, more)

module _ (units : List ℕ) (i number : ℕ) (within : i < length units) (low : 48 ≤ get_or units i 0) (high : get_or units i 0 ≤ 57)
    (digits : AllDigits 10 (take i units)) (value : number ≡ digits_value 10 (take i units)) where
  unit_value : digit_value (get_or units i 0) ≡ get_or units i 0 - 48
  unit_value = let e = digit_value_digit (get_or units i 0) (low, high) in omega (arith, e)

  -- one digit more
  pub more_digits : AllDigits 10 (take (i + 1) units)
  more_digits = digits_more 10 units i within digits (omega (arith, unit_value))

  pub more_value : number * 10 + (get_or units i 0 - 48) ≡ digits_value 10 (take (i + 1) units)
  more_value = let e = digits_value_more 10 units i within in omega (arith, e, unit_value, value)

  -- a number that is too great stays so
  pub too_great : (most : ℕ) → most ≤ number * 10 + (get_or units i 0 - 48) → most ≤ digits_value 10 units
  too_great most much = let e = value_of_front units (i + 1) in omega (arith, e, more_value, much)

-- a list with a first unit, and one without
pub first_is : (units : List ℕ) (x : ℕ) → Some x ≡ slice_get units 0 → (0 < length units) × (get_or units 0 0 ≡ x)
first_is units x e = (slice_get_within units 0 x (sym e), get_or_from_slice_get units 0 x 0 (sym e))

pub no_first : (units : List ℕ) → None ≡ slice_get units 0 → 0 < length units → ⊥
no_first [] e some = omega arith
no_first (u ∷ us) e some = cc

-- a unit that is no digit
pub no_digit : (units : List ℕ) (i : ℕ) → i < length units → AllDigits 10 units → (get_or units i 0 < 48 → ⊥) × (57 < get_or units i 0 → ⊥)
no_digit units i within all = let d = digit_at units i all within in (λ h. omega (arith, d.0), λ h. omega (arith, d.1))

-- what the digits of a number below 2^64 are
module _ (units : List ℕ) (number : ℕ) (fits : number < 2 ^ 64) (e : units ≡ decimal number) where
  pub are_digits : AllDigits 10 units
  are_digits = subst (AllDigits 10) (sym e) (decimal_is_IsNumeral number fits).0.1

  pub value_is : digits_value 10 units ≡ number
  value_is = ap (digits_value 10) e ∙ (decimal_is_IsNumeral number fits).1

  pub some_digit : 0 < length units
  some_digit = subst (λ (us : List ℕ). 0 < length us) (sym e) (decimal_nonempty number fits)

  -- no zero stands before other digits
  pub no_leading_zero : get_or units 0 0 ≡ 48 → 1 < length units → ⊥
  no_leading_zero first long = by number fits e
    where
      by : (n : ℕ) → n < 2 ^ 64 → units ≡ decimal n → ⊥
      by zero f d = let one = ap (λ (us : List ℕ). length us) (d ∙ decimal_digit 0 (omega arith)) in omega (arith, one)
      by (suc n) f d =
          let above = first_decimal (suc n) (omega arith) f in
          let at = ap (λ (us : List ℕ). get_or us 0 0) d in
          omega (arith, above, at)

-- digits with no zero in front of others are those of the number that they write
pub spelled : (units : List ℕ) (number : ℕ) → AllDigits 10 units → number ≡ digits_value 10 units → 0 < length units → (get_or units 0 0 ≡ 48 → length units ≡ 1) → number < 2 ^ 64 → units ≡ decimal number
spelled units number digits value some canonical fits =
    sym (decimal-digits_value (numerals_by_value (AllDigits 10) tells_digits) units digits some canonical (omega arith)) ∙ ap decimal (sym value)

module _ (number rest place : ℕ) (digits : List ℕ) (small : number < 2 ^ 32) (least : rest < 2 ^ 32) (ten : length digits ≡ 10) (within : place < 10)
    (so_far : decimal number ≡ decimal rest ++ drop (place + 1) digits) where
  written : length (decimal number) ≡ length (decimal rest) + (10 - (place + 1))
  written =
      ap (λ (us : List ℕ). length us) so_far ∙ length-append (decimal rest) (drop (place + 1) digits)
      ∙ ap (λ (n : ℕ). length (decimal rest) + n) (length-drop (place + 1) digits ∙ ap (λ (n : ℕ). n - (place + 1)) ten)

  pub room : 10 ≤ rest → 1 ≤ place
  room some =
      let step = ap (λ (us : List ℕ). length us) (decimal_step rest some (omega arith)) ∙ length-append (decimal (rest / 10)) ((48 + rest % 10) ∷ []) in
      let front = decimal_nonempty (rest / 10) (omega arith) in
      let most = length-decimal-le 10 number (omega arith) (omega arith) (omega arith) in
      omega (arith, written, step, front, most)

  pub one_more : 10 ≤ rest → decimal number ≡ decimal (rest / 10) ++ drop (place - 1 + 1) (set digits place (48 + rest % 10))
  one_more some =
      let digit = 48 + rest % 10 in
      let back : drop (place - 1 + 1) (set digits place digit) ≡ digit ∷ drop (place + 1) digits =
      ap (λ (n : ℕ). drop n (set digits place digit)) {y = place} (let r = room some in omega arith) ∙ drop-set digits place digit (omega arith) in
      so_far ∙ ap (λ (us : List ℕ). us ++ drop (place + 1) digits) (decimal_step rest some (omega arith))
      ∙ append_assoc (decimal (rest / 10)) (digit ∷ []) (drop (place + 1) digits) ∙ ap (λ (us : List ℕ). decimal (rest / 10) ++ us) (sym back)

  pub last_one : rest < 10 → drop place (set digits place (48 + rest)) ≡ decimal number
  last_one below =
      drop-set digits place (48 + rest) (omega arith) ∙ sym (so_far ∙ ap (λ (us : List ℕ). us ++ drop (place + 1) digits) (decimal_digit rest below))

-- The numbers that texts spell.
use Rattle.std.specs.Prelude.{ℕ, Bool, false, ◌&&◌, ◌||◌, ◌==◌, ◌-◌, if◌then◌else◌, List, [], ◌∷◌, length, take, drop, take_while, Option, None, Some, is_some, Result, Ok, Err, ℤ, pos, neg_ℤ, int_le, unsigned_abs}
use Rattle.std.specs.Char.{is_digit}
use Rattle.std.specs.Int.{is_in_range}
use Rattle.std.specs.List.{list_all, prefix_len, suffix_len}
use Rattle.std.specs.Ordering.{int_eq}
use Rattle.std.specs.Str.Parse.{digits_value}
use Rattle.wjs_num.specs.declared.arithmetic.NumFault.{NumFault}
use Rattle.wjs_num.specs.Exact.{exact}

-- white space and line terminators (ECMA-262 7.2 and 7.3); U+FEFF is neither
abbrev pub is_blank : ℕ → Bool
is_blank u = is_in_range 0x9 0xD u || u == 0x20 || u == 0xA0 || u == 0x1680 || is_in_range 0x2000 0x200A u || u == 0x2028 || u == 0x2029 || u == 0x202F || u == 0x205F || u == 0x3000

-- without the blanks at the front
abbrev pub trimmed_front : List ℕ → List ℕ
trimmed_front t = drop (prefix_len is_blank t) t

-- without the blanks at the end
abbrev pub trimmed_end : List ℕ → List ℕ
trimmed_end t = take (length t - suffix_len is_blank t) t

-- what follows `0x` or `0X`
abbrev pub after_hex_prefix : List ℕ → Option (List ℕ)
after_hex_prefix [] = None
after_hex_prefix (u ∷ []) = None
after_hex_prefix (u ∷ v ∷ us) = if u == 48 && (v == 120 || v == 88) then Some us else None

-- whether a `-` stands in front
abbrev pub has_minus : List ℕ → Bool
has_minus [] = false
has_minus (u ∷ us) = u == 45

-- what follows a sign, if there is one
abbrev pub after_sign : List ℕ → List ℕ
after_sign [] = []
after_sign (u ∷ us) = if u == 45 || u == 43 then us else u ∷ us

abbrev pub with_sign : Bool → ℕ → ℤ
with_sign minus n = if minus then neg_ℤ (pos n) else pos n

-- the number that digits of a radix spell, the first the highest; None where there is no digit
abbrev pub digits_spell : ℕ → List ℕ → Option ℕ
digits_spell radix [] = None
digits_spell radix (u ∷ us) = Some (digits_value radix (u ∷ us))

-- the same, of a text that may hold other units than digits, for which it is None
abbrev pub text_spells : ℕ → List ℕ → Option ℕ
text_spells radix t = if list_all (λ u. is_digit u radix) t then digits_spell radix t else None

-- what is spelled with a sign: NaN where nothing is
abbrev pub spelled : Bool → Option ℕ → Result (Option ℤ) NumFault
spelled minus None = Ok None
spelled minus (Some n) = exact (with_sign minus n)

-- NaN for what is out of range
abbrev pub or_nan : Result (Option ℤ) NumFault → Option ℤ
or_nan (Ok a) = a
or_nan (Err fault) = None

-- a hexadecimal numeral, which has no sign, or a decimal one
abbrev pub number_of_numeral : Option (List ℕ) → List ℕ → Option ℤ
number_of_numeral (Some digits) t = or_nan (spelled false (text_spells 16 digits))
number_of_numeral None t = or_nan (spelled (has_minus t) (text_spells 10 (after_sign t)))

abbrev pub number_of_trimmed : List ℕ → Option ℤ
number_of_trimmed [] = Some (pos 0)
number_of_trimmed (u ∷ us) = number_of_numeral (after_hex_prefix (u ∷ us)) (u ∷ us)

-- the number that a text is read as (9.3.1)
abbrev pub number_of_text : List ℕ → Option ℤ
number_of_text t = number_of_trimmed (trimmed_end (trimmed_front t))

-- a radix of 0 is 16 before `0x`, and else 10
abbrev pub meant_radix : ℤ → Bool → ℤ
meant_radix radix hex = if int_eq radix (pos 0) then (if hex then pos 16 else pos 10) else radix

abbrev pub is_radix : ℤ → Bool
is_radix radix = int_le (pos 2) radix && int_le radix (pos 36)

-- without `0x`, which is skipped in radix 16
abbrev pub past_prefix : ℤ → List ℕ → Option (List ℕ) → List ℕ
past_prefix radix t None = t
past_prefix radix t (Some digits) = if int_eq radix (pos 16) then digits else t

-- the longest run of digits
abbrev pub run_of_digits : ℕ → List ℕ → List ℕ
run_of_digits radix t = take_while (λ u. is_digit u radix) t

-- what the digits in front spell; NaN where the radix is none
abbrev pub integer_in : ℤ → Bool → List ℕ → Result (Option ℤ) NumFault
integer_in radix minus t = if is_radix radix then spelled minus (digits_spell (unsigned_abs radix) (run_of_digits (unsigned_abs radix) t)) else Ok None

-- after a sign
abbrev pub integer_after_sign : ℤ → Bool → List ℕ → Result (Option ℤ) NumFault
integer_after_sign radix minus t = let hex = after_hex_prefix t in let meant = meant_radix radix (is_some hex) in integer_in meant minus (past_prefix meant t hex)

-- the integer that a text begins with (15.1.2.2)
abbrev pub integer_of_text : List ℕ → ℤ → Result (Option ℤ) NumFault
integer_of_text t radix = let rest = trimmed_front t in integer_after_sign radix (has_minus rest) (after_sign rest)

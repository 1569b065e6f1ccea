-- Exact arithmetic on whole numbers and NaN, which is None (ECMA-262 11.5 and 11.6 within the range).
use Rattle.std.specs.Prelude.{ℕ, Bool, nat_le, if◌then◌else◌, Option, None, Some, option_map, Result, Ok, Err, ℤ, pos, ◌+ℤ◌, ◌-ℤ◌, ◌*ℤ◌, neg_ℤ, unsigned_abs, int_div, int_rem, int_lt}
use Rattle.std.specs.Ordering.{int_eq}
use Rattle.wjs_base.specs.declared.number.Whole.{Whole}
use Rattle.wjs_num.specs.declared.arithmetic.NumFault.{NumFault}
use Rattle.wjs_num.specs.declared.arithmetic.NumFault.TheVariants.{OutOfRange, NotWhole}

-- 2 ^ 53 - 1
abbrev pub greatest : ℕ
greatest = 9_007_199_254_740_991

-- what a call answers
abbrev pub answer : Result Whole NumFault → Result (Option ℤ) NumFault
answer (Ok a) = Ok a.number
answer (Err fault) = Err fault

-- an exact result, where it is in range
abbrev pub exact : ℤ → Result (Option ℤ) NumFault
exact z = if nat_le (unsigned_abs z) greatest then Ok (Some z) else Err OutOfRange

-- NaN on either side gives NaN
abbrev pub of_both : (ℤ → ℤ → Result (Option ℤ) NumFault) → Option ℤ → Option ℤ → Result (Option ℤ) NumFault
of_both f None b = Ok None
of_both f (Some x) None = Ok None
of_both f (Some x) (Some y) = f x y

-- 11.6.3
abbrev pub sum : Option ℤ → Option ℤ → Result (Option ℤ) NumFault
sum = of_both (λ x y. exact (x +ℤ y))

-- 11.6.3
abbrev pub difference : Option ℤ → Option ℤ → Result (Option ℤ) NumFault
difference = of_both (λ x y. exact (x -ℤ y))

-- 11.5.1
abbrev pub product : Option ℤ → Option ℤ → Result (Option ℤ) NumFault
product = of_both (λ x y. exact (x *ℤ y))

abbrev pub is_zero : ℤ → Bool
is_zero z = int_eq z (pos 0)

-- 11.5.2: 0 / 0 is NaN, any other number by 0 is out of range, and a quotient that is not whole is refused
abbrev pub quotient : Option ℤ → Option ℤ → Result (Option ℤ) NumFault
quotient = of_both (λ x y. if is_zero y then (if is_zero x then Ok None else Err OutOfRange) else (if is_zero (int_rem x y) then exact (int_div x y) else Err NotWhole))

-- 11.5.3: the sign is the dividend's, and by 0 it is NaN
abbrev pub remainder : Option ℤ → Option ℤ → Option ℤ
remainder (Some x) (Some y) = if is_zero y then None else Some (int_rem x y)
remainder (Some x) None = None
remainder None b = None

-- 11.4.7
abbrev pub negative : Option ℤ → Option ℤ
negative = option_map neg_ℤ

-- 11.8.5: None where one is NaN
abbrev pub is_less : Option ℤ → Option ℤ → Option Bool
is_less (Some x) (Some y) = Some (int_lt x y)
is_less (Some x) None = None
is_less None b = None

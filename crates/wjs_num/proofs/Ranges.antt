-- What the range of the numbers says of 64 bits.
use Rattle.std.proofs.Common.{◌≡◌, ℕ, zero, suc, refl, false, leb, ◌/◌, ◌^◌, ◌<◌, ◌≤◌, subst, arith, Option, Some, ℤ, pos, negsuc, neg_ℤ}
use Rattle.std.specs.Int.{w64}
use Rattle.std.specs.Prelude.{FitsSigned, int_div, unsigned_abs}
use Rattle.std.proofs.lemmas.Int.{ints}
use Rattle.std.proofs.Math.Nat.{div-le_self}
use Rattle.std.proofs.lemmas.Bool.Decides.{nat_tests}
use Rattle.wjs_base.specs.Range.{InRange, IsInRange}
use Rattle.wjs_num.specs.Exact.{exact}

-- the number of a Whole is in range
pub in_range : (number : Option ℤ) (x : ℤ) → IsInRange number → number ≡ Some x → InRange x
in_range number x r e = let P : Option ℤ → Type 0 = λ n. IsInRange n in subst P e r

pub fits : (x : ℤ) → InRange x → FitsSigned w64 x
fits x r = omega (arith, ints, r.0, r.1)

fits_neg : (n : ℕ) → n < 2 ^ 63 → FitsSigned w64 (neg_ℤ (pos n))
fits_neg n h = omega (arith, ints)

pub quotient_fits : (x y : ℤ) → InRange x → FitsSigned w64 (int_div x y)
quotient_fits (pos a) (pos b) r = omega (arith, ints, r.0, r.1, div-le_self a b)
quotient_fits (pos a) (negsuc b) r = fits_neg (a / suc b) (omega (arith, ints, r.0, r.1, div-le_self a (suc b)))
quotient_fits (negsuc a) (pos b) r = fits_neg (suc a / b) (omega (arith, ints, r.0, r.1, div-le_self (suc a) b))
quotient_fits (negsuc a) (negsuc b) r = omega (arith, ints, r.0, r.1, div-le_self (suc a) (suc b))

pub unsigned_abs-neg : (n : ℕ) → unsigned_abs (neg_ℤ (pos n)) ≡ n
unsigned_abs-neg zero = refl
unsigned_abs-neg (suc n) = refl

-- two numbers that are both out of range
pub both_out : (y z : ℤ) → 2 ^ 53 ≤ unsigned_abs y → 2 ^ 53 ≤ unsigned_abs z → exact y ≡ exact z
both_out y z h k =
    let f : leb (unsigned_abs y) 9007199254740991 ≡ false = grind (arith, nat_tests) in
    let g : leb (unsigned_abs z) 9007199254740991 ≡ false = grind (arith, nat_tests) in
    rw (f, g) refl

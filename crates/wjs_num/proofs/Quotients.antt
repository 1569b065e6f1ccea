-- When a quotient is exact.
use Rattle.std.proofs.Common.{◌≡◌, zero, suc, ◌^◌, ◌<◌, refl, arith, Option, Some, true, false, ℤ, pos, negsuc}
use Rattle.std.specs.Int.{w64, cast_unsigned}
use Rattle.std.specs.Prelude.{FitsSigned, int_div, int_rem}
use Rattle.std.proofs.lemmas.Bool.Decides.{nat_tests}
use lib.Signed.{mag_rem, mag}
use Rattle.wjs_num.specs.Exact.{exact, quotient, is_zero}

pub is_zero_from_bits : (z : ℤ) → FitsSigned w64 z → cast_unsigned w64 z ≡ 0 → is_zero z ≡ true
is_zero_from_bits (pos zero) f e = refl
is_zero_from_bits (pos (suc n)) f e = absurd (omega arith)
is_zero_from_bits (negsuc n) f e = let h : n < 2 ^ 63 = f.sfits in absurd (omega arith)

pub not_zero_from_bits : (z : ℤ) → (cast_unsigned w64 z ≡ 0 → ⊥) → is_zero z ≡ false
not_zero_from_bits (pos zero) f = absurd (f refl)
not_zero_from_bits (pos (suc n)) f = grind (arith, nat_tests)
not_zero_from_bits (negsuc n) f = refl

pub remainder_fits : (x y : ℤ) → FitsSigned w64 x → FitsSigned w64 (int_rem x y)
remainder_fits x y f = let h : mag x < 2 ^ 63 = f.sfits in record { sfits = omega (arith, mag_rem x y) }

pub quotient_found : (a b : Option ℤ) (x y : ℤ) → a ≡ Some x → b ≡ Some y → is_zero y ≡ false → is_zero (int_rem x y) ≡ true → quotient a b ≡ exact (int_div x y)
quotient_found a b x y e f z w = rw (e, f, z, w) refl

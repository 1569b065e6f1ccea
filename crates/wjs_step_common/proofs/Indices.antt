-- Numbers that are array indices (ECMA-262, 3rd edition, section 15.4) are spelled as names spell them.
use Rattle.std.proofs.Common.{◌≡◌, ℕ, zero, suc, ◌+◌, ◌<◌, ◌≤◌, ◌^◌, List, [], ◌∷◌, Option, Some, ℤ, pos, negsuc, nat_abs, true, refl, sym, ap, ◌∙◌, subst, arith, to_z, of_z, w64}
use Rattle.std.specs.Prelude.{map, decimal, cond, if◌then◌else◌}
use Rattle.std.specs.Char.{digit_char}
use Rattle.std.specs.Fmt.{digits}
use Rattle.std.specs.Int.Digits.{digits_of, AllBelowBase}
use Rattle.std.proofs.lemmas.Int.{to_z-of_z, ints}
use Rattle.std.proofs.lemmas.Int.Digits.{all_below_base_digits_of}
use Rattle.std.proofs.lemmas.Fmt.{decimal-digits_of}
use borrow.Author.Tests.{lt-ltb, ne_eqb}
use lib.Signed.{le_z, lt_z}
use Rattle.wjs_num.proofs.Ranges.{in_range, fits}
use Rattle.wjs_base.specs.Range.{IsInRange}
use Rattle.wjs_base.specs.Spelling.{greatest_index}
use Rattle.wjs_num.specs.Digits.{numeral, text_of_number}

digits_spelled : (ds : List ℕ) → AllBelowBase 10 ds → map digit_char ds ≡ map (λ d. 48 + d) ds
digits_spelled [] h = refl
digits_spelled (d ∷ ds) h = λ i. cond (lt-ltb d 10 h.0 i) (48 + d) (87 + d) ∷ digits_spelled ds h.1 i

zero_spelled : numeral 10 0 ≡ decimal 0
unfolding digits
zero_spelled = refl

spelled : (n : ℕ) → n ≤ greatest_index → numeral 10 n ≡ decimal n
spelled zero h = zero_spelled
spelled (suc k) h =
    let n : ℕ = suc k in
    let few : n < 2 ^ 64 = omega arith in
    let some : 0 < n = omega arith in
    ap (λ b. if b then 48 ∷ [] else map digit_char (digits_of 10 n)) (ne_eqb n 0 (λ e. omega arith)) ∙ digits_spelled (digits_of 10 n) (all_below_base_digits_of 10 n (omega arith)) ∙ sym (decimal-digits_of n some few)

index_of : (z : ℤ) → le_z (pos 0) z ≡ true → lt_z z (pos 4294967295) ≡ true → (nat_abs z ≤ greatest_index) × (text_of_number 10 (Some z) ≡ decimal (nat_abs z))
index_of (pos n) least less = let few : n ≤ greatest_index = omega (arith, ints) in (few, spelled n few)
index_of (negsuc n) least less = absurd (cc)

pub index_text : (x : Option ℤ) (z : ℤ) → IsInRange x → x ≡ Some z → le_z (pos 0) (to_z w64 (of_z w64 z)) ≡ true → lt_z (to_z w64 (of_z w64 z)) (pos 4294967295) ≡ true
    → (nat_abs (to_z w64 (of_z w64 z)) ≤ greatest_index) × (text_of_number 10 x ≡ decimal (nat_abs (to_z w64 (of_z w64 z))))
index_text x z h e least less =
    let back : to_z w64 (of_z w64 z) ≡ z = to_z-of_z w64 z (fits z (in_range x z h e)) in
    let at = index_of z (ap (le_z (pos 0)) (sym back) ∙ least) (ap (λ y. lt_z y (pos 4294967295)) (sym back) ∙ less) in
    (subst (λ (y : ℤ). nat_abs y ≤ greatest_index) (sym back) at.0, ap (text_of_number 10) e ∙ at.1 ∙ ap (λ (y : ℤ). decimal (nat_abs y)) (sym back))

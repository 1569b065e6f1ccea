-- How long the texts of primitives are that are no texts.
use Rattle.std.proofs.Common.{◌≡◌, ℕ, zero, suc, ◌<◌, ◌≤◌, ◌^◌, List, [], ◌∷◌, Option, None, Some, ℤ, pos, negsuc, true, false, map, length, refl, ap, ne_eqb, arith}
use Rattle.std.specs.Prelude.{if◌then◌else◌}
use Rattle.std.specs.Char.{digit_char}
use Rattle.std.specs.Int.Digits.{digits_of}
use Rattle.std.proofs.lemmas.Int.{ints}
use Rattle.std.proofs.lemmas.Int.Digits.{length-digits_of-le}
use Rattle.std.proofs.lemmas.List.{length-map}
use Rattle.wjs_base.specs.Range.{IsInRange}
use Rattle.wjs_base.specs.Text.{Table}
use Rattle.wjs_base.specs.declared.ids.TextId.{TextId}
use Rattle.wjs_base.specs.declared.values.Value.{Value}
use Rattle.wjs_base.specs.declared.values.Value.TheVariants as values
use Rattle.wjs_num.specs.Digits.{numeral, text_of_number}
use Rattle.wjs_by_content.specs.Conversions.{primitive_text}
use Rattle.wjs_by_content.specs.Tables.{value_in}

few_digits : (n : ℕ) → 0 < n → n < 10 ^ 16 → length (numeral 10 n) ≤ 16
few_digits n some small =
    let digits : List ℕ = digits_of 10 n in
    let few = length-digits_of-le 10 16 n (omega arith) small in
    let same = length-map digits digit_char in
    let is = ap (λ b. length (if b then 48 ∷ [] else map digit_char digits)) (ne_eqb n 0 (λ e. omega arith)) in
    omega (arith, is, same, few)

number_short : (x : Option ℤ) → IsInRange x → length (text_of_number 10 x) ≤ 17
number_short None h = omega arith
number_short (Some (pos zero)) h = omega arith
number_short (Some (pos (suc n))) h = let few = few_digits (suc n) (omega arith) (omega (arith, ints, h.1)) in omega (arith, few)
number_short (Some (negsuc n)) h = let few = few_digits (suc n) (omega arith) (omega (arith, ints, h.0)) in omega (arith, few)

pub text_short : (t : Table) (v : Value) → ((id : TextId) → v ≡ values.Text id → ⊥) → length (primitive_text (value_in t v)) ≤ 17
text_short t values.Undefined h = omega arith
text_short t values.Null h = omega arith
text_short t (values.Bool true) h = omega arith
text_short t (values.Bool false) h = omega arith
text_short t (values.Number x) h = number_short x.number x.in_range
text_short t (values.Text id) h = absurd (h id refl)
text_short t (values.Object o) h = omega arith

-- What a text spells, from its parts.
use Rattle.std.proofs.Common.{Bor, ◌≡◌, ℕ, ◌<◌, refl, sym, ◌∙◌, ap, Bool, true, false, cond, List, length, take, arith, Option, None, Some, Result, Ok, Err, ℤ, pos, negsuc, leb}
use Rattle.std.specs.Char.{is_digit}
use Rattle.std.specs.List.{prefix_len}
use Rattle.std.specs.Option.{option_copied, is_some}
use Rattle.std.specs.Prelude.{unsigned_abs, int_lt}
use Rattle.std.specs.Result.{result_unwrap_or}
use Rattle.std.proofs.lemmas.Bool.{and_from}
use Rattle.std.proofs.lemmas.Bool.Decides.{nat_tests}
use Rattle.std.proofs.Math.Seq.{take-length}
use Rattle.wjs_base.specs.declared.number.Whole.{Whole}
use Rattle.wjs_num.specs.declared.arithmetic.NumFault.{NumFault}
use Rattle.wjs_num.specs.Exact.{answer}
use Rattle.wjs_num.specs.Numerals.{trimmed_front, after_hex_prefix, has_minus, after_sign, digits_spell, text_spells, spelled, or_nan, meant_radix, is_radix, past_prefix, run_of_digits, integer_in, integer_after_sign, integer_of_text}
use Rattle.wjs_num.proofs.Runs.{all_digits, not_all_digits}

-- NaN in place of a fault
pub or_nan-unwrap : (r : Result Whole NumFault) (d : Whole) → d.number ≡ None → (result_unwrap_or r d).number ≡ or_nan (answer r)
or_nan-unwrap (Ok a) d e = refl
or_nan-unwrap (Err f) d e = e

pub whole_text : (radix : ℕ) (units : List ℕ) → prefix_len (λ u. is_digit u radix) units ≡ length units → digits_spell radix (take (prefix_len (λ u. is_digit u radix) units) units) ≡ text_spells radix units
whole_text radix units h =
    let all = all_digits (λ u. is_digit u radix) units h in
    let same = take-length units in
    rw (all, h, same) refl

pub no_numeral : (radix : ℕ) (units : List ℕ) → prefix_len (λ u. is_digit u radix) units < length units → text_spells radix units ≡ None
no_numeral radix units h = let some = not_all_digits (λ u. is_digit u radix) units h in rw some refl

pub is_some-option_copied : (o : Option (Bor (List ℕ))) → is_some o ≡ is_some (option_copied o)
is_some-option_copied None = refl
is_some-option_copied (Some x) = refl

pub radix_found : (radix : ℤ) → int_lt radix (pos 2) ≡ false → int_lt (pos 36) radix ≡ false → is_radix radix ≡ true
radix_found (pos n) low high =
    let above : leb 2 n ≡ true = grind (arith, nat_tests) in
    let below : leb n 36 ≡ true = grind (arith, nat_tests) in
    and_from (leb 2 n) (leb n 36) above below
radix_found (negsuc n) low high = cc

pub integer_found : (t rest text : List ℕ) (hex : Option (List ℕ)) (minus : Bool) (radix meant : ℤ)
    → rest ≡ trimmed_front t → minus ≡ has_minus rest → text ≡ after_sign rest → hex ≡ after_hex_prefix text → meant ≡ meant_radix radix (is_some hex) → is_radix meant ≡ true
    → integer_of_text t radix ≡ spelled minus (digits_spell (unsigned_abs meant) (run_of_digits (unsigned_abs meant) (past_prefix meant text hex)))
integer_found t rest text hex minus radix meant a b c d e f =
    let given : Option (List ℕ) → Result (Option ℤ) NumFault = λ h. integer_in (meant_radix radix (is_some h)) minus (past_prefix (meant_radix radix (is_some h)) text h) in
    ap (λ (x : List ℕ). integer_after_sign radix (has_minus x) (after_sign x)) (sym a)
    ∙ ap (λ (m : Bool). integer_after_sign radix m (after_sign rest)) (sym b)
    ∙ ap (λ (x : List ℕ). integer_after_sign radix minus x) (sym c)
    ∙ ap given (sym d)
    ∙ ap (λ (m : ℤ). integer_in m minus (past_prefix m text hex)) (sym e)
    ∙ ap (λ (v : Bool). cond v (spelled minus (digits_spell (unsigned_abs meant) (run_of_digits (unsigned_abs meant) (past_prefix meant text hex)))) (Ok None)) f

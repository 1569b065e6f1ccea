use Rattle.std.proofs.Common.{sym, ap, ◌∙◌, rules, Bool, ℤ, List, ℕ}
use Rattle.std.specs.Int.{w32, cast_signed, cast_unsigned}
use Rattle.std.specs.Option.{option_copied}
use Rattle.std.specs.Prelude.{FitsSigned, unsigned_abs}
use Rattle.std.proofs.lemmas.Int.{to_z-of_z}
use Rattle.wjs_num.specs.Numerals.{spelled, digits_spell, run_of_digits, meant_radix}
use Rattle.wjs_num.proofs.Runs.{spelled_run}
use Rattle.wjs_num.proofs.Texts.{integer_found, is_some-option_copied, radix_found}
use Rattle.wjs_num.proofs.numerals.parse_int.Goals as goal

pub returns : goal.returns
returns c =
    let minus = c.split_sign-minus.result.0 in
    let hex = c.after_0x-hexadecimal.result in
    let meant_fits : FitsSigned w32 c.meant_radix-radix.result = search rules in
    let meant = cast_signed w32 (cast_unsigned w32 c.meant_radix-radix.result) in
    let meant_is =
    to_z-of_z w32 c.meant_radix-radix.result meant_fits
    ∙ c.meant_radix-radix.ensures
    ∙ ap (λ (r : ℤ). meant_radix r c.is_some.result) (to_z-of_z w32 c.args.radix c.ranges.radix)
    ∙ ap (λ (b : Bool). meant_radix c.args.radix b) (c.is_some.ensures ∙ is_some-option_copied hex) in
    let found = integer_found c.args.units.now c.trim_start.result.now c.split_sign-minus.result.1.now (option_copied hex) minus c.args.radix meant c.trim_start.ensures c.split_sign-minus.ensures.minus c.split_sign-minus.ensures.rest c.after_0x-hexadecimal.ensures meant_is (radix_found meant c.if-radix-lt2.false c.if-radix-gt36.false) in
    c.signed.ensures
    ∙ spelled_run minus (unsigned_abs meant) c.leading_digits.result.count c.leading_digits.result.value c.past_prefix-digits.result.now c.leading_digits.ensures.count c.leading_digits.ensures.value
    ∙ ap (λ (t : List ℕ). spelled minus (digits_spell (unsigned_abs meant) (run_of_digits (unsigned_abs meant) t))) c.past_prefix-digits.ensures
    ∙ sym found

use Rattle.std.proofs.Common.{◌≡◌, ℕ, refl, sym, ap, ◌∙◌, arith, length, Option}
use Rattle.std.specs.Char.{is_digit}
use Rattle.std.specs.List.{prefix_len}
use Rattle.std.proofs.lemmas.List.Sums.{prefix_len-le-length}
use Rattle.wjs_num.specs.Numerals.{spelled, or_nan}
use Rattle.wjs_num.proofs.Runs.{spelled_run}
use Rattle.wjs_num.proofs.Texts.{or_nan-unwrap, whole_text, no_numeral}
use Rattle.wjs_num.proofs.numerals.read_numeral.Goals as goal

pub returns-then-run-units : goal.returns-then-run-units
returns-then-run-units c =
    let count = c.leading_digits-run.ensures.count in
    ap (λ (o : Option ℕ). or_nan (spelled c.args.minus o)) (sym (no_numeral c.args.radix c.args.units.now (omega arith)))

pub returns : goal.returns
returns c =
    let units = c.args.units.now in
    let radix = c.args.radix in
    let count = c.leading_digits-run.ensures.count in
    let all : prefix_len (λ u. is_digit u radix) units ≡ length units = omega (arith, prefix_len-le-length (λ u. is_digit u radix) units) in
    ap (λ w. w.number) c.unwrap_or.ensures
    ∙ or_nan-unwrap c.signed.result _ refl
    ∙ ap or_nan (c.signed.ensures ∙ spelled_run c.args.minus radix _ _ units count c.leading_digits-run.ensures.value)
    ∙ ap (λ (o : Option ℕ). or_nan (spelled c.args.minus o)) (whole_text radix units all)

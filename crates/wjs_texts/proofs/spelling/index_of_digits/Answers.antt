use Rattle.std.proofs.Common.{◌≡◌, length, get_or, ◌∙◌, sym, arith}
use Rattle.wjs_texts.proofs.Decimals.{are_digits, value_is, some_digit, no_leading_zero, spelled, first_is, no_first}
use Rattle.wjs_texts.proofs.spelling.index_of_digits.Goals as goal
use Rattle.wjs_texts.proofs.spelling.index_of_digits.Goals.{else-first-eq-ZERO-via-then-first-eq-ZERO+else-units-gt1, else-first-eq-ZERO-via-else-first-eq-ZERO}

pub returns-in_err-first-clause-none : goal.returns-in_err-first-clause-none
returns-in_err-first-clause-none c = rw c.from_residual.ensures (λ index small e. no_first c.args.units.now c.in_err-first.ensures.value (some_digit c.args.units.now index (omega (arith, small)) e))

pub returns-then-units-gt1-clause-none : goal.returns-then-units-gt1-clause-none
returns-then-units-gt1-clause-none c = λ index small e. no_leading_zero c.args.units.now index (omega (arith, small)) e ((first_is c.args.units.now c.in_ok-first.field-0.now c.in_ok-first.ensures.value).1 ∙ c.if-first-eq-ZERO.true) c.if-units-gt1.true

pub returns-in_err-index-clause-none : goal.returns-in_err-index-clause-none
returns-in_err-index-clause-none c = rw c.from_residual-in_err-index.ensures (λ index small e.
    let much = c.in_err-index.ensures.none (are_digits c.args.units.now index (omega (arith, small)) e) in
    let value = value_is c.args.units.now index (omega (arith, small)) e in
    omega (arith, much, value, small))

pub returns-then-index-gt-GREATEST_INDEX-clause-none : goal.returns-then-index-gt-GREATEST_INDEX-clause-none
returns-then-index-gt-GREATEST_INDEX-clause-none c = λ index small e.
    let value = value_is c.args.units.now index (omega (arith, small)) e in
    omega (arith, value, small, c.in_ok-index.ensures.value)

pub returns-clause-found : goal.returns-clause-found
returns-clause-found c =
    let first = first_is c.args.units.now c.in_ok-first.field-0.now c.in_ok-first.ensures.value in
    let canonical : get_or c.args.units.now 0 0 ≡ 48 → length c.args.units.now ≡ 1 = λ zero. elim c.else-first-eq-ZERO.branch [
      | else-first-eq-ZERO-via-then-first-eq-ZERO+else-units-gt1 w ↦ omega (arith, first.0)
      | else-first-eq-ZERO-via-else-first-eq-ZERO w ↦ absurd (w.if-first-eq-ZERO.false (sym first.1 ∙ zero))
    ] in
    (c.if-index-gt-GREATEST_INDEX.false, spelled c.args.units.now c.in_ok-index.index c.in_ok-index.ensures.digits c.in_ok-index.ensures.value first.0 canonical (omega (arith, c.if-index-gt-GREATEST_INDEX.false)))

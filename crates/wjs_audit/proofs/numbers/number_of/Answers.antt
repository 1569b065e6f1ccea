use Rattle.std.proofs.Common.{◌≡◌, ◌<◌, ◌^◌, length, get_or, ◌∙◌, sym, arith}
use Rattle.wjs_texts.proofs.Decimals.{are_digits, value_is, some_digit, no_leading_zero, spelled, first_is, no_first}
use Rattle.wjs_audit.proofs.numbers.number_of.Goals as goal
use Rattle.wjs_audit.proofs.numbers.number_of.Goals.{else-first-eq-ZERO-via-then-first-eq-ZERO+else-part-gt1, else-first-eq-ZERO-via-else-first-eq-ZERO}

pub returns-in_err-first : goal.returns-in_err-first
returns-in_err-first c = rw c.from_residual.ensures (λ n small e. no_first c.args.part.now c.in_err-first.ensures.value (some_digit c.args.part.now n (omega (arith, small, c.ranges.most)) e))

pub returns-then-part-gt1 : goal.returns-then-part-gt1
returns-then-part-gt1 c = λ n small e. no_leading_zero c.args.part.now n (omega (arith, small, c.ranges.most)) e ((first_is c.args.part.now c.in_ok-first.field-0.now c.in_ok-first.ensures.value).1 ∙ c.if-first-eq-ZERO.true) c.if-part-gt1.true

pub returns-in_err-number : goal.returns-in_err-number
returns-in_err-number c = rw c.from_residual-in_err-number.ensures (λ n small e.
    let fits : n < 2 ^ 64 = omega (arith, small, c.ranges.most) in
    let much = c.in_err-number.ensures.none (are_digits c.args.part.now n fits e) in
    let value = value_is c.args.part.now n fits e in
    absurd (omega (arith, much, value, fits)))

pub returns-then-number-most : goal.returns-then-number-most
returns-then-number-most c = λ n small e.
    let value = value_is c.args.part.now n (omega (arith, small, c.ranges.most)) e in
    omega (arith, value, small, c.in_ok-number.ensures.value)

pub returns : goal.returns
returns c =
    let first = first_is c.args.part.now c.in_ok-first.field-0.now c.in_ok-first.ensures.value in
    let canonical : get_or c.args.part.now 0 0 ≡ 48 → length c.args.part.now ≡ 1 = λ zero. elim c.else-first-eq-ZERO.branch [
      | else-first-eq-ZERO-via-then-first-eq-ZERO+else-part-gt1 w ↦ omega (arith, first.0)
      | else-first-eq-ZERO-via-else-first-eq-ZERO w ↦ absurd (w.if-first-eq-ZERO.false (sym first.1 ∙ zero))
    ] in
    (c.if-number-most.false, spelled c.args.part.now c.in_ok-number.number c.in_ok-number.ensures.digits c.in_ok-number.ensures.value first.0 canonical (omega (arith, c.if-number-most.false, c.ranges.most)))

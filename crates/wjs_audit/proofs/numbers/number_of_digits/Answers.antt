use Rattle.std.proofs.Common.{◌^◌, arith}
use Rattle.wjs_texts.proofs.Decimals.{more_digits, more_value, too_great, no_digit}
use Rattle.wjs_audit.proofs.numbers.number_of_digits.Goals as goal
use Rattle.wjs_audit.proofs.numbers.number_of_digits.Goals.{then-digit-lt-ZERO-via-then-digit-lt-ZERO, then-digit-lt-ZERO-via-else-digit-lt-ZERO+then-digit-gt-NINE}

pub returns-then-digit-lt-ZERO-clause-none : goal.returns-then-digit-lt-ZERO-clause-none
returns-then-digit-lt-ZERO-clause-none c = λ all.
    let no = no_digit c.args.digits.now c.loop-digit.digit-index c.loop-digit-test.true all in
    absurd (elim c.then-digit-lt-ZERO.branch [
      | then-digit-lt-ZERO-via-then-digit-lt-ZERO w ↦ no.0 w.if-digit-lt-ZERO.true
      | then-digit-lt-ZERO-via-else-digit-lt-ZERO+then-digit-gt-NINE w ↦ no.1 w.if-digit-gt-NINE.true
    ])

pub returns-in_err-checked_mul-clause-none : goal.returns-in_err-checked_mul-clause-none
returns-in_err-checked_mul-clause-none c =
    rw c.from_residual.ensures (λ all. too_great c.args.digits.now c.loop-digit.digit-index c.loop-digit.number c.loop-digit-test.true c.if-digit-lt-ZERO.false c.if-digit-gt-NINE.false c.loop-digit.invariant.0 c.loop-digit.invariant.1 (2 ^ 64) (omega (arith, c.in_err-checked_mul.ensures)))

pub returns-in_err-number-clause-none : goal.returns-in_err-number-clause-none
returns-in_err-number-clause-none c =
    rw c.from_residual-in_err-number.ensures (λ all. too_great c.args.digits.now c.loop-digit.digit-index c.loop-digit.number c.loop-digit-test.true c.if-digit-lt-ZERO.false c.if-digit-gt-NINE.false c.loop-digit.invariant.0 c.loop-digit.invariant.1 (2 ^ 64) (omega (arith, c.in_err-number.ensures, c.in_ok-checked_mul.ensures)))

pub loop-digit-preserved : goal.loop-digit-preserved
loop-digit-preserved c =
    let value = more_value c.args.digits.now c.loop-digit.digit-index c.loop-digit.number c.loop-digit-test.true c.if-digit-lt-ZERO.false c.if-digit-gt-NINE.false c.loop-digit.invariant.0 c.loop-digit.invariant.1 in (
      more_digits c.args.digits.now c.loop-digit.digit-index c.loop-digit.number c.loop-digit-test.true c.if-digit-lt-ZERO.false c.if-digit-gt-NINE.false c.loop-digit.invariant.0 c.loop-digit.invariant.1,
      omega (arith, value, c.in_ok-number.ensures, c.in_ok-checked_mul.ensures),
    )

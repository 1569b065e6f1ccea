use Rattle.std.proofs.Common.{◌^◌, arith}
use Rattle.wjs_texts.proofs.Decimals.{more_digits, more_value, too_great, no_digit}
use Rattle.wjs_texts.proofs.spelling.number_of_digits.Goals as goal
use Rattle.wjs_texts.proofs.spelling.number_of_digits.Goals.{then-unit-lt-ZERO-via-then-unit-lt-ZERO, then-unit-lt-ZERO-via-else-unit-lt-ZERO+then-unit-gt-NINE}

pub returns-then-unit-lt-ZERO-clause-none : goal.returns-then-unit-lt-ZERO-clause-none
returns-then-unit-lt-ZERO-clause-none c = λ all.
    let no = no_digit c.args.units.now c.loop-unit.unit-index c.loop-unit-test.true all in
    absurd (elim c.then-unit-lt-ZERO.branch [
      | then-unit-lt-ZERO-via-then-unit-lt-ZERO w ↦ no.0 w.if-unit-lt-ZERO.true
      | then-unit-lt-ZERO-via-else-unit-lt-ZERO+then-unit-gt-NINE w ↦ no.1 w.if-unit-gt-NINE.true
    ])

pub returns-in_err-checked_mul-clause-none : goal.returns-in_err-checked_mul-clause-none
returns-in_err-checked_mul-clause-none c =
    rw c.from_residual.ensures (λ all. too_great c.args.units.now c.loop-unit.unit-index c.loop-unit.number c.loop-unit-test.true c.if-unit-lt-ZERO.false c.if-unit-gt-NINE.false c.loop-unit.invariant.0 c.loop-unit.invariant.1 (2 ^ 32) (omega (arith, c.in_err-checked_mul.ensures)))

pub returns-in_err-number-clause-none : goal.returns-in_err-number-clause-none
returns-in_err-number-clause-none c =
    rw c.from_residual-in_err-number.ensures (λ all. too_great c.args.units.now c.loop-unit.unit-index c.loop-unit.number c.loop-unit-test.true c.if-unit-lt-ZERO.false c.if-unit-gt-NINE.false c.loop-unit.invariant.0 c.loop-unit.invariant.1 (2 ^ 32) (omega (arith, c.in_err-number.ensures, c.in_ok-checked_mul.ensures)))

pub loop-unit-preserved : goal.loop-unit-preserved
loop-unit-preserved c =
    let value = more_value c.args.units.now c.loop-unit.unit-index c.loop-unit.number c.loop-unit-test.true c.if-unit-lt-ZERO.false c.if-unit-gt-NINE.false c.loop-unit.invariant.0 c.loop-unit.invariant.1 in (
      more_digits c.args.units.now c.loop-unit.unit-index c.loop-unit.number c.loop-unit-test.true c.if-unit-lt-ZERO.false c.if-unit-gt-NINE.false c.loop-unit.invariant.0 c.loop-unit.invariant.1,
      omega (arith, value, c.in_ok-number.ensures, c.in_ok-checked_mul.ensures),
    )

use Rattle.std.proofs.Common.{arith}
use Rattle.wjs_texts.proofs.Decimals.{are_digits, some_digit, first_is, no_first, no_digit}
use Rattle.wjs_texts.proofs.spelling.spelled_index.Goals as goal
use Rattle.wjs_texts.proofs.spelling.spelled_index.Goals.{then-first-lt-ZERO-via-then-first-lt-ZERO, then-first-lt-ZERO-via-else-first-lt-ZERO+then-first-gt-NINE}

pub returns-in_err-first-clause-none : goal.returns-in_err-first-clause-none
returns-in_err-first-clause-none c = rw c.from_residual.ensures (λ index small e. no_first c.args.units.now c.in_err-first.ensures.value (some_digit c.args.units.now index (omega (arith, small)) e))

pub returns-then-first-lt-ZERO-clause-none : goal.returns-then-first-lt-ZERO-clause-none
returns-then-first-lt-ZERO-clause-none c = λ index small e.
    let first = first_is c.args.units.now c.in_ok-first.field-0.now c.in_ok-first.ensures.value in
    let no = no_digit c.args.units.now 0 first.0 (are_digits c.args.units.now index (omega (arith, small)) e) in
    elim c.then-first-lt-ZERO.branch [
      | then-first-lt-ZERO-via-then-first-lt-ZERO w ↦ no.0 (omega (arith, first.1, w.if-first-lt-ZERO.true))
      | then-first-lt-ZERO-via-else-first-lt-ZERO+then-first-gt-NINE w ↦ no.1 (omega (arith, first.1, w.if-first-gt-NINE.true))
    ]

use Rattle.std.proofs.Common.{◌≡◌, ◌+◌, ◌<◌, ◌++◌, drop}
use Rattle.std.specs.Prelude.{decimal}
use Rattle.wjs_texts.proofs.spelling.write_decimal.Given as goal

-- the digits of what is left of the number, with those that are written, are the number's
abbrev pub invariant-loop-rest : goal.invariant-loop-rest
invariant-loop-rest l = (l.place < 10) × (decimal l.fn.number ≡ decimal l.rest ++ drop (l.place + 1) l.digits)

abbrev pub decreases-loop-rest : goal.decreases-loop-rest
decreases-loop-rest l = l.rest

use Rattle.std.proofs.Common.{arith}
use Rattle.wjs_texts.proofs.Decimals.{room, one_more, last_one}
use Rattle.wjs_texts.proofs.spelling.write_decimal.Goals as goal

pub overflow_sub-place-in-loop-rest : goal.overflow_sub-place-in-loop-rest
overflow_sub-place-in-loop-rest c =
    room c.args.number c.loop-rest.rest c.loop-rest.place c.loop-rest.digits (omega arith) (omega arith) (omega arith) c.loop-rest.invariant.0 c.loop-rest.invariant.1 c.loop-rest-test.true

pub loop-rest-preserved : goal.loop-rest-preserved
loop-rest-preserved c =
    (omega arith, one_more c.args.number c.loop-rest.rest c.loop-rest.place c.loop-rest.digits (omega arith) (omega arith) (omega arith) c.loop-rest.invariant.0 c.loop-rest.invariant.1 c.loop-rest-test.true)

pub returns-clause-digits : goal.returns-clause-digits
returns-clause-digits c =
    last_one c.args.number c.loop-rest.rest c.loop-rest.place c.loop-rest.digits (omega arith) (omega arith) (omega arith) c.loop-rest.invariant.0 c.loop-rest.invariant.1 c.loop-rest-test.false

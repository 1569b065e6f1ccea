use Rattle.std.proofs.Common.{◌≤◌, ◌-◌, arith, length}
use Rattle.std.proofs.lemmas.Grind.{common_steps}
use Rattle.wjs_num.proofs.Written.{write_more, fewer_digits, room, nothing_written}
use Rattle.wjs_num.proofs.digits.write_digits.Goals as goal

pub loop-rest-init : goal.loop-rest-init
loop-rest-init c = (omega arith, omega arith, c.requires.fits, c.told-buffer, nothing_written c.args.buffer.now _ 54 c.told-buffer)

pub loop-rest-preserved : goal.loop-rest-preserved
loop-rest-preserved c =
    let i = c.loop-rest.invariant in
    let low = c.requires.low in
    let radix_is = c.from-radix.ensures in
    let more = room c.loop-rest.rest (c.loop-rest.start - 1) c.loop-rest-test.true i.2 in
    let within : c.loop-rest.start ≤ length c.loop-rest.buffer = omega (arith, i.1, i.3) in (
      more,
      omega (arith, i.1),
      fewer_digits c.from-radix.result c.loop-rest.rest (c.loop-rest.start - 1) (omega arith) c.loop-rest-test.true i.2,
      grind (arith, common_steps, i.3),
      write_more c.from-radix.result c.loop-rest.rest c.loop-rest.start c.digit_unit.result c.loop-rest.buffer _ (omega arith) c.loop-rest-test.true i.0 within c.digit_unit.ensures i.4,
    )

use Rattle.std.proofs.Common.{refl, arith}
use Rattle.wjs_machine.proofs.Stepping.{under_on, turn_halts_on, measure_falls}
use Rattle.wjs_machine.proofs.whole.run_to_step.Goals as goal

pub loop-config-smaller : goal.loop-config-smaller
loop-config-smaller g c = measure_falls g.S.WorldStore.meaning c.args.config.now c.loop-config.config c.advance.new.config (c.goes_on.ensures.yes c.loop-config-test.true) c.if-config-left.true c.in-Ok.ensures.ok.falls

pub loop-config-preserved : goal.loop-config-preserved
loop-config-preserved g c =
    let seen = g.O.Sink.seen in
    let first = c.args.out.now in
    let before = c.loop-config.out in
    let after = c.advance.new.out in (
      under_on g.S.WorldStore.meaning (seen first).bytes (seen before).bytes (seen after).bytes (seen first).faults (seen before).faults (seen before).faults
          (seen after).faults c.args.config.now c.loop-config.config c.advance.new.config c.requires.running c.if-config-left.true c.loop-config.invariant.0
          c.in-Ok.ensures.ok,
      omega (arith, c.loop-config.invariant.1, c.advance.ensures.never_falls),
      refl,
    )

pub returns-in-Err-clause-err : goal.returns-in-Err-clause-err
returns-in-Err-clause-err g c =
    let seen = g.O.Sink.seen in
    let first = c.args.out.now in
    let before = c.loop-config.out in
    let after = c.advance.new.out in
    turn_halts_on g.S.WorldStore.meaning (seen first).bytes (seen before).bytes (seen after).bytes (seen first).faults (seen before).faults
    (seen after).faults c.args.config.now c.loop-config.config c.in-Err.halt c.loop-config.invariant.1 c.loop-config.invariant.0.reaches c.in-Err.ensures.err

use Rattle.std.proofs.Common.{arith}
use Rattle.wjs_machine.proofs.Stepping.{reach_on, halts_on}
use Rattle.wjs_machine.proofs.whole.run_turns.Goals as goal

pub loop-config-preserved : goal.loop-config-preserved
loop-config-preserved g c =
    let seen = g.O.Sink.seen in
    let first = c.args.out.now in
    let before = c.loop-config.out in
    let after = c.run_to_step.new.out in (
      reach_on g.S.WorldStore.meaning (seen first).bytes (seen before).bytes (seen after).bytes (seen first).faults (seen before).faults (seen before).faults
          (seen after).faults c.args.config.now c.loop-config.config c.run_to_step.new.config c.loop-config.invariant.0 c.in-Ok.ensures.ok.reaches,
      omega (arith, c.loop-config.invariant.1, c.run_to_step.ensures.never_falls),
    )

pub returns-in-Err-clause-err : goal.returns-in-Err-clause-err
returns-in-Err-clause-err g c =
    let seen = g.O.Sink.seen in
    let first = c.args.out.now in
    let before = c.loop-config.out in
    let after = c.run_to_step.new.out in
    halts_on g.S.WorldStore.meaning (seen first).bytes (seen before).bytes (seen after).bytes (seen first).faults (seen before).faults (seen after).faults
    c.args.config.now c.loop-config.config c.in-Err.halt c.loop-config.invariant.1 c.loop-config.invariant.0 c.in-Err.ensures.err

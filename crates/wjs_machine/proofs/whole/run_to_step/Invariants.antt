use Rattle.std.proofs.Common.{◌≡◌, ◌≤◌}
use Rattle.wjs_io.specs.Streams.{over}
use Rattle.wjs_machine.proofs.Stepping.{Under, turns_to_step}
use Rattle.wjs_machine.proofs.whole.run_to_step.Given as goal

-- what went out, and that no step was taken while the run goes on with as many steps
abbrev pub invariant-loop-config : goal.invariant-loop-config
invariant-loop-config g l =
    Under g.S.WorldStore.meaning (over g.O.Sink.seen l.fn.out l.out) l.fn.config l.config × ((g.O.Sink.seen l.fn.out).faults ≤ (g.O.Sink.seen l.out).faults)
    × (l.left ≡ l.fn.config.left)

abbrev pub decreases-loop-config : goal.decreases-loop-config
decreases-loop-config g l = turns_to_step g.S.WorldStore.meaning l.fn.config l.config

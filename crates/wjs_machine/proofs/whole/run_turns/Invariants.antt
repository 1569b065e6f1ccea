use Rattle.std.proofs.Common.{◌≤◌}
use Rattle.wjs_io.specs.Streams.{over}
use Rattle.wjs_machine.specs.Runs.{Reaches, weight}
use Rattle.wjs_machine.proofs.whole.run_turns.Given as goal

abbrev pub invariant-loop-config : goal.invariant-loop-config
invariant-loop-config g l =
    Reaches g.S.WorldStore.meaning (over g.O.Sink.seen l.fn.out l.out) l.fn.config l.config × ((g.O.Sink.seen l.fn.out).faults ≤ (g.O.Sink.seen l.out).faults)

abbrev pub decreases-loop-config : goal.decreases-loop-config
decreases-loop-config g l = weight l.config

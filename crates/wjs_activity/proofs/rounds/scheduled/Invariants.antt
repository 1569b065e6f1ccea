use Rattle.std.proofs.Common.{◌≤◌}
use Rattle.wjs_io.specs.Streams.{over}
use Rattle.wjs_activity.specs.Rounds.{TurnsTo, Settled}
use Rattle.wjs_activity.proofs.Lefts.{LeftOf}
use Rattle.wjs_activity.proofs.rounds.scheduled.Given as goal

abbrev pub invariant-loop-turn : goal.invariant-loop-turn
invariant-loop-turn g l = record {
  turns : TurnsTo l.rules (over g.O.Sink.seen l.fn.out l.out)
      (LeftOf l.rules.budget l.schedule l.turn-index) l.fn.play l.current;
  settled : Settled l.current.activities.items;
  never_falls : (g.O.Sink.seen l.fn.out).faults ≤ (g.O.Sink.seen l.out).faults;
}

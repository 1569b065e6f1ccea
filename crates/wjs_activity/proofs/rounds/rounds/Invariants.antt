use Rattle.std.proofs.Common.{ℕ, ◌≤◌}
use Rattle.wjs_io.specs.Streams.{over}
use Rattle.wjs_activity.specs.Rounds.{TurnsTo, Settled, Within, fuel}
use Rattle.wjs_activity.proofs.Lefts.{LeftFor}
use Rattle.wjs_activity.proofs.rounds.rounds.Given as goal

abbrev pub invariant-loop-alloc : goal.invariant-loop-alloc
invariant-loop-alloc g l = record {
  turns : (k : ℕ) × Within l.rules.budget k l.current.activities.items
      × TurnsTo l.rules (over g.O.Sink.seen l.fn.out l.out)
      (LeftFor l.rules.budget l.turn k) l.fn.play l.current;
  settled : Settled l.current.activities.items;
  never_falls : (g.O.Sink.seen l.fn.out).faults ≤ (g.O.Sink.seen l.out).faults;
}

abbrev pub decreases-loop-alloc : goal.decreases-loop-alloc
decreases-loop-alloc g l = fuel l.rules.budget l.current

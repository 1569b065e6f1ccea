use Rattle.std.proofs.Common.{◌≤◌, length}
use Rattle.wjs_io.specs.Streams.{over}
use Rattle.wjs_activity.specs.Rounds.{TurnsTo, Settled}
use Rattle.wjs_activity.proofs.Rounded.{Round}
use Rattle.wjs_activity.proofs.Lefts.{LeftIn}
use Rattle.wjs_activity.proofs.rounds.round.Given as goal

abbrev pub invariant-loop-place : goal.invariant-loop-place
invariant-loop-place g l = record {
  turns : TurnsTo l.rules (over g.O.Sink.seen l.fn.out l.out)
      (LeftIn l.rules.budget l.turn (length l.fn.play.activities.items) l.place) l.fn.play l.current;
  settled : Settled l.current.activities.items;
  never_falls : (g.O.Sink.seen l.fn.out).faults ≤ (g.O.Sink.seen l.out).faults;
  round : Round l.rules.budget l.fn.play l.current l.place;
}

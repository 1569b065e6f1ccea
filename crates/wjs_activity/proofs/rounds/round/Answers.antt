use Rattle.std.proofs.Common.{◌+◌, ◌<◌, ◌≤◌, length, arith}
use Rattle.wjs_io.specs.Streams.{over}
use Rattle.wjs_activity.specs.Rounds.{Is, by_turn, by_round, at_place}
use Rattle.wjs_activity.proofs.Composed.{turns_none, turns_then, turns_so, halts_then, goes_on}
use Rattle.wjs_activity.proofs.Rounded.{round_none, round_step, round_all, round_sooner}
use Rattle.wjs_activity.proofs.Lefts.{LeftIn, left_in_first, left_in_next, left_in_none, front_in_next}
use Rattle.wjs_activity.proofs.rounds.round.Goals as goal

pub loop-place-init : goal.loop-place-init
loop-place-init g c =
    let first = c.args.out.now in
    record {
      turns = turns_none c.args.rules (g.O.Sink.seen first).bytes (g.O.Sink.seen first).faults c.args.play
          (LeftIn c.args.rules.budget c.args.turn (length c.args.play.activities.items) 0)
          (λ library parts ends d ex. left_in_first c.args.rules.budget library parts c.args.turn c.args.play ends d ex);
      settled = c.requires.settled;
      never_falls = omega arith;
      round = round_none c.args.rules.budget c.args.play;
    }

pub turn_at-requires-clause-going : goal.turn_at-requires-clause-going
turn_at-requires-clause-going g c =
    let seen = g.O.Sink.seen in
    let first = c.args.out.now in
    let before = c.loop-place.out in
    goes_on c.args.rules (over seen first before) _ c.args.play c.loop-place.current c.requires.going c.loop-place.invariant.turns

pub turn_at-requires-clause-settled : goal.turn_at-requires-clause-settled
turn_at-requires-clause-settled g c = c.loop-place.invariant.settled

pub turn_at-requires-clause-place : goal.turn_at-requires-clause-place
turn_at-requires-clause-place g c =
    let long = c.loop-place.invariant.round.long in
    omega (arith, long, c.loop-place-test.true)

pub loop-place-preserved : goal.loop-place-preserved
loop-place-preserved g c =
    let seen = g.O.Sink.seen in
    let first = c.args.out.now in
    let before = c.loop-place.out in
    let after = c.turn_at.new.out in
    let inside : c.loop-place.place < length c.args.play.activities.items = omega (arith, c.loop-place-test.true) in
    record {
      turns = turns_then c.args.rules (seen first).bytes (seen before).bytes (seen after).bytes (seen first).faults (seen before).faults
          (seen after).faults c.args.play c.loop-place.current c.in-Ok.next
          (LeftIn c.args.rules.budget c.args.turn (length c.args.play.activities.items) c.loop-place.place)
          (Is (by_turn c.args.rules.budget (at_place c.loop-place.place c.args.turn)))
          (LeftIn c.args.rules.budget c.args.turn (length c.args.play.activities.items) (c.loop-place.place + 1))
          (λ library parts ends d e g left is now. left_in_next c.args.rules.budget library parts c.args.turn
          (length c.args.play.activities.items) c.loop-place.place inside d e left g now)
          c.loop-place.invariant.turns c.in-Ok.ensures.ok;
      settled = c.in-Ok.ensures.settled;
      never_falls = omega (arith, c.loop-place.invariant.never_falls, c.turn_at.ensures.never_falls);
      round = round_step c.args.rules.budget c.args.play c.loop-place.current c.in-Ok.next c.loop-place.place c.loop-place.invariant.round inside
          c.in-Ok.ensures.changes;
    }

pub returns-in-Err-clause-err : goal.returns-in-Err-clause-err
returns-in-Err-clause-err g c =
    let seen = g.O.Sink.seen in
    let first = c.args.out.now in
    let before = c.loop-place.out in
    let after = c.turn_at.new.out in
    let inside : c.loop-place.place < length c.args.play.activities.items = omega (arith, c.loop-place-test.true) in
    halts_then c.args.rules (seen first).bytes (seen before).bytes (seen after).bytes (seen first).faults (seen before).faults (seen after).faults c.args.play
    c.loop-place.current c.in-Err.halt
    (LeftIn c.args.rules.budget c.args.turn (length c.args.play.activities.items) c.loop-place.place)
    (by_turn c.args.rules.budget (at_place c.loop-place.place c.args.turn)) (by_round c.args.rules.budget c.args.turn)
    (λ library parts ends d e left is. front_in_next c.args.rules.budget library parts c.args.turn
    (length c.args.play.activities.items) c.loop-place.place inside d e left)
    c.loop-place.invariant.never_falls c.loop-place.invariant.turns c.in-Err.ensures.err

pub returns-in-Err-clause-never_falls : goal.returns-in-Err-clause-never_falls
returns-in-Err-clause-never_falls g c = omega (arith, c.loop-place.invariant.never_falls, c.turn_at.ensures.never_falls)

pub returns-clause-ok : goal.returns-clause-ok
returns-clause-ok g c =
    let seen = g.O.Sink.seen in
    let first = c.args.out.now in
    let after = c.loop-place.out in
    let whole : length c.args.play.activities.items ≤ c.loop-place.place = omega (arith, c.loop-place-test.false) in
    turns_so c.args.rules (over seen first after) c.args.play c.loop-place.current
    (LeftIn c.args.rules.budget c.args.turn (length c.args.play.activities.items) c.loop-place.place) (Is (by_round c.args.rules.budget c.args.turn))
    (λ library parts ends later d e was is left. left_in_none c.args.rules.budget library parts c.args.turn
    (length c.args.play.activities.items) c.loop-place.place whole d e left)
    c.loop-place.invariant.turns

pub returns-clause-settled : goal.returns-clause-settled
returns-clause-settled g c = c.loop-place.invariant.settled

pub returns-clause-sooner : goal.returns-clause-sooner
returns-clause-sooner g c =
    let whole : length c.args.play.activities.items ≤ c.loop-place.place = omega (arith, c.loop-place-test.false) in
    round_sooner c.args.rules.budget c.args.play c.loop-place.current c.loop-place.place c.loop-place.invariant.round whole

pub returns-clause-less : goal.returns-clause-less
returns-clause-less g c =
    let whole : length c.args.play.activities.items ≤ c.loop-place.place = omega (arith, c.loop-place-test.false) in
    round_all c.args.rules.budget c.args.play c.loop-place.current c.loop-place.place c.loop-place.invariant.round whole

pub returns-clause-never_falls : goal.returns-clause-never_falls
returns-clause-never_falls g c = c.loop-place.invariant.never_falls

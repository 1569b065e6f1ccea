use Rattle.std.proofs.Common.{◌+◌, refl, arith}
use Rattle.std.specs.Prelude.{map as each}
use Rattle.wjs_io.specs.Streams.{over}
use Rattle.wjs_activity.specs.Plays.{turn_in}
use Rattle.wjs_activity.specs.Rounds.{Is, by_turn, by_turns}
use Rattle.wjs_activity.proofs.Composed.{turns_none, turns_then, turns_so, halts_then, goes_on}
use Rattle.wjs_activity.proofs.Lefts.{LeftOf, turn_of, left_of_next, left_of_none, front_of_next}
use Rattle.wjs_activity.proofs.rounds.scheduled.Goals as goal

pub loop-turn-init : goal.loop-turn-init
loop-turn-init g c =
    let first = c.args.out.now in
    record {
      turns = turns_none c.args.rules (g.O.Sink.seen first).bytes (g.O.Sink.seen first).faults c.args.play (LeftOf c.args.rules.budget c.args.schedule.now 0)
          (λ library parts ends d ex. refl);
      settled = c.requires.settled;
      never_falls = omega arith;
    }

pub turn_of-requires-clause-going : goal.turn_of-requires-clause-going
turn_of-requires-clause-going g c =
    let seen = g.O.Sink.seen in
    let first = c.args.out.now in
    let before = c.loop-turn.out in
    goes_on c.args.rules (over seen first before) _ c.args.play c.loop-turn.current c.requires.going c.loop-turn.invariant.turns

pub turn_of-requires-clause-settled : goal.turn_of-requires-clause-settled
turn_of-requires-clause-settled g c = c.loop-turn.invariant.settled

pub loop-turn-preserved : goal.loop-turn-preserved
loop-turn-preserved g c =
    let seen = g.O.Sink.seen in
    let first = c.args.out.now in
    let before = c.loop-turn.out in
    let after = c.turn_of.new.out in
    record {
      turns = turns_then c.args.rules (seen first).bytes (seen before).bytes (seen after).bytes (seen first).faults (seen before).faults
          (seen after).faults c.args.play c.loop-turn.current c.in-Ok.next
          (LeftOf c.args.rules.budget c.args.schedule.now c.loop-turn.turn-index)
          (Is (by_turn c.args.rules.budget (turn_in (turn_of c.args.schedule.now c.loop-turn.turn-index))))
          (LeftOf c.args.rules.budget c.args.schedule.now (c.loop-turn.turn-index + 1))
          (λ library parts ends d e g left is now. left_of_next c.args.rules.budget library parts c.args.schedule.now c.loop-turn.turn-index
          (omega arith) d e left g now)
          c.loop-turn.invariant.turns c.in-Ok.ensures.ok;
      settled = c.in-Ok.ensures.settled;
      never_falls = omega (arith, c.loop-turn.invariant.never_falls, c.turn_of.ensures.never_falls);
    }

pub returns-in-Err-clause-err : goal.returns-in-Err-clause-err
returns-in-Err-clause-err g c =
    let seen = g.O.Sink.seen in
    let first = c.args.out.now in
    let before = c.loop-turn.out in
    let after = c.turn_of.new.out in
    halts_then c.args.rules (seen first).bytes (seen before).bytes (seen after).bytes (seen first).faults (seen before).faults (seen after).faults c.args.play
    c.loop-turn.current c.in-Err.halt
    (LeftOf c.args.rules.budget c.args.schedule.now c.loop-turn.turn-index)
    (by_turn c.args.rules.budget (turn_in (turn_of c.args.schedule.now c.loop-turn.turn-index)))
    (by_turns c.args.rules.budget (each turn_in c.args.schedule.now))
    (λ library parts ends d e left is. front_of_next c.args.rules.budget library parts c.args.schedule.now c.loop-turn.turn-index (omega arith) d e left)
    c.loop-turn.invariant.never_falls c.loop-turn.invariant.turns c.in-Err.ensures.err

pub returns-in-Err-clause-never_falls : goal.returns-in-Err-clause-never_falls
returns-in-Err-clause-never_falls g c = omega (arith, c.loop-turn.invariant.never_falls, c.turn_of.ensures.never_falls)

pub returns-clause-ok : goal.returns-clause-ok
returns-clause-ok g c =
    let seen = g.O.Sink.seen in
    let first = c.args.out.now in
    let after = c.loop-turn.out in
    turns_so c.args.rules (over seen first after) c.args.play c.loop-turn.current
    (LeftOf c.args.rules.budget c.args.schedule.now c.loop-turn.turn-index) (Is (by_turns c.args.rules.budget (each turn_in c.args.schedule.now)))
    (λ library parts ends later d e was is left. left_of_none c.args.rules.budget library parts c.args.schedule.now c.loop-turn.turn-index
    (omega arith) d e left)
    c.loop-turn.invariant.turns

pub returns-clause-settled : goal.returns-clause-settled
returns-clause-settled g c = c.loop-turn.invariant.settled

pub returns-clause-never_falls : goal.returns-clause-never_falls
returns-clause-never_falls g c = c.loop-turn.invariant.never_falls

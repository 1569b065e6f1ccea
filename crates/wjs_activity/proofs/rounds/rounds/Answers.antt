use Rattle.std.proofs.Common.{◌≡◌, ◌+◌, ◌*◌, true, List, refl, arith, subst}
use Rattle.std.specs.Prelude.{All}
use Rattle.wjs_io.specs.Streams.{over}
use Rattle.wjs_activity.specs.declared.activities.Activity.{Activity}
use Rattle.wjs_activity.specs.Rounds.{Is, Within, by_round, by_rounds}
use Rattle.wjs_activity.proofs.Composed.{turns_none, turns_then, turns_so, halts_then, goes_on}
use Rattle.wjs_activity.proofs.Rounded.{within_all, within_next, not_over, over_all, some_left}
use Rattle.wjs_activity.proofs.Lefts.{LeftFor, left_for_next, left_for_none, front_for_next}
use Rattle.wjs_activity.proofs.rounds.rounds.Goals as goal

pub loop-alloc-init : goal.loop-alloc-init
loop-alloc-init g c =
    let first = c.args.out.now in
    record {
      turns = (
        3 * c.args.rules.budget + 1,
        within_all c.args.rules c.args.play c.requires.going,
        turns_none c.args.rules (g.O.Sink.seen first).bytes (g.O.Sink.seen first).faults c.args.play
            (LeftFor c.args.rules.budget c.args.turn (3 * c.args.rules.budget + 1)) (λ library parts ends d ex. refl),
      );
      settled = c.requires.settled;
      never_falls = omega arith;
    }

pub round-requires-clause-going : goal.round-requires-clause-going
round-requires-clause-going g c =
    let seen = g.O.Sink.seen in
    let first = c.args.out.now in
    let before = c.loop-alloc.out in
    goes_on c.args.rules (over seen first before) _ c.args.play c.loop-alloc.current c.requires.going c.loop-alloc.invariant.turns.2

pub round-requires-clause-settled : goal.round-requires-clause-settled
round-requires-clause-settled g c = c.loop-alloc.invariant.settled

pub loop-alloc-smaller : goal.loop-alloc-smaller
loop-alloc-smaller g c = c.in-Ok.ensures.less (subst (λ (l : List Activity). ¬ (All (λ (a : Activity). a.ended ≡ true) l)) c.as_slice.ensures.value
    (c.go_on.ensures.yes c.loop-alloc-test.true))

pub loop-alloc-preserved : goal.loop-alloc-preserved
loop-alloc-preserved g c =
    let seen = g.O.Sink.seen in
    let first = c.args.out.now in
    let before = c.loop-alloc.out in
    let after = c.round.new.out in
    let on = not_over c.loop-alloc.current.activities.items (subst
    (λ (l : List Activity). ¬ (All (λ (a : Activity). a.ended ≡ true) l)) c.as_slice.ensures.value (c.go_on.ensures.yes c.loop-alloc-test.true)) in
    let h = c.loop-alloc.invariant.turns in
    let w = some_left c.args.rules.budget h.0 c.loop-alloc.current.activities.items h.1 on in
    record {
      turns = (
        w.0,
        within_next c.args.rules.budget w.0 c.loop-alloc.current c.in-Ok.next
            (subst (λ k. Within c.args.rules.budget k c.loop-alloc.current.activities.items) w.1 h.1) c.in-Ok.ensures.sooner c.in-Ok.ensures.settled,
        turns_then c.args.rules (seen first).bytes (seen before).bytes (seen after).bytes (seen first).faults (seen before).faults
            (seen after).faults c.args.play c.loop-alloc.current c.in-Ok.next
            (LeftFor c.args.rules.budget c.args.turn h.0) (Is (by_round c.args.rules.budget c.args.turn)) (LeftFor c.args.rules.budget c.args.turn w.0)
            (λ library parts ends d e g left is now. left_for_next c.args.rules.budget library parts c.args.turn c.loop-alloc.current ends e is on w.0 h.0 w.1
            d g left now)
            h.2 c.in-Ok.ensures.ok,
      );
      settled = c.in-Ok.ensures.settled;
      never_falls = omega (arith, c.loop-alloc.invariant.never_falls, c.round.ensures.never_falls);
    }

pub returns-in-Err-clause-err : goal.returns-in-Err-clause-err
returns-in-Err-clause-err g c =
    let seen = g.O.Sink.seen in
    let first = c.args.out.now in
    let before = c.loop-alloc.out in
    let after = c.round.new.out in
    let on = not_over c.loop-alloc.current.activities.items (subst
    (λ (l : List Activity). ¬ (All (λ (a : Activity). a.ended ≡ true) l)) c.as_slice.ensures.value (c.go_on.ensures.yes c.loop-alloc-test.true)) in
    let h = c.loop-alloc.invariant.turns in
    let w = some_left c.args.rules.budget h.0 c.loop-alloc.current.activities.items h.1 on in
    halts_then c.args.rules (seen first).bytes (seen before).bytes (seen after).bytes (seen first).faults (seen before).faults (seen after).faults c.args.play
    c.loop-alloc.current c.in-Err.halt
    (LeftFor c.args.rules.budget c.args.turn h.0) (by_round c.args.rules.budget c.args.turn) (by_rounds c.args.rules.budget c.args.turn)
    (λ library parts ends d e left is. front_for_next c.args.rules.budget library parts c.args.turn c.loop-alloc.current ends e is on w.0 h.0 w.1 d left)
    c.loop-alloc.invariant.never_falls h.2 c.in-Err.ensures.err

pub returns-in-Err-clause-never_falls : goal.returns-in-Err-clause-never_falls
returns-in-Err-clause-never_falls g c = omega (arith, c.loop-alloc.invariant.never_falls, c.round.ensures.never_falls)

pub returns-clause-ok : goal.returns-clause-ok
returns-clause-ok g c =
    let seen = g.O.Sink.seen in
    let first = c.args.out.now in
    let after = c.loop-alloc.out in
    let h = c.loop-alloc.invariant.turns in
    let done = over_all c.loop-alloc.current.activities.items
    (subst (λ (l : List Activity). All (λ (a : Activity). a.ended ≡ true) l) c.as_slice.ensures.value (c.go_on.ensures.no c.loop-alloc-test.false)) in
    turns_so c.args.rules (over seen first after) c.args.play c.loop-alloc.current
    (LeftFor c.args.rules.budget c.args.turn h.0) (Is (by_rounds c.args.rules.budget c.args.turn))
    (λ library parts ends later d e was is left. left_for_none c.args.rules.budget library parts h.0 c.args.turn c.loop-alloc.current later d e is done left)
    h.2

pub returns-clause-ended : goal.returns-clause-ended
returns-clause-ended g c = subst (λ (l : List Activity). All (λ (a : Activity). a.ended ≡ true) l) c.as_slice.ensures.value
    (c.go_on.ensures.no c.loop-alloc-test.false)

pub returns-clause-never_falls : goal.returns-clause-never_falls
returns-clause-never_falls g c = c.loop-alloc.invariant.never_falls

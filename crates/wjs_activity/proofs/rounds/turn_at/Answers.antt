use Rattle.std.proofs.Common.{◌∙◌, sym, ap, List, arith}
use Rattle.std.specs.Prelude.{slice_get}
use Rattle.std.proofs.lemmas.Result.{IfOk-weaker}
use Rattle.wjs_base.proofs.Lists.{get_there}
use Rattle.wjs_io.specs.Streams.{over}
use Rattle.wjs_activity.specs.declared.activities.Activity.{Activity}
use Rattle.wjs_activity.specs.Rounds.{Settled, LastTurn, LastHalts, TurnAt, TurnsTo, HaltsIn, Is, by_turn, at_place}
use Rattle.wjs_activity.proofs.Founds.{ended_turn}
use Rattle.wjs_activity.proofs.Composed.{turns_none, goes_on, if_err}
use Rattle.wjs_activity.proofs.AtPlace.{at_none, may_first, may_last, settled_at, turned_at, long_changed, turn_stopped, turn_taken, last_stopped}
use Rattle.wjs_activity.proofs.rounds.turn_at.Goals as goal

pub returns-then-has_ended-clause-ok : goal.returns-then-has_ended-clause-ok
returns-then-has_ended-clause-ok g c =
    let w = get_there c.args.play.activities.items c.args.place c.requires.place in
    let over = sym (c.has_ended.ensures w.0 (ap (λ (l : List Activity). slice_get l c.args.place) c.as_slice.ensures.value ∙ w.1)) ∙ c.if-has_ended.true in
    turns_none c.args.rules (g.O.Sink.seen c.args.out.now).bytes (g.O.Sink.seen c.args.out.now).faults c.args.play
    (Is (by_turn c.args.rules.budget (at_place c.args.place c.args.steps)))
    (λ library parts ends d ex. ended_turn c.args.rules.budget c.args.play ends d ex library parts c.args.place c.args.steps w.0 w.1 over)

pub returns-then-has_ended-clause-changes : goal.returns-then-has_ended-clause-changes
returns-then-has_ended-clause-changes g c =
    let w = get_there c.args.play.activities.items c.args.place c.requires.place in
    at_none c.args.rules.budget c.args.place c.args.play w.0 w.1
    (sym (c.has_ended.ensures w.0 (ap (λ (l : List Activity). slice_get l c.args.place) c.as_slice.ensures.value ∙ w.1)) ∙ c.if-has_ended.true)

pub one_turn-requires-clause-there : goal.one_turn-requires-clause-there
one_turn-requires-clause-there g c =
    let w = get_there c.args.play.activities.items c.args.place c.requires.place in
    may_first c.args.rules.budget c.args.place c.args.steps c.args.play w.0 c.requires.settled w.1
    (sym (c.has_ended.ensures w.0 (ap (λ (l : List Activity). slice_get l c.args.place) c.as_slice.ensures.value ∙ w.1)) ∙ c.if-has_ended.false)

pub last_turn-requires-clause-going : goal.last_turn-requires-clause-going
last_turn-requires-clause-going g c =
    let seen = g.O.Sink.seen in
    let first = c.args.out.now in
    let middle = c.one_turn.new.out in
    goes_on c.args.rules (over seen first middle) _ c.args.play c.in-Ok.next c.requires.going c.in-Ok.ensures.ok.turns

pub last_turn-requires-clause-place : goal.last_turn-requires-clause-place
last_turn-requires-clause-place g c =
    let long = long_changed c.args.rules.budget c.args.place c.args.play c.in-Ok.next c.in-Ok.ensures.ok.changes in
    omega (arith, long, c.requires.place)

pub last_turn-requires-clause-due : goal.last_turn-requires-clause-due
last_turn-requires-clause-due g c =
    let w = get_there c.args.play.activities.items c.args.place c.requires.place in
    may_last c.args.rules.budget c.args.place c.args.play c.in-Ok.next w.0 c.in-Ok.ensures.ok.changes w.1

pub returns-in-Ok-clause-ok : goal.returns-in-Ok-clause-ok
returns-in-Ok-clause-ok g c =
    let seen = g.O.Sink.seen in
    let first = c.args.out.now in
    let middle = c.one_turn.new.out in
    let after = c.last_turn.new.out in
    let w = get_there c.args.play.activities.items c.args.place c.requires.place in
    IfOk-weaker c.last_turn.result (LastTurn c.args.rules (over seen middle after) c.args.place c.in-Ok.next)
    (TurnsTo c.args.rules (over seen first after) (Is (by_turn c.args.rules.budget (at_place c.args.place c.args.steps))) c.args.play)
    (λ next l. turn_taken c.args.rules c.args.place c.args.steps c.args.play c.in-Ok.next w.0 w.1 (seen first).bytes (seen middle).bytes (seen after).bytes
    (seen first).faults (seen middle).faults (seen after).faults c.in-Ok.ensures.ok next
    (may_last c.args.rules.budget c.args.place c.args.play c.in-Ok.next w.0 c.in-Ok.ensures.ok.changes w.1) l)
    c.last_turn.ensures.ok

pub returns-in-Ok-clause-settled : goal.returns-in-Ok-clause-settled
returns-in-Ok-clause-settled g c =
    let seen = g.O.Sink.seen in
    let middle = c.one_turn.new.out in
    let after = c.last_turn.new.out in
    let s = over seen middle after in
    let w = get_there c.args.play.activities.items c.args.place c.requires.place in
    IfOk-weaker c.last_turn.result (LastTurn c.args.rules s c.args.place c.in-Ok.next) (λ next. Settled next.activities.items)
    (λ next l. settled_at c.args.rules s c.args.place c.args.play c.in-Ok.next next w.0 w.1 c.in-Ok.ensures.ok.changes l c.requires.settled)
    c.last_turn.ensures.ok

pub returns-in-Ok-clause-changes : goal.returns-in-Ok-clause-changes
returns-in-Ok-clause-changes g c =
    let seen = g.O.Sink.seen in
    let middle = c.one_turn.new.out in
    let after = c.last_turn.new.out in
    let s = over seen middle after in
    let w = get_there c.args.play.activities.items c.args.place c.requires.place in
    IfOk-weaker c.last_turn.result (LastTurn c.args.rules s c.args.place c.in-Ok.next) (TurnAt c.args.rules.budget c.args.place c.args.play)
    (λ next l. turned_at c.args.rules s c.args.place c.args.play c.in-Ok.next next w.0 w.1 c.in-Ok.ensures.ok.changes l)
    c.last_turn.ensures.ok

pub returns-in-Ok-clause-err : goal.returns-in-Ok-clause-err
returns-in-Ok-clause-err g c =
    let seen = g.O.Sink.seen in
    let first = c.args.out.now in
    let middle = c.one_turn.new.out in
    let after = c.last_turn.new.out in
    let w = get_there c.args.play.activities.items c.args.place c.requires.place in
    if_err c.last_turn.result (LastHalts c.args.rules (over seen middle after) c.args.place c.in-Ok.next)
    (HaltsIn c.args.rules (over seen first after) (by_turn c.args.rules.budget (at_place c.args.place c.args.steps)) c.args.play)
    (λ halt h. last_stopped c.args.rules c.args.place c.args.steps c.args.play c.in-Ok.next w.0 w.1 (seen first).bytes (seen middle).bytes (seen after).bytes
    (seen first).faults (seen middle).faults (seen after).faults c.in-Ok.ensures.ok halt c.one_turn.ensures.never_falls
    (may_last c.args.rules.budget c.args.place c.args.play c.in-Ok.next w.0 c.in-Ok.ensures.ok.changes w.1) h)
    c.last_turn.ensures.err

pub returns-in-Ok-clause-never_falls : goal.returns-in-Ok-clause-never_falls
returns-in-Ok-clause-never_falls g c = omega (arith, c.one_turn.ensures.never_falls, c.last_turn.ensures.never_falls)

pub returns-in-Err-clause-err : goal.returns-in-Err-clause-err
returns-in-Err-clause-err g c =
    let seen = g.O.Sink.seen in
    let first = c.args.out.now in
    let after = c.one_turn.new.out in
    let w = get_there c.args.play.activities.items c.args.place c.requires.place in
    let on = sym (c.has_ended.ensures w.0 (ap (λ (l : List Activity). slice_get l c.args.place) c.as_slice.ensures.value ∙ w.1)) ∙ c.if-has_ended.false in
    turn_stopped c.args.rules c.args.place c.args.steps c.args.play c.args.play w.0 w.1
    (over seen first after) c.in-Err.halt on c.in-Err.ensures.err

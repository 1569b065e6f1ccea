use Rattle.std.proofs.Common.{◌+◌, ◌*◌, ap, ◌∙◌, sym, subst, arith}
use Rattle.std.specs.Prelude.{map as each}
use Rattle.std.proofs.lemmas.Result.{IfOk-weaker}
use Rattle.wjs_io.specs.Streams.{over}
use Rattle.wjs_alone.specs.Fronts.{Fronts}
use Rattle.wjs_alone.proofs.AllTurns.{rounds_front}
use Rattle.wjs_activity.specs.Plays.{turn_in}
use Rattle.wjs_activity.specs.Rounds.{Is, by_turns, by_rounds, by_all}
use Rattle.wjs_activity.proofs.Composed.{turns_then, halts_then, halts_so, goes_on, if_err}
use Rattle.wjs_activity.proofs.whole.all_turns.Goals as goal

pub rounds-requires-clause-going : goal.rounds-requires-clause-going
rounds-requires-clause-going g c =
    let seen = g.O.Sink.seen in
    let first = c.args.out.now in
    let middle = c.scheduled.new.out in
    goes_on c.args.rules (over seen first middle) _ c.args.play c.in-Ok.next c.requires.going c.in-Ok.ensures.ok

pub rounds-requires-clause-settled : goal.rounds-requires-clause-settled
rounds-requires-clause-settled g c = c.in-Ok.ensures.settled

pub returns-in-Ok-clause-ok : goal.returns-in-Ok-clause-ok
returns-in-Ok-clause-ok g c =
    let seen = g.O.Sink.seen in
    let first = c.args.out.now in
    let middle = c.scheduled.new.out in
    let after = c.rounds.new.out in
    IfOk-weaker c.rounds.result _ _
    (λ next h. turns_then c.args.rules (seen first).bytes (seen middle).bytes (seen after).bytes (seen first).faults (seen middle).faults (seen after).faults
    c.args.play c.in-Ok.next next
    (Is (by_turns c.args.rules.budget (each turn_in c.args.schedule.now))) (Is (by_rounds c.args.rules.budget c.args.turn))
    (Is (by_all c.args.rules.budget (each turn_in c.args.schedule.now) c.args.turn))
    (λ library parts ends d e g one is two. ap (by_rounds c.args.rules.budget c.args.turn library parts) one ∙ two)
    c.in-Ok.ensures.ok h)
    c.rounds.ensures.ok

pub returns-in-Ok-clause-ended : goal.returns-in-Ok-clause-ended
returns-in-Ok-clause-ended g c = c.rounds.ensures.ended

pub returns-in-Ok-clause-err : goal.returns-in-Ok-clause-err
returns-in-Ok-clause-err g c =
    let seen = g.O.Sink.seen in
    let first = c.args.out.now in
    let middle = c.scheduled.new.out in
    let after = c.rounds.new.out in
    if_err c.rounds.result _ _
    (λ halt h. halts_then c.args.rules (seen first).bytes (seen middle).bytes (seen after).bytes (seen first).faults (seen middle).faults (seen after).faults
    c.args.play c.in-Ok.next halt
    (Is (by_turns c.args.rules.budget (each turn_in c.args.schedule.now))) (by_rounds c.args.rules.budget c.args.turn)
    (by_all c.args.rules.budget (each turn_in c.args.schedule.now) c.args.turn)
    (λ library parts ends d e one is front k. subst (λ x. Fronts front (by_rounds c.args.rules.budget c.args.turn library parts x)) (sym one) k)
    c.scheduled.ensures.never_falls c.in-Ok.ensures.ok h)
    c.rounds.ensures.err

pub returns-in-Ok-clause-never_falls : goal.returns-in-Ok-clause-never_falls
returns-in-Ok-clause-never_falls g c = omega (arith, c.scheduled.ensures.never_falls, c.rounds.ensures.never_falls)

pub returns-in-Err-clause-err : goal.returns-in-Err-clause-err
returns-in-Err-clause-err g c =
    let seen = g.O.Sink.seen in
    let first = c.args.out.now in
    let after = c.scheduled.new.out in
    let budget = c.args.rules.budget in
    halts_so c.args.rules (over seen first after) c.args.play c.in-Err.halt
    (by_turns c.args.rules.budget (each turn_in c.args.schedule.now)) (by_all c.args.rules.budget (each turn_in c.args.schedule.now) c.args.turn)
    (λ library parts ends d ex front k. rounds_front library parts budget front (3 * budget + 1) c.args.turn
    (by_turns budget (each turn_in c.args.schedule.now) library parts d) k)
    c.in-Err.ensures.err

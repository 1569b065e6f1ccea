use Rattle.std.proofs.Common.{◌≡◌, ◌<◌, ◌⊎◌, ◌∙◌, subst}
use Rattle.std.proofs.lemmas.Result.{IfOk-weaker}
use Rattle.wjs_io.specs.Streams.{over}
use Rattle.wjs_activity.specs.Plays.{turn_in}
use Rattle.wjs_activity.specs.Rounds.{TurnsTo, HaltsIn, Is, by_turn}
use Rattle.wjs_activity.proofs.Founds.{none_turn}
use Rattle.wjs_activity.proofs.Composed.{turns_none, if_err}
use Rattle.wjs_activity.proofs.rounds.turn_of.Goals as goal

pub returns-in-Some-clause-ok : goal.returns-in-Some-clause-ok
returns-in-Some-clause-ok g c =
    let seen = g.O.Sink.seen in
    let first = c.args.out.now in
    let after = c.turn_at.new.out in
    let s = over seen first after in
    IfOk-weaker c.turn_at.result _ _
    (λ next h. subst (λ k. TurnsTo c.args.rules s (Is (by_turn c.args.rules.budget
    (record { activity = k; steps = c.args.turn.steps }))) c.args.play next) c.in-Some.ensures.1 h)
    c.turn_at.ensures.ok

pub returns-in-Some-clause-err : goal.returns-in-Some-clause-err
returns-in-Some-clause-err g c =
    let seen = g.O.Sink.seen in
    let first = c.args.out.now in
    let after = c.turn_at.new.out in
    let s = over seen first after in
    if_err c.turn_at.result _ _
    (λ halt h. subst (λ k. HaltsIn c.args.rules s (by_turn c.args.rules.budget
    (record { activity = k; steps = c.args.turn.steps })) c.args.play halt) c.in-Some.ensures.1 h)
    c.turn_at.ensures.err

pub returns-in-None-clause-ok : goal.returns-in-None-clause-ok
returns-in-None-clause-ok g c =
    turns_none c.args.rules (g.O.Sink.seen c.args.out.now).bytes (g.O.Sink.seen c.args.out.now).faults c.args.play
    (Is (by_turn c.args.rules.budget (turn_in c.args.turn)))
    (λ library parts ends d ex. none_turn c.args.rules.budget c.args.play ends d ex library parts (turn_in c.args.turn)
    (subst (λ n. (c.args.turn.activity ≡ 0) ⊎ (n < c.args.turn.activity)) (c.len.ensures ∙ c.args.play.activities.ok.0) c.in-None.ensures))

use Rattle.std.proofs.Common.{sym, subst}
use Rattle.std.proofs.lemmas.Result.{IfOk-weaker}
use Rattle.wjs_io.specs.Streams.{over}
use Rattle.wjs_activity.specs.Rounds.{OneTurn, HaltsAt}
use Rattle.wjs_activity.proofs.AtPlace.{one_turned, one_stopped, out_of_memory}
use Rattle.wjs_activity.proofs.Composed.{if_err}
use Rattle.wjs_activity.proofs.rounds.one_turn.Goals as goal

pub returns-in-Ok-clause-ok : goal.returns-in-Ok-clause-ok
returns-in-Ok-clause-ok g c =
    let seen = g.O.Sink.seen in
    let first = c.args.out.now in
    let after = c.written.new.out in
    let s = over seen first after in
    let r = c.in-Ok.turned in
    IfOk-weaker c.written.result _ _
    (λ next h. subst (OneTurn c.args.rules s c.args.place c.args.steps c.args.play) (sym h.0)
    (one_turned c.args.rules s c.args.place c.args.steps c.args.play r.0 r.1.items c.in-Ok.ensures h.1))
    c.written.ensures.ok

pub returns-in-Ok-clause-err : goal.returns-in-Ok-clause-err
returns-in-Ok-clause-err g c =
    let seen = g.O.Sink.seen in
    let first = c.args.out.now in
    let after = c.written.new.out in
    let s = over seen first after in
    let r = c.in-Ok.turned in
    if_err c.written.result _ _
    (λ halt h. subst (HaltsAt c.args.rules s c.args.place c.args.steps c.args.play) (sym h.0)
    (one_stopped c.args.rules s c.args.place c.args.steps c.args.play r.0 r.1.items c.in-Ok.ensures h.1))
    c.written.ensures.err

pub returns-in-Err-clause-err : goal.returns-in-Err-clause-err
returns-in-Err-clause-err g c =
    out_of_memory c.args.rules (g.O.Sink.seen c.args.out.now).bytes (g.O.Sink.seen c.args.out.now).faults c.args.place c.args.steps c.args.play

use Rattle.std.proofs.Common.{◌∙◌, sym, ap, List}
use Rattle.std.specs.Prelude.{slice_get}
use Rattle.std.proofs.lemmas.Result.{IfOk-weaker}
use Rattle.wjs_io.specs.Streams.{over}
use Rattle.wjs_activity.specs.declared.activities.Activity.{Activity}
use Rattle.wjs_activity.proofs.AtPlace.{last_taken, last_left}
use Rattle.wjs_activity.proofs.Composed.{if_err}
use Rattle.wjs_activity.proofs.rounds.last_turn.Goals as goal

pub one_turn-requires-clause-there : goal.one_turn-requires-clause-there
one_turn-requires-clause-there g c = λ a at.
    c.requires.due a at (sym (c.is_last.ensures a (ap (λ (l : List Activity). slice_get l c.args.place) c.as_slice.ensures.value ∙ at)) ∙ c.if-is_last.true)

pub one_turn-requires-clause-some : goal.one_turn-requires-clause-some
one_turn-requires-clause-some g c = c.requires.going.some

pub returns-then-is_last-clause-ok : goal.returns-then-is_last-clause-ok
returns-then-is_last-clause-ok g c =
    let seen = g.O.Sink.seen in
    let first = c.args.out.now in
    let after = c.one_turn.new.out in
    IfOk-weaker c.one_turn.result _ _
    (λ next h. last_taken c.args.rules (over seen first after) c.args.place c.args.play next
    (λ a at. sym (c.is_last.ensures a (ap (λ (l : List Activity). slice_get l c.args.place) c.as_slice.ensures.value ∙ at)) ∙ c.if-is_last.true) h)
    c.one_turn.ensures.ok

pub returns-then-is_last-clause-err : goal.returns-then-is_last-clause-err
returns-then-is_last-clause-err g c =
    if_err c.one_turn.result _ _
    (λ halt h. record {
      due = λ a at. sym (c.is_last.ensures a (ap (λ (l : List Activity). slice_get l c.args.place) c.as_slice.ensures.value ∙ at)) ∙ c.if-is_last.true;
      halts = h;
    })
    c.one_turn.ensures.err

pub returns-clause-ok : goal.returns-clause-ok
returns-clause-ok g c =
    last_left c.args.rules (g.O.Sink.seen c.args.out.now).bytes (g.O.Sink.seen c.args.out.now).faults c.args.place c.args.play
    (λ a at. sym (c.is_last.ensures a (ap (λ (l : List Activity). slice_get l c.args.place) c.as_slice.ensures.value ∙ at)) ∙ c.if-is_last.false)

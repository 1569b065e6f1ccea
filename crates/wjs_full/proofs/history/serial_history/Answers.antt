use Rattle.std.proofs.Common.{◌≡◌, ◌+◌, ◌<◌, ap, sym, ◌∙◌, subst, length, arith, drop}
use Rattle.std.proofs.lemmas.List.{drop_all}
use Rattle.wjs_store.specs.Fixed.{fresh}
use Rattle.wjs_store.specs.State.{first_world}
use Rattle.wjs_full.specs.History.{places_of, histories_from, serial_places, IsSerial}
use Rattle.wjs_full.proofs.HistoryLists.{length-answers, noted_more}
use Rattle.wjs_full.proofs.HistoryLaws.{serial_law}
use Rattle.wjs_full.proofs.history.serial_history.Goals as goal

pub bounds-answers-place : goal.bounds-answers-place
bounds-answers-place c =
    let e : length c.args.answers.now ≡ length c.args.actions.now = ap length c.requires ∙ length-answers fresh c.args.actions.now in
    omega arith

pub loop-place-preserved : goal.loop-place-preserved
loop-place-preserved c =
    let e : length c.args.answers.now ≡ length c.args.actions.now = ap length c.requires ∙ length-answers fresh c.args.actions.now in
    let la : c.loop-place.place < length c.args.actions.now = c.loop-place-test.true in
    let lr : c.loop-place.place < length c.args.answers.now = omega arith in
    let k = c.loop-place.place in
    ap (histories_from (k + 1) (drop (k + 1) c.args.actions.now) (drop (k + 1) c.args.answers.now)) c.in_ok-note.ensures.ok
    ∙ noted_more k c.args.actions.now c.args.answers.now c.index-actions-place.result c.index-answers-place.result c.loop-place.histories _ la lr c.index-actions-place.is c.index-answers-place.is c.loop-place.invariant

pub returns-clause-serial : goal.returns-clause-serial
returns-clause-serial c =
    let acts = c.args.actions.now in
    let rs = c.args.answers.now in
    let whole : histories_from c.loop-place.place (drop c.loop-place.place acts) (drop c.loop-place.place rs) c.loop-place.histories ≡ c.loop-place.histories = ap (λ xs. histories_from c.loop-place.place xs (drop c.loop-place.place rs) c.loop-place.histories) (drop_all c.loop-place.place acts (omega arith)) in
    let given : c.into_items.result.items ≡ serial_places acts rs =
    c.into_items.ensures ∙ c.take.ensures.places ∙ ap (λ H. places_of H first_world) (sym whole ∙ c.loop-place.invariant) in
    subst (IsSerial acts rs) (sym given) (subst (λ qs. IsSerial acts qs (serial_places acts qs)) (sym c.requires) (serial_law acts))

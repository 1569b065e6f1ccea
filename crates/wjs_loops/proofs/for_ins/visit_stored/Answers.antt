use Rattle.std.proofs.Common.{subst}
use Rattle.std.specs.Prelude.{OnOk}
use Rattle.std.proofs.lemmas.Result.{MatchResult-at_ok, MatchResult-at_err}
use Rattle.wjs_by_content.specs.Values.{String}
use Rattle.wjs_by_content.specs.Tables.{name_in}
use Rattle.wjs_meaning.specs.Deeds.{Act}
use Rattle.wjs_meaning.specs.References as line
use Rattle.wjs_model.specs.Contents.{reference_in}
use Rattle.wjs_frames.specs.Following.{Follows}
use Rattle.wjs_heap_steps.proofs.Later.{later_twice}
use Rattle.wjs_loops.proofs.ForInNames.{named_follows, named_fails, body_entered, entered_later}
use Rattle.wjs_loops.proofs.ForInParts.{stands_twice}
use Rattle.wjs_frames.proofs.Handling.{runs_later, running_later}
use Rattle.wjs_loops.proofs.for_ins.visit_stored.Goals as goal

pub returns-in-Ok : goal.returns-in-Ok
returns-in-Ok g c =
    let m = g.S.WorldStore.meaning in
    let old = c.args.config.now in
    let mid = c.text_of.new.config in
    let new = c.store.new.config in
    let later = c.enter_at_once.new.config in
    let t = later.heap.texts in
    let f = c.args.frame in
    let P : Act → Type 0 = λ act. OnOk c.enter_at_once.result (Follows m act new later) in
    let body : P (body_entered m t old f c.args.taker c.args.s) = subst P (entered_later m t old new f c.args.taker c.args.s c.requires.taker (later_twice m old mid new c.in_ok-id.ensures.later c.in_ok-store.ensures.later)) c.enter_at_once.ensures in
    named_follows m old mid new later c.enter_at_once.result f (λ u. name_in u c.args.slot.name) c.in_ok-id.id (λ u x e act. line.store (reference_in u c.args.reference) (String x) e act) (body_entered m t old f c.args.taker c.args.s)
    c.in_ok-id.ensures.does c.in_ok-id.ensures.later (MatchResult-at_ok _ _ c.in-Ok.field-0 c.in-Ok.is c.in_ok-store.ensures.does) body

pub returns-in-Err : goal.returns-in-Err
returns-in-Err g c =
    let m = g.S.WorldStore.meaning in
    let old = c.args.config.now in
    let later = c.finish.new.config in
    let f = c.args.frame in
    named_fails m old c.text_of.new.config c.store.new.config later c.finish.result f (λ u. name_in u c.args.slot.name) c.in_ok-id.id (λ u x e act. line.store (reference_in u c.args.reference) (String x) e act) (body_entered m later.heap.texts old f c.args.taker c.args.s) c.in-Err.error
    c.in_ok-id.ensures.does c.in_ok-id.ensures.later (MatchResult-at_err _ _ c.in-Err.error c.in-Err.is c.in_ok-store.ensures.does) c.finish.ensures

pub enter_at_once-requires-clause-part : goal.enter_at_once-requires-clause-part
enter_at_once-requires-clause-part g c =
    stands_twice g.S.WorldStore.meaning c.args.config.now c.args.frame c.text_of.new.config c.store.new.config c.args.s c.in_ok-id.ensures.later
    c.in_ok-store.ensures.later c.requires.body

pub enter_at_once-requires-clause-point : goal.enter_at_once-requires-clause-point
enter_at_once-requires-clause-point g c =
    stands_twice g.S.WorldStore.meaning c.args.config.now c.args.frame c.text_of.new.config c.store.new.config c.args.s c.in_ok-id.ensures.later
    c.in_ok-store.ensures.later c.requires.body

pub store-requires-clause-there : goal.store-requires-clause-there
store-requires-clause-there g c = c.in_ok-id.ensures.later.frames c.args.frame c.requires.runs.there

pub enter_at_once-requires-clause-runs : goal.enter_at_once-requires-clause-runs
enter_at_once-requires-clause-runs g c = runs_later _ _ _ _ (runs_later _ _ _ _ c.requires.runs c.in_ok-id.ensures.later) c.in_ok-store.ensures.later

pub finish-requires-clause-running : goal.finish-requires-clause-running
finish-requires-clause-running g c = running_later _ _ _ (running_later _ _ _ c.requires.runs.running c.in_ok-id.ensures.later) c.in_ok-store.ensures.later

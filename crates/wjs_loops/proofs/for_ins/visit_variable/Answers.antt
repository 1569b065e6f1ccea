use Rattle.std.proofs.Common.{sym, ap, subst}
use Rattle.std.specs.Prelude.{OnOk}
use Rattle.std.proofs.lemmas.Result.{MatchResult-at_ok, MatchResult-at_err}
use Rattle.wjs_base.proofs.TextLaws.{Grows-Has}
use Rattle.wjs_by_content.specs.Values.{String}
use Rattle.wjs_by_content.specs.Tables.{text_in, name_in}
use Rattle.wjs_meaning.specs.Trees.{Place}
use Rattle.wjs_meaning.specs.Deeds.{Act}
use Rattle.wjs_meaning.specs.References as line
use Rattle.wjs_model.specs.Units.{place_in}
use Rattle.wjs_frames.specs.Parts.{env_in}
use Rattle.wjs_frames.specs.Following.{Follows}
use Rattle.wjs_heap_steps.proofs.Later.{later_twice}
use Rattle.wjs_loops.specs.declared.for_ins.Taker.TheVariants.{Variable}
use Rattle.wjs_loops.proofs.Knowing.{variable_known, variable_named}
use Rattle.wjs_loops.proofs.ForInNames.{named_follows, named_fails, body_entered, entered_later}
use Rattle.wjs_loops.proofs.ForInParts.{stands_twice}
use Rattle.wjs_frames.proofs.Handling.{runs_later, running_later}
use Rattle.wjs_loops.proofs.for_ins.visit_variable.Goals as goal

pub place_of-place-requires : goal.place_of-place-requires
place_of-place-requires g c = record { named = variable_named g.S.WorldStore.meaning c.args.config.now c.args.frame c.args.name c.requires.taker }

pub assign-requires-clause-name : goal.assign-requires-clause-name
assign-requires-clause-name g c =
    let m = g.S.WorldStore.meaning in
    let old = c.args.config.now in
    Grows-Has old.heap.texts c.text_of.new.config.heap.texts c.args.name c.in_ok-id.ensures.later.texts
    (variable_known m old c.args.frame c.args.name c.requires.taker c.requires.runs.running.base)

pub returns-in-Ok : goal.returns-in-Ok
returns-in-Ok g c =
    let m = g.S.WorldStore.meaning in
    let old = c.args.config.now in
    let mid = c.text_of.new.config in
    let new = c.assign.new.config in
    let later = c.enter_at_once.new.config in
    let t = later.heap.texts in
    let f = c.args.frame in
    let name = c.args.name in
    let env = env_in m old t f in
    let P : Act → Type 0 = λ act. OnOk c.enter_at_once.result (Follows m act new later) in
    let O : Act → Type 0 = λ act. OnOk c.enter_at_once.result (Follows m act old later) in
    let act = body_entered m t old f (Variable name) c.args.s in
    let body : P act = subst P (entered_later m t old new f (Variable name) c.args.s c.requires.taker (later_twice m old mid new c.in_ok-id.ensures.later c.in_ok-assign.ensures.later)) c.enter_at_once.ensures in
    subst O (ap (λ (p : Place). line.reference_at p (text_in t name) env (λ r. line.store r (String (name_in t c.args.slot.name)) env act)) (sym (c.place_of-place.ensures t)))
    (named_follows m old mid new later c.enter_at_once.result f (λ u. name_in u c.args.slot.name) c.in_ok-id.id (λ u x e a. line.reference_at (place_in c.place_of-place.result) (text_in u name) e (λ r. line.store r (String x) e a)) act
    c.in_ok-id.ensures.does c.in_ok-id.ensures.later (MatchResult-at_ok _ _ c.in-Ok.field-0 c.in-Ok.is c.in_ok-assign.ensures.does) body)

pub returns-in-Err : goal.returns-in-Err
returns-in-Err g c =
    let m = g.S.WorldStore.meaning in
    let old = c.args.config.now in
    let later = c.finish.new.config in
    let t = later.heap.texts in
    let f = c.args.frame in
    let name = c.args.name in
    let env = env_in m old t f in
    let O : Act → Type 0 = λ act. OnOk c.finish.result (Follows m act old later) in
    let act = body_entered m t old f (Variable name) c.args.s in
    subst O (ap (λ (p : Place). line.reference_at p (text_in t name) env (λ r. line.store r (String (name_in t c.args.slot.name)) env act)) (sym (c.place_of-place.ensures t)))
    (named_fails m old c.text_of.new.config c.assign.new.config later c.finish.result f (λ u. name_in u c.args.slot.name) c.in_ok-id.id (λ u x e a. line.reference_at (place_in c.place_of-place.result) (text_in u name) e (λ r. line.store r (String x) e a)) act c.in-Err.error
    c.in_ok-id.ensures.does c.in_ok-id.ensures.later (MatchResult-at_err _ _ c.in-Err.error c.in-Err.is c.in_ok-assign.ensures.does) c.finish.ensures)

pub enter_at_once-requires-clause-part : goal.enter_at_once-requires-clause-part
enter_at_once-requires-clause-part g c =
    stands_twice g.S.WorldStore.meaning c.args.config.now c.args.frame c.text_of.new.config c.assign.new.config c.args.s c.in_ok-id.ensures.later
    c.in_ok-assign.ensures.later c.requires.body

pub enter_at_once-requires-clause-point : goal.enter_at_once-requires-clause-point
enter_at_once-requires-clause-point g c =
    stands_twice g.S.WorldStore.meaning c.args.config.now c.args.frame c.text_of.new.config c.assign.new.config c.args.s c.in_ok-id.ensures.later
    c.in_ok-assign.ensures.later c.requires.body

pub assign-requires-clause-there : goal.assign-requires-clause-there
assign-requires-clause-there g c = c.in_ok-id.ensures.later.frames c.args.frame c.requires.runs.there

pub enter_at_once-requires-clause-runs : goal.enter_at_once-requires-clause-runs
enter_at_once-requires-clause-runs g c = runs_later _ _ _ _ (runs_later _ _ _ _ c.requires.runs c.in_ok-id.ensures.later) c.in_ok-assign.ensures.later

pub finish-requires-clause-running : goal.finish-requires-clause-running
finish-requires-clause-running g c = running_later _ _ _ (running_later _ _ _ c.requires.runs.running c.in_ok-id.ensures.later) c.in_ok-assign.ensures.later

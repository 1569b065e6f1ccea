use Rattle.std.proofs.Common.{◌≡◌, ℕ, ◌+◌, ◌-◌, ◌++◌, [], ◌∷◌, sym, ap, ◌∙◌, subst}
use Rattle.std.specs.Prelude.{OnOk}
use Rattle.wjs_base.specs.declared.ids.ObjId.{ObjId}
use Rattle.wjs_base.specs.declared.values.Value.{Value as NumberedValue}
use Rattle.wjs_base.specs.declared.values.Value.TheVariants as values
use Rattle.wjs_by_content.specs.Names.{index_name}
use Rattle.wjs_by_content.specs.Tables.{value_in}
use Rattle.wjs_by_content.specs.Values.{Value}
use Rattle.wjs_meaning.specs.Deeds.{Env, Act}
use Rattle.wjs_meaning.specs.NativesOfObjects as line
use Rattle.wjs_meaning.specs.Properties.{get_value}
use Rattle.wjs_model.specs.declared.frame.Activation.{Activation as Frame}
use Rattle.wjs_model.specs.declared.frame.Held.TheVariants as holds
use Rattle.wjs_model.specs.Soundness.{HasValue}
use Rattle.wjs_frames.specs.Following.{Follows}
use Rattle.wjs_model.specs.Contents.{holding_in, callee_held, elements_held}
use Rattle.wjs_frames.specs.Parts.{env_in}
use Rattle.wjs_step_common.proofs.Following.{follows_as, env_later}
use Rattle.wjs_frames.proofs.Handling.{runs_later, runs_held}
use Rattle.wjs_native_core.proofs.Applying.{apply_begins, apply_onward}
use Rattle.wjs_native_core.proofs.applies.apply_element.Goals as goal

pub apply_rest-requires-clause-runs : goal.apply_rest-requires-clause-runs
apply_rest-requires-clause-runs g c =
    let mid = c.get_value.new.config in
    let f = c.args.frame in
    let later = c.in_ok-value.ensures.later in
    let callee = later.values c.held_callee-callee.result.0 c.held_callee-callee.ensures.callee in
    let this = later.values c.held_callee-callee.result.1 c.held_callee-callee.ensures.this in
    let object = later.objects c.held_elements-count.result.0 c.held_elements-count.ensures.found in
    let elements = c.held_elements-count.result in
    let held = holds.Callee (values.Object c.in-Object.function) c.held_callee-callee.result.1 ∷ holds.Elements elements.0 elements.1 ∷ holds.Value c.in_ok-value.value ∷ f.held in
    rw c.in_ok-hold_element.ensures
    (runs_held _ mid f held (runs_later _ _ _ _ c.requires.runs later) (
      (subst (λ (x : NumberedValue). HasValue mid x) c.in-Object.is callee, this),
      (object, (c.in_ok-value.ensures.found, (later.frames f c.requires.runs.there).held)),
    ))

pub returns : goal.returns
returns g c =
    let m = g.S.WorldStore.meaning in
    let old = c.args.config.now in
    let mid = c.get_value.new.config in
    let new = c.apply_rest.new.config in
    let t = new.heap.texts in
    let r = c.apply_rest.result in
    let f = c.args.frame in
    let env = env_in m old t f in
    let fn = c.in-Object.function in
    let this = c.held_callee-callee.result.1 in
    let v = c.in_ok-value.value in
    let i = c.args.at in
    let read = c.in_ok-read.read in
    let callee : callee_held f.held ≡ (values.Object fn, this) = sym c.held_callee-callee.ensures.is ∙ ap (λ (x : NumberedValue). (x, this)) c.in-Object.is in
    let vs = (holding_in t f.held).values in
    let count = (elements_held f.held).1 in
    let o = (elements_held f.held).0 in
    let to : Value → Act = λ x. line.apply_from (count - (i + 1)) (i + 1) (vs ++ x ∷ []) o fn (value_in t this) env in
    follows_as m _ _ old new r (λ grows. apply_begins t f.held i fn this env callee)
    (subst (λ (e : ObjId × ℕ). OnOk r (Follows m (get_value e.0 (index_name i) env to) old new)) c.held_elements-count.ensures.is
    (c.in_ok-value.ensures.does.by to new r
    (follows_as m _ _ mid new r
    (λ grows.
    apply_onward t f.held c.hold_element.new.frame.held v (values.Object fn) this c.held_elements-count.result fn (value_in t this) read i (env_in m mid t f) (ap (λ (q : Frame). q.held) c.in_ok-hold_element.ensures) c.held_elements-count.ensures.is c.in_ok-read.ensures
    ∙ ap (λ (e : Env). line.apply_from (count - (i + 1)) (i + 1) (vs ++ value_in t v ∷ []) o fn (value_in t this) e) (env_later m old mid t f c.in_ok-value.ensures.later))
    (subst (λ (q : Frame). OnOk r (Follows m (line.apply_from ((elements_held c.hold_element.new.frame.held).1 - read) read (holding_in t c.hold_element.new.frame.held).values (elements_held c.hold_element.new.frame.held).0 fn (value_in t this) (env_in m mid t q)) mid new)) c.in_ok-hold_element.ensures c.apply_rest.ensures))))

use Rattle.std.proofs.Common.{◌≡◌, ◌∷◌, ◌∙◌, Some, List, sym, ap, subst}
use Rattle.std.specs.Prelude.{OnOk}
use Rattle.wjs_arena.specs.declared.class.Class.TheVariants as class
use Rattle.wjs_base.specs.declared.values.Value.TheVariants as values
use Rattle.wjs_by_content.specs.Objects.{object_of}
use Rattle.wjs_by_content.specs.Values.{Object}
use Rattle.wjs_by_content.specs.Tables.{object_in}
use Rattle.wjs_meaning.specs.Deeds.{Env, Sub, then_value}
use Rattle.wjs_meaning.specs.Calls.{call}
use Rattle.wjs_meaning.specs.Constructions.{new_result}
use Rattle.wjs_model.specs.declared.frame.Held.TheVariants as holds
use Rattle.wjs_model.specs.declared.frame.Activation.{Activation as Frame}
use Rattle.wjs_model.specs.declared.frame.Held.{Held}
use Rattle.wjs_model.specs.declared.point.Point.TheVariants as points
use Rattle.wjs_model.specs.declared.point.ExprPoint.TheVariants as p
use Rattle.wjs_model.specs.Contents.{holding_in}
use Rattle.wjs_model.specs.Soundness.{IsThere, HasItems}
use Rattle.wjs_frames.specs.Following.{Follows}
use Rattle.wjs_frames.specs.Parts.{env_in, then_at}
use Rattle.wjs_heap_steps.proofs.Composing.{env_later}
use Rattle.wjs_calls.proofs.Frames.{there_with}
use Rattle.wjs_heap_steps.proofs.Making.{near_bare}
use Rattle.wjs_frames.proofs.Handling.{runs_over}
use Rattle.wjs_calls.proofs.news.construct_on.Goals as goal

pub returns : goal.returns
returns g c =
    let m = g.S.WorldStore.meaning in
    let old = c.args.config.now in
    let mid = c.create.new.config in
    let new = c.call_below.new.config in
    let r = c.call_below.result in
    let t = new.heap.texts in
    let o = c.in_ok-object.object in
    let f = c.args.function in
    let vs = (holding_in t c.args.frame.held).values in
    let point = points.Expr p.NewCall in
    let held : Frame = record c.args.frame { held = holds.Value (values.Object o) ∷ c.nothing_held.result } in
    let is : c.hold.new.frame ≡ held = c.in_ok-hold.ensures ∙ ap (λ (q : Frame). record q { held = holds.Value (values.Object o) ∷ q.held }) c.replace_held-arguments.ensures.new in
    let h0 : OnOk r (Follows m (Sub (call f (Object o) vs (env_in m mid t c.hold.new.frame)) (then_at m mid c.hold.new.frame point t (env_in m mid t c.hold.new.frame))) mid new) = subst (λ (l : List Held). OnOk r (Follows m (Sub (call f (Object o) (holding_in t l).values (env_in m mid t c.hold.new.frame)) (then_at m mid c.hold.new.frame point t (env_in m mid t c.hold.new.frame))) mid new)) c.replace_held-arguments.ensures.held c.call_below.ensures in
    let h1 : OnOk r (Follows m (Sub (call f (Object o) vs (env_in m mid t held)) (then_value (new_result o))) mid new) = subst (λ (q : Frame). OnOk r (Follows m (Sub (call f (Object o) vs (env_in m mid t q)) (then_at m mid q point t (env_in m mid t q))) mid new)) is h0 in
    let h2 : OnOk r (Follows m (Sub (call f (Object o) vs (env_in m old t c.args.frame)) (then_value (new_result o))) mid new) = subst (λ (env : Env). OnOk r (Follows m (Sub (call f (Object o) vs env) (then_value (new_result o))) mid new)) (env_later m old mid t c.args.frame c.in_ok-object.ensures.later) h1 in
    (c.in_ok-object.ensures.makes (λ u. object_of class.Plain (Some c.args.prototype)) (λ u more. ap (object_in u) c.object_of.ensures)).by (λ q. Sub (call f (Object q) vs (env_in m old t c.args.frame)) (then_value (new_result q))) new r h2

pub create-requires-clause-near : goal.create-requires-clause-near
create-requires-clause-near g c = near_bare c.args.config.now.apart.items c.object_of.result class.Plain (Some c.args.prototype) c.object_of.ensures c.requires.prototype.1

pub call_below-requires-clause-runs : goal.call_below-requires-clause-runs
call_below-requires-clause-runs g c =
    let m = g.S.WorldStore.meaning in
    let mid = c.create.new.config in
    let f = c.args.frame in
    let made = c.in_ok-object.ensures in
    let h = made.later.frames f c.requires.runs.there in
    let items = holds.Value (values.Object c.in_ok-object.object) ∷ c.nothing_held.result in
    let none = subst (λ (l : List Held). HasItems mid l) (sym c.nothing_held.ensures) tt in
    let is : c.hold.new.frame ≡ record f { held = items } = c.in_ok-hold.ensures ∙ ap (λ (q : Frame). record q { held = holds.Value (values.Object c.in_ok-object.object) ∷ q.held }) c.replace_held-arguments.ensures.new in
    runs_over _ _ _ _ _ c.requires.runs made.later (subst (IsThere m mid) (sym is) (there_with m mid f f.phase f.this items h h.this (made.found, none)))

pub call_below-requires-clause-items : goal.call_below-requires-clause-items
call_below-requires-clause-items g c =
    let mid = c.create.new.config in
    subst (λ (l : List Held). HasItems mid l) (sym c.replace_held-arguments.ensures.held)
    (c.in_ok-object.ensures.later.items c.args.frame.held c.requires.runs.there.held)

use Rattle.std.proofs.Common.{sym, ap, ◌∙◌, subst}
use Rattle.std.specs.Prelude.{OnOk}
use Rattle.wjs_by_content.specs.Tables.{value_in, name_in}
use Rattle.wjs_by_content.specs.Values.{Text}
use Rattle.wjs_meaning.specs.Deeds.{Env, Act}
use Rattle.wjs_meaning.specs.NewObjects.{to_object}
use Rattle.wjs_meaning.specs.NativesOfObjects.{text_of}
use Rattle.wjs_frames.specs.Following.{Follows}
use Rattle.wjs_frames.specs.Parts.{env_in}
use Rattle.wjs_step_common.proofs.Following.{follows_as, env_later}
use Rattle.wjs_native_core.specs.Owning.{own_property}
use Rattle.wjs_native_core.proofs.Telling.{told_ok, told_err}
use Rattle.wjs_frames.proofs.Handling.{runs_later, running_later}
use Rattle.wjs_native_core.proofs.objects.has_own.Goals as goal

pub returns-in-Ok : goal.returns-in-Ok
returns-in-Ok g c =
    let m = g.S.WorldStore.meaning in
    let old = c.args.config.now in
    let named = c.name_given.new.config in
    let mid = c.to_object.new.config in
    let new = c.give_own.new.config in
    let t = new.heap.texts in
    let r = c.give_own.result in
    let f = c.args.frame in
    let env = env_in m old t f in
    let this = value_in t c.args.this in
    let one = env_later m old named t f c.in_ok-name.ensures.later in
    let by : Text → Act = λ n. to_object this env (λ o. own_property c.args.enumerable o n env) in
    follows_as m _ _ old new r (λ grows. ap (λ v. by (text_of v)) (sym (c.value_at.ensures.means t)))
    (c.in_ok-name.ensures.does.by by new r
    (subst (λ (e : Env). OnOk r (Follows m (to_object this e (λ o. own_property c.args.enumerable o (name_in t c.in_ok-name.name) env)) named new)) one
    ((told_ok _ _ _ _ c.in-Ok.is c.in_ok-object.ensures.does).by (λ o. own_property c.args.enumerable o (name_in t c.in_ok-name.name) env) new r
    (subst (λ (e : Env). OnOk r (Follows m (own_property c.args.enumerable c.in-Ok.object (name_in t c.in_ok-name.name) e) mid new)) (env_later m named mid t f c.in_ok-object.ensures.later ∙ one) c.give_own.ensures))))

pub returns-in-Err : goal.returns-in-Err
returns-in-Err g c =
    let m = g.S.WorldStore.meaning in
    let old = c.args.config.now in
    let named = c.name_given.new.config in
    let mid = c.to_object.new.config in
    let new = c.finish.new.config in
    let t = new.heap.texts in
    let r = c.finish.result in
    let f = c.args.frame in
    let env = env_in m old t f in
    let this = value_in t c.args.this in
    let one = env_later m old named t f c.in_ok-name.ensures.later in
    let by : Text → Act = λ n. to_object this env (λ o. own_property c.args.enumerable o n env) in
    follows_as m _ _ old new r (λ grows. ap (λ v. by (text_of v)) (sym (c.value_at.ensures.means t)))
    (c.in_ok-name.ensures.does.by by new r
    (subst (λ (e : Env). OnOk r (Follows m (to_object this e (λ o. own_property c.args.enumerable o (name_in t c.in_ok-name.name) env)) named new)) one
    ((told_err _ _ _ _ c.in-Err.is c.in_ok-object.ensures.does).by (λ o. own_property c.args.enumerable o (name_in t c.in_ok-name.name) env) new r
    c.finish.ensures)))

pub give_own-requires-clause-runs : goal.give_own-requires-clause-runs
give_own-requires-clause-runs g c = runs_later _ _ _ _ (runs_later _ _ _ _ c.requires.runs c.in_ok-name.ensures.later) c.in_ok-object.ensures.later

pub finish-requires-clause-running : goal.finish-requires-clause-running
finish-requires-clause-running g c = running_later _ _ _ (running_later _ _ _ c.requires.runs.running c.in_ok-name.ensures.later) c.in_ok-object.ensures.later

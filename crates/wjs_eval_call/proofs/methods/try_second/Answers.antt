use Rattle.std.proofs.Common.{[], None, Some, subst}
use Rattle.std.specs.Prelude.{OnOk}
use Rattle.wjs_by_content.specs.Values.{Object}
use Rattle.wjs_meaning.specs.declared.trouble.Trouble.TheVariants.{NoPrimitiveValue}
use Rattle.wjs_meaning.specs.Deeds.{Env, Act, Completion, Sub, then_value}
use Rattle.wjs_meaning.specs.Calls.{call}
use Rattle.wjs_meaning.specs.Conversions.{second_method, method_result}
use Rattle.wjs_meaning.specs.Errors.{throw}
use Rattle.wjs_frames.specs.Following.{Follows}
use Rattle.wjs_frames.specs.Parts.{env_in}
use Rattle.wjs_heap_steps.specs.Known.{text_of}
use Rattle.wjs_heap_steps.proofs.Composing.{env_later}
use Rattle.wjs_model.specs.Waiting.{hint_in}
use Rattle.wjs_eval_call.proofs.Asking.{asked}
use Rattle.wjs_frames.proofs.Handling.{runs_later}
use Rattle.wjs_eval_call.proofs.methods.try_second.Goals as goal

pub returns-in-Some : goal.returns-in-Some
returns-in-Some g c =
    let m = g.S.WorldStore.meaning in
    let old = c.args.config.now in
    let mid = c.get_known.new.config in
    let new = c.call_method.new.config in
    let r = c.call_method.result in
    let t = new.heap.texts in
    let f = c.args.frame in
    let o = c.args.object in
    let k = c.args.hint in
    let otherwise = λ (env : Env). throw NoPrimitiveValue env in
    let called = λ (env : Env) (go : Completion → Act). Sub (call c.in-Some.function (Object o) [] env) go in
    let env_mid = env_in m mid t f in
    let h1 : OnOk r (Follows m (called env_mid (then_value (method_result (otherwise env_mid)))) mid new) = c.call_method.ensures in
    let h2 : OnOk r (Follows m (called (env_in m old t f) (then_value (method_result (otherwise (env_in m old t f))))) mid new) = subst (λ (e : Env). OnOk r (Follows m (called e (then_value (method_result (otherwise e)))) mid new)) (env_later m old mid t f c.in_ok-method.ensures.later) h1 in
    asked m (text_of c.second_method.result) (second_method (hint_in k)) o (λ u. env_in m old u f) c.in_ok-method.method (otherwise (env_in m old t f)) (Some c.in-Some.function) old mid new r c.in_ok-method.ensures.does c.second_method.ensures c.in-Some.ensures.is h2

pub returns-in-None : goal.returns-in-None
returns-in-None g c =
    let m = g.S.WorldStore.meaning in
    let old = c.args.config.now in
    let mid = c.get_known.new.config in
    let new = c.throw.new.config in
    let r = c.throw.result in
    let t = new.heap.texts in
    let f = c.args.frame in
    let o = c.args.object in
    let k = c.args.hint in
    let otherwise = λ (env : Env). throw NoPrimitiveValue env in
    let h : OnOk r (Follows m (otherwise (env_in m old t f)) mid new) = subst (λ (e : Env). OnOk r (Follows m (otherwise e) mid new)) (env_later m old mid t f c.in_ok-method.ensures.later) c.throw.ensures in
    asked m (text_of c.second_method.result) (second_method (hint_in k)) o (λ u. env_in m old u f) c.in_ok-method.method (otherwise (env_in m old t f)) None old mid new r c.in_ok-method.ensures.does c.second_method.ensures c.in-None.ensures.is h

pub call_method-requires-clause-runs : goal.call_method-requires-clause-runs
call_method-requires-clause-runs g c = runs_later _ _ _ _ c.requires.runs c.in_ok-method.ensures.later

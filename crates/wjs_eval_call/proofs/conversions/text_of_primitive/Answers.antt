use Rattle.std.proofs.Common.{sym, ap, subst}
use Rattle.std.specs.Prelude.{OnOk}
use Rattle.wjs_by_content.specs.Values.{Text, String}
use Rattle.wjs_by_content.specs.Tables.{text_in, value_in}
use Rattle.wjs_by_content.specs.Conversions.{primitive_text}
use Rattle.wjs_meaning.specs.Conversions.{text_of_primitive}
use Rattle.wjs_meaning.specs.Deeds.{Ret, Gives, then_value}
use Rattle.wjs_model.specs.declared.frame.Completion.{Completion}
use Rattle.wjs_model.specs.Contents.{completion_in}
use Rattle.wjs_frames.specs.Following.{Follows}
use Rattle.wjs_step_common.proofs.Following.{follows_as}
use Rattle.wjs_eval_call.proofs.conversions.text_of_primitive.Goals as goal

pub returns : goal.returns
returns g c =
    let m = g.S.WorldStore.meaning in
    let old = c.args.config.now in
    let mid = c.text_of.new.config in
    let new = c.finish-2.new.config in
    let r = c.finish-2.result in
    let t = new.heap.texts in
    let said = λ (u : Text). Ret (Gives (String u)) in
    let whole = primitive_text (value_in t c.in-Gives.value) in
    subst (λ (e : Completion). OnOk r (Follows m (then_value text_of_primitive (completion_in t e)) old new)) (sym c.in-Gives.is)
    (c.in_ok-text.ensures.does.by (λ x. said whole) new r
    (follows_as m (said (text_in t c.in_ok-text.text)) (said whole) mid new r (λ grows. ap said (c.in_ok-text.ensures.text t grows)) c.finish-2.ensures))

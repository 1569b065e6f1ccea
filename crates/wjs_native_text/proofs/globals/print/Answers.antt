use Rattle.std.proofs.Common.{◌++◌, ◌∷◌, [], sym, ap, ◌∙◌}
use Rattle.wjs_base.specs.Unicode.{utf8_of}
use Rattle.wjs_by_content.specs.Values.{Undefined}
use Rattle.wjs_meaning.specs.Deeds.{Do, Emit, give}
use Rattle.wjs_step_common.proofs.Following.{follows_as}
use Rattle.wjs_native_text.proofs.globals.print.Goals as goal

pub returns : goal.returns
returns g c =
    let new = c.give.new.config in
    let r = c.give.result in
    follows_as g.S.WorldStore.meaning _ _ c.args.config.now new r
    (λ grows. ap (λ b. Do (Emit b) (λ x. give Undefined)) (c.as_slice.ensures.value ∙ c.in_ok-bytes.ensures ∙ ap (λ u. utf8_of u ++ 10 ∷ []) (sym (c.text_at.ensures.text new.heap.texts grows))))
    (c.in_ok-emit.ensures.does.by (λ x. give Undefined) new r c.give.ensures)

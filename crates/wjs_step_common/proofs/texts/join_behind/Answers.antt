use Rattle.std.proofs.Common.{◌++◌, List, ap, ◌∙◌}
use Rattle.std.specs.Prelude.{ℕ}
use Rattle.wjs_by_content.specs.Conversions.{primitive_text}
use Rattle.wjs_by_content.specs.Tables.{text_in, value_in}
use Rattle.wjs_meaning.specs.Errors.{give_text}
use Rattle.wjs_frames.specs.Parts.{env_in}
use Rattle.wjs_step_common.proofs.Following.{follows_as}
use Rattle.wjs_step_common.proofs.texts.join_behind.Goals as goal

pub returns : goal.returns
returns g c =
    let m = g.S.WorldStore.meaning in
    let t = c.give_extended.new.config.heap.texts in
    let env = env_in m c.args.config.now t c.args.frame in
    let text = primitive_text (value_in t c.args.right) in
    follows_as m _ _ _ _ c.give_extended.result (λ grows.
    ap (λ (us : List ℕ). give_text (text_in t c.args.front ++ us) env) (c.as_slice.ensures.value ∙ c.in_ok-push_text.ensures t grows ∙ ap (λ (us : List ℕ). us ++ text) c.new-units.ensures.items)) c.give_extended.ensures

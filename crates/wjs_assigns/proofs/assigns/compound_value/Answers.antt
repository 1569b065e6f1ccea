use Rattle.std.proofs.Common.{ap, ◌∙◌}
use Rattle.wjs_step_common.proofs.Following.{follows_as}
use Rattle.wjs_by_content.specs.Tables.{value_in}
use Rattle.wjs_meaning.specs.Expressions.{compound_value}
use Rattle.wjs_model.specs.Contents.{reference_in, value_held}
use Rattle.wjs_frames.specs.Parts.{env_in}
use Rattle.wjs_assigns.proofs.assigns.compound_value.Goals as goal

pub returns : goal.returns
returns g c =
    let t = c.compound_both.new.config.heap.texts in
    let env = env_in g.S.WorldStore.meaning c.args.config.now t c.args.frame in
    follows_as _ _ _ _ _ _ (λ grows. ap (λ v. compound_value c.args.operator (value_in t v) (reference_in t c.held_reference-reference.result) env (value_in t c.args.value)) c.held_value-old.ensures.is
    ∙ ap (λ r. compound_value c.args.operator (value_in t (value_held c.args.frame.held)) (reference_in t r) env (value_in t c.args.value)) c.held_reference-reference.ensures.is) c.compound_both.ensures

use Rattle.std.proofs.Common.{refl}
use Rattle.std.proofs.Common.{◌∙◌}
use Rattle.wjs_step_common.proofs.Following.{follows_by}
use Rattle.wjs_step_common.proofs.Converting.{number_shortens}
use Rattle.wjs_by_content.specs.Tables.{value_in}
use Rattle.wjs_frames.specs.Parts.{env_in}
use Rattle.wjs_meaning.specs.Expressions.{complement_number}
use Rattle.wjs_assigns.proofs.prefixes.complement_value.Goals as goal

pub returns-else-is_object : goal.returns-else-is_object
returns-else-is_object g c =
    let t = c.complement_number.new.config.heap.texts in
    follows_by g.S.WorldStore.meaning _ _ _ _ _ _ (number_shortens (value_in t c.args.value) (env_in g.S.WorldStore.meaning c.args.config.now t c.args.frame) complement_number (c.is_object.ensures t ∙ c.if-is_object.false)) c.complement_number.ensures (λ grows. rw (c.to_number-number.ensures t grows) refl)

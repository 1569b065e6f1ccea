use Rattle.std.proofs.Common.{◌∙◌}
use Rattle.wjs_frames.proofs.Shorter.{follows_shorter}
use Rattle.wjs_step_common.proofs.Converting.{primitive_shortens}
use Rattle.wjs_by_content.specs.Tables.{value_in}
use Rattle.wjs_frames.specs.Parts.{env_in}
use Rattle.wjs_meaning.specs.Conversions.{HintNumber, number_of_primitive}
use Rattle.wjs_assigns.proofs.prefixes.plus_value.Goals as goal

pub returns-else-is_object : goal.returns-else-is_object
returns-else-is_object g c =
    let t = c.plus_primitive.new.config.heap.texts in
    follows_shorter g.S.WorldStore.meaning _ _ _ _ _ (primitive_shortens HintNumber (value_in t c.args.value) (env_in g.S.WorldStore.meaning c.args.config.now t c.args.frame) number_of_primitive (c.is_object.ensures t ∙ c.if-is_object.false)) c.plus_primitive.ensures

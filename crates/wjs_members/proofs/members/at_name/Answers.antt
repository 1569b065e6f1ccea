use Rattle.std.proofs.Common.{◌∙◌}
use Rattle.wjs_frames.proofs.Shorter.{follows_shorter}
use Rattle.wjs_step_common.proofs.Converting.{text_shortens}
use Rattle.wjs_by_content.specs.Tables.{value_in}
use Rattle.wjs_frames.specs.Parts.{env_in}
use Rattle.wjs_meaning.specs.Expressions.{at_name}
use Rattle.wjs_model.specs.Waiting.{taken}
use Rattle.wjs_members.proofs.members.at_name.Goals as goal

pub returns-else-is_object : goal.returns-else-is_object
returns-else-is_object g c =
    let t = c.at_primitive.new.config.heap.texts in
    let env = env_in g.S.WorldStore.meaning c.args.config.now t c.args.frame in
    follows_shorter g.S.WorldStore.meaning _ _ _ _ _ (text_shortens (value_in t c.args.index) env (at_name (value_in t c.args.base) (taken c.args.purpose env)) (c.is_object.ensures t ∙ c.if-is_object.false)) c.at_primitive.ensures

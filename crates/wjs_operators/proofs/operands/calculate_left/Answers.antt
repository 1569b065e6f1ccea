use Rattle.wjs_step_common.proofs.Following.{follows_as}
use Rattle.wjs_by_content.specs.Tables.{value_in}
use Rattle.wjs_meaning.specs.Operators.{arithmetic_first}
use Rattle.wjs_model.specs.Contents.{value_held}
use Rattle.wjs_frames.specs.Parts.{env_in}
use Rattle.wjs_operators.proofs.Operators.{number_passes}
use Rattle.wjs_operators.proofs.operands.calculate_left.Goals as goal

pub returns-in_default : goal.returns-in_default
returns-in_default g c =
    let t = c.finish.new.config.heap.texts in
    let env = env_in g.S.WorldStore.meaning c.args.config.now t c.args.frame in
    follows_as _ _ _ _ _ _ (λ grows. number_passes (arithmetic_first c.args.operator (value_in t (value_held c.args.frame.held)) env) t c.args.value c.in_default.not-Number) c.finish.ensures

use Rattle.wjs_step_common.proofs.Following.{follows_as}
use Rattle.wjs_meaning.specs.Expressions.{update_number}
use Rattle.wjs_model.specs.Contents.{reference_in, reference_held}
use Rattle.wjs_model.specs.Waiting.{fix_in}
use Rattle.wjs_frames.specs.Parts.{env_in}
use Rattle.wjs_operators.proofs.Operators.{number_passes}
use Rattle.wjs_assigns.proofs.updates.update_converted.Goals as goal

pub returns-in_default : goal.returns-in_default
returns-in_default g c =
    let t = c.finish.new.config.heap.texts in
    let env = env_in g.S.WorldStore.meaning c.args.config.now t c.args.frame in
    follows_as _ _ _ _ _ _ (λ grows. number_passes (update_number (fix_in c.args.fix) c.args.operator env (reference_in t (reference_held c.args.frame.held))) t c.args.value c.in_default.not-Number) c.finish.ensures

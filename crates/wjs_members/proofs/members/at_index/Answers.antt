use Rattle.std.proofs.Common.{ap}
use Rattle.wjs_step_common.proofs.Following.{follows_as}
use Rattle.wjs_by_content.specs.Tables.{value_in}
use Rattle.wjs_meaning.specs.Expressions.{at_index}
use Rattle.wjs_model.specs.Waiting.{taken}
use Rattle.wjs_frames.specs.Parts.{env_in}
use Rattle.wjs_members.proofs.members.at_index.Goals as goal

pub returns : goal.returns
returns g c =
    let t = c.at_both.new.config.heap.texts in
    let env = env_in g.S.WorldStore.meaning c.args.config.now t c.args.frame in
    follows_as _ _ _ _ _ _ (λ grows. ap (λ v. at_index (value_in t v) env (taken c.args.purpose env) (value_in t c.args.value)) c.held_value-base.ensures.is) c.at_both.ensures

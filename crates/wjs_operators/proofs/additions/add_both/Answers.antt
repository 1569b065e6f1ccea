use Rattle.std.proofs.Common.{ap}
use Rattle.wjs_step_common.proofs.Following.{follows_as}
use Rattle.wjs_by_content.specs.Tables.{value_in}
use Rattle.wjs_meaning.specs.Operators.{add_second}
use Rattle.wjs_frames.specs.Parts.{env_in}
use Rattle.wjs_operators.proofs.additions.add_both.Goals as goal

pub returns : goal.returns
returns g c =
    let t = c.added.new.config.heap.texts in
    let env = env_in g.S.WorldStore.meaning c.args.config.now t c.args.frame in
    follows_as _ _ _ _ _ _ (λ grows. ap (λ v. add_second (value_in t v) env (value_in t c.args.primitive)) c.held_value-left.ensures.is) c.added.ensures

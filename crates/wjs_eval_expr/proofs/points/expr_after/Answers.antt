use Rattle.wjs_meaning.specs.Reading.{node_in}
use Rattle.wjs_model.specs.Contents.{completion_in, holding_in}
use Rattle.wjs_frames.specs.Parts.{env_in, node_now}
use Rattle.wjs_step_common.proofs.Following.{follows_as}
use Rattle.wjs_eval_expr.proofs.Passing.{passes_in, expr_passes}
use Rattle.wjs_eval_expr.proofs.points.expr_after.Goals as goal

pub returns-in_default : goal.returns-in_default
returns-in_default g c =
    let m = g.S.WorldStore.meaning in
    let f = c.args.frame in
    let t = c.finish.new.config.heap.texts in
    follows_as _ _ _ _ _ _ (λ grows. expr_passes (node_in t (node_now m c.args.config.now f)) (holding_in t f.held) (env_in m c.args.config.now t f) (completion_in t c.args.completion) c.args.point (passes_in t c.args.completion c.in_default.not-Gives c.in_default.not-Refers)) c.finish.ensures

use Rattle.wjs_meaning.specs.Reading.{node_in}
use Rattle.wjs_model.specs.Contents.{holding_in, reference_in}
use Rattle.wjs_frames.specs.Parts.{env_in, node_now}
use Rattle.wjs_step_common.proofs.Following.{follows_as}
use Rattle.wjs_eval_expr.proofs.Passing.{expr_refers}
use Rattle.wjs_eval_expr.proofs.points.expr_reference.Goals as goal

pub assign_reference-requires-clause-right : goal.assign_reference-requires-clause-right
assign_reference-requires-clause-right g c = rw c.in-AssignTarget.is at c.requires.point

pub returns-in_default : goal.returns-in_default
returns-in_default g c =
    let m = g.S.WorldStore.meaning in
    let f = c.args.frame in
    let t = c.finish.new.config.heap.texts in
    follows_as _ _ _ _ _ _ (λ grows. expr_refers (node_in t (node_now m c.args.config.now f)) (holding_in t f.held) (env_in m c.args.config.now t f) (reference_in t c.args.reference) c.args.point (record {
      callee = c.in_default.not-CalleeTarget;
      update = c.in_default.not-UpdateTarget;
      deleted = c.in_default.not-DeleteTarget;
      typed = c.in_default.not-TypeofTarget;
      assigned = c.in_default.not-AssignTarget;
    })) c.finish.ensures

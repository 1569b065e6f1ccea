use Rattle.std.proofs.Common.{◌∙◌}
use Rattle.wjs_step_common.proofs.Following.{follows_as}
use Rattle.wjs_model.specs.Contents.{values_held}
use Rattle.wjs_eval_expr.proofs.OperationLines.{operates_on, value_there}
use Rattle.wjs_eval_expr.proofs.operations.operation.Goals as goal

pub operate-requires-clause-left : goal.operate-requires-clause-left
operate-requires-clause-left g c =
    value_there c.args.config.now c.args.frame.held c.as_slice.result.now 0 c.value_among-first.result c.requires.runs.there.held
    (c.as_slice.ensures.value ∙ c.in_ok-values.ensures) c.value_among-first.ensures

pub operate-requires-clause-right : goal.operate-requires-clause-right
operate-requires-clause-right g c =
    value_there c.args.config.now c.args.frame.held c.as_slice-2.result.now 1 c.value_among-second.result c.requires.runs.there.held
    (c.as_slice-2.ensures.value ∙ c.in_ok-values.ensures) c.value_among-second.ensures

pub returns : goal.returns
returns g c = follows_as _ _ _ _ _ _ (λ grows. operates_on _ (values_held c.args.frame.held) c.as_slice.result.now c.as_slice-2.result.now c.value_among-first.result c.value_among-second.result c.args.operator _ (c.as_slice.ensures.value ∙ c.in_ok-values.ensures) (c.as_slice-2.ensures.value ∙ c.in_ok-values.ensures) c.value_among-first.ensures c.value_among-second.ensures) c.operate.ensures

use Rattle.std.proofs.Common.{◌∙◌, ◌++◌}
use Rattle.std.proofs.lemmas.Result.{on_ok_weaker}
use Rattle.wjs_activity.proofs.lines.push_thrown.Goals as goal

pub returns : goal.returns
returns c = on_ok_weaker c.push-2.result (λ e. e ∙ (λ i. c.in_ok-push.ensures i ++ c.bytes.ensures i)) c.push-2.ensures

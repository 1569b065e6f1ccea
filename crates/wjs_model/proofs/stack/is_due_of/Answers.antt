use Rattle.std.proofs.Common.{Some, ap}
use Rattle.wjs_model.specs.Begun.{is_due}
use Rattle.wjs_model.proofs.stack.is_due_of.Goals as goal

-- it waits
pub returns : goal.returns
returns c = ap (λ p. is_due (Some p)) c.point-waits.ensures

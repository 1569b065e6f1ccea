use Rattle.std.proofs.Common.{refl, sym, subst}
use Rattle.wjs_activity.specs.declared.whole.PlayEnd.TheVariants.{StepsSpent}
use Rattle.wjs_command.specs.Attempt.{TellsPlay}
use Rattle.wjs_command.proofs.Deliveries.{spent_is}
use Rattle.wjs_command.proofs.playing.tell_spent.Goals as goal

pub returns-in_err-report_line : goal.returns-in_err-report_line
returns-in_err-report_line c = subst (TellsPlay StepsSpent) (sym (spent_is c.from_residual.result c.from_residual.ensures.1)) refl

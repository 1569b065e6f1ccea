use Rattle.wjs_command.proofs.Deliveries.{spent_refuses}
use Rattle.wjs_command.proofs.report.refuse_by.Goals as goal

pub returns-in_err-report_line : goal.returns-in_err-report_line
returns-in_err-report_line c = spent_refuses c.args.words.now c.from_residual.result c.from_residual.ensures.1

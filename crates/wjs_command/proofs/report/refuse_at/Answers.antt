use Rattle.std.proofs.Common.{List, ℕ, ◌++◌, IfOk, ◌∙◌, subst}
use Rattle.wjs_command.specs.declared.status.Status.TheVariants.{Refused}
use Rattle.wjs_command.specs.Table.{line as as_line}
use Rattle.wjs_command.specs.Attempt.{IsReport}
use Rattle.wjs_command.proofs.report.refuse_at.Goals as goal

pub returns-in-Ok : goal.returns-in-Ok
returns-in-Ok c =
    let P : List ℕ → Type 0 = λ text. IfOk c.report_line.result (IsReport Refused (as_line (text ++ c.args.reason.now))) in
    subst P (c.as_bytes.ensures.value ∙ c.in-Ok.ensures.ok) c.report_line.ensures

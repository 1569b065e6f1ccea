use Rattle.std.proofs.Common.{◌∙◌}
use Rattle.wjs_offend.proofs.Defaults.{closed_other}
use Rattle.wjs_offend.proofs.expressions.close_paren_of_form.Goals as goal

pub returns-in_default : goal.returns-in_default
returns-in_default c = c.after_operand.ensures ∙ closed_other c.args.form c.in_default.not-Paren

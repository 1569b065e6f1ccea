use Rattle.std.proofs.Common.{◌∙◌}
use Rattle.wjs_offend.proofs.Defaults.{label_other}
use Rattle.wjs_offend.proofs.statements.after_first_name.Goals as goal

pub returns-in_default : goal.returns-in_default
returns-in_default c = c.after_chain.ensures ∙ label_other c.args.class c.args.joined c.args.top c.in_default.not-Colon

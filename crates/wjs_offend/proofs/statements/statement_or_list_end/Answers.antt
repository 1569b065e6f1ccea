use Rattle.std.proofs.Common.{◌∙◌}
use Rattle.wjs_offend.proofs.Defaults.{listed_other}
use Rattle.wjs_offend.proofs.statements.statement_or_list_end.Goals as goal

pub returns-in_default : goal.returns-in_default
returns-in_default c = c.statement_start.ensures ∙ listed_other c.args.class c.args.top c.in_default.not-End c.in_default.not-CloseBrace c.in_default.not-Case c.in_default.not-Default c.in_default.not-Function

use Rattle.std.proofs.Common.{◌∙◌}
use Rattle.wjs_offend.proofs.Defaults.{statement_other}
use Rattle.wjs_offend.proofs.statements.statement_start.Goals as goal

pub returns-in_default : goal.returns-in_default
returns-in_default c = c.expression_start.ensures ∙ statement_other c.args.class c.in_default.not-OpenBrace c.in_default.not-Semicolon c.in_default.not-Word c.in_default.not-Var c.in_default.not-If c.in_default.not-Do c.in_default.not-While c.in_default.not-For c.in_default.not-Continue c.in_default.not-Break c.in_default.not-Return c.in_default.not-Throw c.in_default.not-Switch c.in_default.not-Try c.in_default.not-In c.in_default.not-Function

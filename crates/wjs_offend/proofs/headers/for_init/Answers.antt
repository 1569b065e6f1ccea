use Rattle.std.proofs.Common.{◌∙◌}
use Rattle.wjs_offend.proofs.Defaults.{init_other}
use Rattle.wjs_offend.proofs.headers.for_init.Goals as goal

pub returns-in_default : goal.returns-in_default
returns-in_default c = c.expression_start.ensures ∙ init_other c.args.class c.in_default.not-Semicolon c.in_default.not-Var

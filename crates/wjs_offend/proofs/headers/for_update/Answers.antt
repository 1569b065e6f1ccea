use Rattle.std.proofs.Common.{◌∙◌}
use Rattle.wjs_offend.proofs.Defaults.{update_other}
use Rattle.wjs_offend.proofs.headers.for_update.Goals as goal

pub returns-in_default : goal.returns-in_default
returns-in_default c = c.operand_start.ensures ∙ update_other c.args.class c.args.top c.in_default.not-CloseParen

use Rattle.std.proofs.Common.{◌∙◌}
use Rattle.wjs_offend.proofs.Defaults.{item_other}
use Rattle.wjs_offend.proofs.headers.array_element_or_end.Goals as goal

pub returns-in_default : goal.returns-in_default
returns-in_default c = c.operand_start.ensures ∙ item_other c.args.class c.args.top c.in_default.not-CloseBracket c.in_default.not-Comma

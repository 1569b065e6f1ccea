use Rattle.std.proofs.Common.{sym, ◌∙◌}
use Rattle.wjs_layers.proofs.short.short.Goals as goal

pub returns-in-Absent-clause-content : goal.returns-in-Absent-clause-content
returns-in-Absent-clause-content c = c.bare.ensures.content ∙ sym c.in-Absent.is

pub returns-in-Present-clause-content : goal.returns-in-Present-clause-content
returns-in-Present-clause-content c = c.short_value.ensures.content ∙ sym c.in-Present.is

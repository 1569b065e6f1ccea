use Rattle.std.proofs.Common.{◌∙◌, ap, sym}
use Rattle.wjs_base.specs.declared.values.Content.TheVariants.{Present}
use Rattle.wjs_layers.proofs.short.short_value.Goals as goal

pub returns-in-Undefined-clause-content : goal.returns-in-Undefined-clause-content
returns-in-Undefined-clause-content c = c.bare.ensures.content ∙ ap Present (sym c.in-Undefined.is)

pub returns-in-Null-clause-content : goal.returns-in-Null-clause-content
returns-in-Null-clause-content c = c.bare-in-Null.ensures.content ∙ ap Present (sym c.in-Null.is)

pub returns-in-Number-clause-content : goal.returns-in-Number-clause-content
returns-in-Number-clause-content c = c.short_number.ensures.content ∙ ap Present (sym c.in-Number.is)

pub returns-in-Text-clause-content : goal.returns-in-Text-clause-content
returns-in-Text-clause-content c = c.bare-in-Text.ensures.content ∙ ap Present (sym c.in-Text.is)

pub returns-in-Object-clause-content : goal.returns-in-Object-clause-content
returns-in-Object-clause-content c = c.bare-in-Object.ensures.content ∙ ap Present (sym c.in-Object.is)

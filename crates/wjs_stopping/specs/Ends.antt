-- What the value of an expression is to the meaning.
use Rattle.wjs_base.specs.Text.{Table}
use Rattle.wjs_base.specs.declared.values.Value.{Value as Numbered}
use Rattle.wjs_by_content.specs.Tables.{value_in}
use Rattle.wjs_meaning.specs.Deeds.{Completion, Gives}

abbrev pub gives_in : Table → Numbered → Completion
gives_in t v = Gives (value_in t v)

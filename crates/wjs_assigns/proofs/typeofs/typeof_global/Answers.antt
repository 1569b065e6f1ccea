use Rattle.wjs_meaning.specs.Expressions.{typeof_value}
use Rattle.wjs_assigns.proofs.typeofs.typeof_global.Goals as goal

pub returns : goal.returns
returns g c = c.in_ok-value.ensures.does.by typeof_value c.typeof_value.new.config c.typeof_value.result c.typeof_value.ensures

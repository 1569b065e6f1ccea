use Rattle.wjs_meaning.specs.Deeds.{give}
use Rattle.wjs_assigns.proofs.typeofs.typeof_value.Goals as goal

pub returns : goal.returns
returns g c = c.in_ok-name.ensures.does.by give c.finish.new.config c.finish.result c.finish.ensures

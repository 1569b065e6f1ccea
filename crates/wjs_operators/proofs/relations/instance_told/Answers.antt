use Rattle.wjs_meaning.specs.Operators.{give_truth}
use Rattle.wjs_operators.proofs.relations.instance_told.Goals as goal

pub returns : goal.returns
returns g c = c.is_past-past.ensures.does.by give_truth c.finish.new.config c.finish.result c.finish.ensures

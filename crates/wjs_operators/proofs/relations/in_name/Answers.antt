use Rattle.wjs_meaning.specs.Operators.{give_truth}
use Rattle.wjs_operators.proofs.relations.in_name.Goals as goal

pub returns : goal.returns
returns g c = c.in_ok-found.ensures.does.by give_truth c.finish.new.config c.finish.result c.finish.ensures

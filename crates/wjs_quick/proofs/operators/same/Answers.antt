use Rattle.std.proofs.Common.{ap}
use Rattle.wjs_meaning.specs.Operators.{give_truth}
use Rattle.wjs_quick.proofs.Coming.{ends_as}
use Rattle.wjs_quick.proofs.operators.same.Goals as goal

pub returns-clause-ends : goal.returns-clause-ends
returns-clause-ends g c = λ t more env. ends_as _ _ (ap give_truth (c.strictly_equal-truth.ensures t more))

use Rattle.std.proofs.Common.{Bool, not, ap}
use Rattle.wjs_meaning.specs.Operators.{give_truth}
use Rattle.wjs_quick.proofs.Coming.{ends_as}
use Rattle.wjs_quick.proofs.operators.not_same.Goals as goal

pub returns-clause-ends : goal.returns-clause-ends
returns-clause-ends g c = λ t more env. ends_as _ _ (ap (λ (b : Bool). give_truth (not b)) (c.strictly_equal-truth.ensures t more))

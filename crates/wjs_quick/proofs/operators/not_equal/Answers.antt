use Rattle.wjs_meaning.specs.Operators.{give_opposite}
use Rattle.wjs_quick.proofs.Coming.{ends_as}
use Rattle.wjs_quick.proofs.operators.not_equal.Goals as goal

pub returns-clause-ends : goal.returns-clause-ends
returns-clause-ends g c = λ t more env. ends_as _ _ (c.in_ok-truth.ensures t more env give_opposite)

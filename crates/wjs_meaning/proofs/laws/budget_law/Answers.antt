use Rattle.wjs_meaning.proofs.Budgets.{budget_lem}
use Rattle.wjs_meaning.proofs.laws.budget_law.Goals as goal

pub returns : goal.returns
returns c = budget_lem

use Rattle.wjs_by_content.proofs.PlanLaws.{answer_then, worlds_then, actions_then}
use Rattle.wjs_by_content.proofs.laws.plans_compose.Goals as goal

pub returns : goal.returns
returns g c = λ p go w F. record { answers = answer_then go w p F; worlds = worlds_then go w p F; actions = actions_then go w p F }

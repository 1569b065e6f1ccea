use Rattle.std.proofs.Common.{sym, subst}
use Rattle.wjs_load.specs.declared.tokens.LoadFault.{LoadFault}
use Rattle.wjs_command.specs.Refusals.{text_of_refusal}
use Rattle.wjs_command.specs.Attempt.{RefusesAs}
use Rattle.wjs_command.proofs.Deliveries.{spent_refuses}
use Rattle.wjs_command.proofs.performing.refuse_or_stop.Goals as goal

pub returns-in_err-refuse-in-Refused : goal.returns-in_err-refuse-in-Refused
returns-in_err-refuse-in-Refused c =
    let result = c.from_residual.result in
    subst (λ (fault : LoadFault). RefusesAs fault result) (sym c.in-Refused.is) (spent_refuses (text_of_refusal c.in-Refused.refusal) result c.from_residual.ensures.1)

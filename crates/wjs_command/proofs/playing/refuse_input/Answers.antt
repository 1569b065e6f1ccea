use Rattle.std.proofs.Common.{sym, subst}
use Rattle.wjs_division.specs.declared.input.InputFault.{InputFault}
use Rattle.wjs_division.specs.declared.input.InputFault.TheVariants.{Refused}
use Rattle.wjs_command.specs.Plays.{text_of_input}
use Rattle.wjs_command.specs.Attempt.{RefusesInput}
use Rattle.wjs_command.proofs.Deliveries.{spent_refuses}
use Rattle.wjs_command.proofs.playing.refuse_input.Goals as goal

pub returns-in_err-refuse-in-Refused : goal.returns-in_err-refuse-in-Refused
returns-in_err-refuse-in-Refused c =
    let result = c.from_residual.result in
    subst (λ (fault : InputFault). RefusesInput fault result) (sym c.in-Refused.is) (spent_refuses (text_of_input (Refused c.in-Refused.refusal)) result c.from_residual.ensures.1)

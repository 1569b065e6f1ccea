use Rattle.wjs_division.proofs.Refused.{refuses_part}
use Rattle.wjs_division.proofs.input.refusal_below.Goals as goal

pub returns-in-Some : goal.returns-in-Some
returns-in-Some c = λ bytes why. refuses_part c.args.front.now bytes c.args.refusal c.in-Some.refusal c.in-Ok.lines c.in-Ok.ensures c.in-Some.ensures why

pub returns-in-None : goal.returns-in-None
returns-in-None c = λ bytes why. tt

pub returns-in_default : goal.returns-in_default
returns-in_default c = λ bytes why. tt

use Rattle.std.proofs.Common.{sym, subst}
use Rattle.wjs_start.specs.declared.properties.Given.{Given}
use Rattle.wjs_start.specs.Known.{ValueIs}
use Rattle.wjs_start.specs.Properties.{given_in}
use Rattle.wjs_start.proofs.known.value_of.Goals as goal

pub returns-in-Zero-clause-is : goal.returns-in-Zero-clause-is
returns-in-Zero-clause-is c = λ t g. subst (λ (given : Given). ValueIs t c.whole.result (given_in given)) (sym c.in-Zero.is) (c.whole.ensures t)

use Rattle.std.proofs.Common.{sym, subst}
use Rattle.wjs_heap_steps.proofs.Making.{number_there}
use Rattle.wjs_start.specs.declared.blueprints.Primitive.{Primitive}
use Rattle.wjs_start.specs.Known.{ValueIs}
use Rattle.wjs_start.specs.Blueprints.{primitive_in}
use Rattle.wjs_start.proofs.objects.primitive_of.Goals as goal

pub returns-in-Zero-clause-is : goal.returns-in-Zero-clause-is
returns-in-Zero-clause-is c = λ t knows. subst (λ (p : Primitive). ValueIs t c.whole.result (primitive_in p)) (sym c.in-Zero.is) (c.whole.ensures t)

pub returns-in-Zero-clause-no_object : goal.returns-in-Zero-clause-no_object
returns-in-Zero-clause-no_object c = λ t arena knows. number_there t t arena c.whole.result 0 (c.whole.ensures t).is

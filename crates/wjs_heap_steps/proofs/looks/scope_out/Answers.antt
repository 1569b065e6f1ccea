use Rattle.std.proofs.Common.{Option, ap}
use Rattle.std.specs.Prelude.{unwrap_or}
use Rattle.wjs_base.specs.declared.ids.ObjId.{ObjId}
use Rattle.wjs_heap_steps.proofs.looks.scope_out.Goals as goal

pub returns-in-Some-clause-is : goal.returns-in-Some-clause-is
returns-in-Some-clause-is g c = λ t arena s. ap (λ (r : Option ObjId). unwrap_or r c.args.scope) (c.in-Some.ensures.is t arena s)

pub returns-in-None-clause-is : goal.returns-in-None-clause-is
returns-in-None-clause-is g c = λ t arena s. ap (λ (r : Option ObjId). unwrap_or r c.args.scope) (c.in-None.ensures.is t arena s)

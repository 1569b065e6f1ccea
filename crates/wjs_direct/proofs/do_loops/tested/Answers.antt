use Rattle.std.proofs.Common.{Bool, true, false, ap, ◌∙◌}
use Rattle.wjs_meaning.specs.Deeds.{Normal, Ret}
use Rattle.wjs_meaning.specs.Loops.{loop_again}
use Rattle.wjs_direct.proofs.do_loops.tested.Goals as goal

pub returns-then-to_boolean-clause-is : goal.returns-then-to_boolean-clause-is
returns-then-to_boolean-clause-is g c = λ t grows here env. ap (λ (b : Bool). elim b [ true ↦ loop_again here env | false ↦ Ret Normal ]) (c.to_boolean.ensures t grows ∙ c.if-to_boolean.true)

pub returns-else-to_boolean-clause-is : goal.returns-else-to_boolean-clause-is
returns-else-to_boolean-clause-is g c = λ t grows here env. ap (λ (b : Bool). elim b [ true ↦ loop_again here env | false ↦ Ret Normal ]) (c.to_boolean.ensures t grows ∙ c.if-to_boolean.false)

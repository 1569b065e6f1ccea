use Rattle.std.proofs.Common.{Bool, subst}
use Rattle.wjs_by_content.specs.Tables.{value_in}
use Rattle.wjs_by_content.specs.Values.{Boolean}
use Rattle.wjs_meaning.specs.Deeds.{give}
use Rattle.wjs_meaning.specs.Operators.{compare_values}
use Rattle.wjs_frames.specs.Shortening.{Shortens}
use Rattle.wjs_quick.proofs.Operations.{compare_shortens}
use Rattle.wjs_quick.proofs.operators.compared.Goals as goal

pub returns-then-are_primitives-clause-ends : goal.returns-then-are_primitives-clause-ends
returns-then-are_primitives-clause-ends g c = λ t more env.
    let a = value_in t c.args.left in
    let b = value_in t c.args.right in
    subst (λ (truth : Bool). Shortens (compare_values c.args.operator a b env) (give (Boolean truth))) (c.is_so.ensures t more) (compare_shortens c.args.operator a b env (c.are_primitives.ensures.first c.if-are_primitives.true t) (c.are_primitives.ensures.second c.if-are_primitives.true t))

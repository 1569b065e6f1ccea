use Rattle.std.proofs.Common.{ap}
use Rattle.wjs_tree.specs.declared.node.Node.TheVariants as nodes
use Rattle.wjs_tree.specs.declared.operators.BinaryOperator.{BinaryOperator}
use Rattle.wjs_effects.proofs.makes.summands.Goals as goal

pub returns-in-Add : goal.returns-in-Add
returns-in-Add c = ap (λ (o : BinaryOperator). nodes.Binary c.args.left o c.args.right) c.in-Add.is

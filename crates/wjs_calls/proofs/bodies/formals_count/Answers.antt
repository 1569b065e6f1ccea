use Rattle.std.proofs.Common.{length, ap, ◌∙◌}
use Rattle.wjs_meaning.specs.Trees as content
use Rattle.wjs_tree.specs.declared.node.Node.TheVariants as form
use Rattle.wjs_calls.proofs.FunctionNodes.{node_is}
use Rattle.wjs_calls.proofs.bodies.formals_count.Goals as goal

pub returns-in-Some : goal.returns-in-Some
returns-in-Some g c = λ t. ap (λ n. length (content.formals_of n)) (node_is t c.args.config.now.units.items c.args.frame.now.tree c.args.id c.in-Some.node.now c.in-Some.ensures) ∙ c.count_of.ensures t

pub returns-in-None : goal.returns-in-None
returns-in-None g c = λ t. ap (λ n. length (content.formals_of n)) (node_is t c.args.config.now.units.items c.args.frame.now.tree c.args.id form.Empty c.in-None.ensures)

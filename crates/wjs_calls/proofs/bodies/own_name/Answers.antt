use Rattle.std.proofs.Common.{ap, ◌∙◌}
use Rattle.wjs_meaning.specs.Trees as content
use Rattle.wjs_tree.specs.declared.node.Node.TheVariants as form
use Rattle.wjs_frames.proofs.Places.{node_known}
use Rattle.wjs_calls.proofs.FunctionNodes.{node_is}
use Rattle.wjs_calls.proofs.bodies.own_name.Goals as goal

pub returns-in-Some-clause-is : goal.returns-in-Some-clause-is
returns-in-Some-clause-is g c = λ t. ap content.name_of (node_is t c.args.config.now.units.items c.args.frame.now.tree c.args.id c.in-Some.node.now c.in-Some.ensures) ∙ c.name_in_node.ensures.is t

pub returns-in-Some-clause-found : goal.returns-in-Some-clause-found
returns-in-Some-clause-found g c = c.name_in_node.ensures.found c.args.config.now.heap.texts (node_known c.args.config.now.heap.texts c.args.config.now.units.items c.args.frame.now.tree c.args.id c.in-Some.node.now c.requires.units c.in-Some.ensures)

pub returns-in-None-clause-is : goal.returns-in-None-clause-is
returns-in-None-clause-is g c = λ t. ap content.name_of (node_is t c.args.config.now.units.items c.args.frame.now.tree c.args.id form.Empty c.in-None.ensures)

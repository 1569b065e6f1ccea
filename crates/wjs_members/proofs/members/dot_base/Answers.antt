use Rattle.std.proofs.Common.{◌∙◌}
use Rattle.wjs_tree.specs.declared.node.Node.TheVariants as nodes
use Rattle.wjs_frames.proofs.Places.{node_known}
use Rattle.wjs_members.proofs.members.dot_base.Goals as goal

pub dot_named-requires-clause-name : goal.dot_named-requires-clause-name
dot_named-requires-clause-name g c =
    node_known c.args.config.now.heap.texts c.args.config.now.units.items c.args.frame.tree c.args.frame.node (nodes.Dot _ c.in-Some-Dot.name)
    c.requires.runs.running.base.units (c.in-Some-Dot.ensures ∙ c.in-Some-Dot.field-0-is)

-- Labels in the nodes of a program.
use Rattle.std.specs.Prelude.{Option, None, Some}
use Rattle.wjs_base.specs.declared.ids.TextId.{TextId}
use Rattle.wjs_tree.specs.declared.node.Node.{Node}
use Rattle.wjs_tree.specs.declared.node.Node.TheVariants.{Label}

-- the label of a node, where it is a Label
abbrev pub label_of : Node → Option TextId
label_of (Label name s) = Some name
label_of node = None

-- A node that stands for a statement has the statement's form.
use Rattle.std.specs.Prelude.{List}
use Rattle.wjs_base.specs.declared.ids.NodeId.{NodeId}
use Rattle.wjs_tree.specs.declared.node.Node.{Node}
use Rattle.wjs_tree.specs.Trees.{Stmt}
use Rattle.wjs_tree.specs.Shows.{Has}
use Rattle.wjs_tree.specs.Forms.{IsPart, HasForm}

abbrev pub FormsAreKnown : Type 0
FormsAreKnown = (ns : List Node) (i : NodeId) (node : Node) (t : Stmt) → Has ns i node → IsPart ns t i → HasForm ns node t

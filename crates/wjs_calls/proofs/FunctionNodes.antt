-- The nodes of functions among the units.
use Rattle.std.proofs.Common.{◌≡◌, ℕ, List, ap, ◌∙◌}
use Rattle.std.specs.Prelude.{map as each}
use Rattle.wjs_base.specs.Text.{Table}
use Rattle.wjs_base.specs.declared.ids.NodeId.{NodeId}
use Rattle.wjs_tree.specs.declared.node.Node.{Node}
use Rattle.wjs_meaning.specs.Trees as content
use Rattle.wjs_meaning.specs.Reading.{node_in}
use Rattle.wjs_model.specs.declared.loaded.LoadedProgram.{LoadedProgram as Program}
use Rattle.wjs_model.specs.Units.{unit_in}
use Rattle.wjs_frames.specs.Parts.{node_among}
use Rattle.wjs_frames.proofs.Places.{node_same}

-- what a node among the units is by content
pub node_is : (t : Table) (units : List Program) (tree : ℕ) (id : NodeId) (n : Node) → node_among units tree id ≡ n → content.node_at (content.tree_at (each (unit_in t) units) tree) id.0 ≡ node_in t n
node_is t units tree id n e = node_same t units tree id ∙ ap (node_in t) e

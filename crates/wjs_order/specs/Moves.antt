-- Nodes that go to other numbers.
use Rattle.std.specs.Prelude.{ℕ, List, [], ◌∷◌}
use Rattle.wjs_base.specs.declared.ids.NodeId.{NodeId}
use Rattle.wjs_tree.specs.declared.node.Node.{Node}
use Rattle.wjs_tree.specs.Shows.{Has}
use Rattle.wjs_tree.specs.Used.{IsUsed}
use Rattle.wjs_scope.specs.Nesting.{IsAmong}
use Rattle.wjs_tree.specs.Parts.{parts_of}
use Rattle.wjs_order.specs.Renumbered.{renumbered}

abbrev pub id_of : ℕ → NodeId
id_of k = record { 0 = k }

-- the node of each of the numbers stands in the other list under its new number, its parts renumbered
abbrev pub Moves : List Node → List Node → (ℕ → ℕ) → List ℕ → Type 0
Moves ns ms g [] = Unit {0}
Moves ns ms g (k ∷ more) = ((node : Node) → Has ns (id_of k) node → Has ms (id_of (g k)) (renumbered g node)) × Moves ns ms g more

-- each of the numbers is that of a node, whose parts stand behind it
abbrev pub AreBehind : List Node → List ℕ → Type 0
AreBehind ns [] = Unit {0}
AreBehind ns (k ∷ more) = ((node : Node) × Has ns (id_of k) node × ((c : NodeId) → IsAmong (parts_of node) c → IsUsed more c.0)) × AreBehind ns more

-- What nodes' numbers tell of the tree that they stand in.
use Rattle.std.specs.Prelude.{◌≡◌, ℕ, suc, ◌+◌, List, [], ◌∷◌}
use Rattle.wjs_base.specs.declared.ids.TextId.{TextId}
use Rattle.wjs_base.specs.Text.{Table}
use Rattle.wjs_base.specs.declared.ids.NodeId.{NodeId}
use Rattle.wjs_tree.specs.Trees.{Elements}
use Rattle.wjs_tree.specs.Shows.{Has}
use Rattle.wjs_tree.specs.declared.node.Node.{Node}
use Rattle.wjs_tree.specs.declared.node.Node.TheVariants as form
use Rattle.wjs_order.specs.Order.{IsNumbered}
use Rattle.wjs_by_content.specs.Values.{Text}
use Rattle.wjs_meaning.specs.Trees.{Label, Tree, node_at, is_target, is_target_to, labels}
use Rattle.wjs_meaning.specs.Declarations.{vars_to}
use Rattle.wjs_programs.specs.Numbered.{tree_of}

-- the part of a Label, and of a Paren, is the node right before it
abbrev pub PartsAreNext : Type 0
PartsAreNext = (ns : List Node) (tree : Elements) (body i a : NodeId) → IsNumbered ns tree body → ((x : TextId) → Has ns i (form.Label x a) → i.0 ≡ a.0 + 1) × (Has ns i (form.Paren a) → i.0 ≡ a.0 + 1)

-- the names of the Labels that a statement stands in with no other statement between, the inmost first (ECMA-262, 3rd edition, section 12.12)
abbrev pub Labelled : Tree → ℕ → List Text → Type 0
Labelled tree s [] = (k : ℕ) (name : Text) → node_at tree k ≡ Label name s → ⊥
Labelled tree s (name ∷ names) = (k : ℕ) × (node_at tree k ≡ Label name s) × Labelled tree k names

-- `labels` gives these names, and no others are such
abbrev pub LabelsAreAround : Type 0
LabelsAreAround = (texts : Table) (program : Elements) (s : ℕ) → let t = tree_of texts program in Labelled t s (labels t s) × ((names : List Text) → Labelled t s names → names ≡ labels t s)

-- the depths to which a target, and the names of `var`s, are looked for cut nothing off
abbrev pub DepthIsEnough : Type 0
DepthIsEnough = (texts : Table) (program : Elements) (k more : ℕ) → let t = tree_of texts program in (is_target_to (suc k + more) t k ≡ is_target t k) × (vars_to (suc k + more) t k ≡ vars_to (suc k) t k)

-- The node at a place of a run is the numbered node under the table.
use Rattle.std.proofs.Common.{◌≡◌, ℕ, zero, suc, ◌<◌, List, [], ◌∷◌, Option, None, Some, refl, ap, ◌∙◌, subst, length}
use Rattle.std.specs.Prelude.{map as each, All, slice_get, unwrap_or}
use Rattle.std.specs.Option.{option_map}
use Rattle.std.proofs.lemmas.List.Elements.{All-head, All-tail}
use Rattle.std.proofs.lemmas.Option.{slice_get-map}
use Rattle.wjs_base.specs.Text.{Table}
use Rattle.wjs_base.specs.declared.ids.NodeId.{NodeId}
use Rattle.wjs_tree.specs.declared.node.Node.{Node as NumberedNode}
use Rattle.wjs_tree.specs.declared.node.Node.TheVariants as nodes
use Rattle.wjs_scope.specs.declared.place.Place.{Place as Found}
use Rattle.wjs_scope.specs.Places.{placed_names}
use Rattle.wjs_meaning.specs.Trees.{Tree, Global, Empty, empty_tree, node_at, tree_at, name_place}
use Rattle.wjs_meaning.specs.Reading.{node_in}
use Rattle.wjs_model.specs.declared.loaded.LoadedProgram.{LoadedProgram as Program}
use Rattle.wjs_model.specs.Texts.{KnowsNode, KnowsUnit}
use Rattle.wjs_model.specs.Units as program
use Rattle.wjs_frames.specs.Parts.{node_among}

mapped_node : (t : Table) (o : Option NumberedNode) → unwrap_or (option_map (node_in t) o) Empty ≡ node_in t (unwrap_or o nodes.Empty)
mapped_node t None = refl
mapped_node t (Some n) = refl

among_unit : (t : Table) (u : Program) (id : NodeId) → node_at (program.unit_in t u) id.0 ≡ node_in t (program.node_of u id)
among_unit t u id = ap (λ o. unwrap_or o Empty) (slice_get-map (node_in t) u.program.nodes id.0) ∙ mapped_node t (slice_get u.program.nodes id.0)

among_units : (t : Table) (o : Option Program) (id : NodeId) → node_at (unwrap_or (option_map (program.unit_in t) o) empty_tree) id.0 ≡ node_in t (unwrap_or (option_map (λ (u : Program). program.node_of u id) o) nodes.Empty)
among_units t None id = refl
among_units t (Some u) id = among_unit t u id

-- the node of a tree by content
pub node_same : (t : Table) (units : List Program) (tree : ℕ) (id : NodeId) → node_at (tree_at (each (program.unit_in t) units) tree) id.0 ≡ node_in t (node_among units tree id)
node_same t units tree id = ap (λ o. node_at (unwrap_or o empty_tree) id.0) (slice_get-map (program.unit_in t) units tree) ∙ among_units t (slice_get units tree) id

-- the place of a name in a tree by content
pub place_same : (t : Table) (units : List Program) (tree : ℕ) (u : Program) (id : NodeId) (at : ℕ) (place : Found) → slice_get units tree ≡ Some u → (at < length (placed_names (program.node_of u id)) → (t : Table) → name_place (program.unit_in t u) id.0 at ≡ program.place_in place)
    → at < length (placed_names (node_among units tree id)) → name_place (tree_at (each (program.unit_in t) units) tree) id.0 at ≡ program.place_in place
place_same t units tree u id at place e h lt =
    let P : Option Program → Type 0 = λ o. at < length (placed_names (unwrap_or (option_map (λ (u : Program). program.node_of u id) o) nodes.Empty)) in
    ap (λ (o : Option Tree). name_place (unwrap_or o empty_tree) id.0 at) (slice_get-map (program.unit_in t) units tree ∙ ap (option_map (program.unit_in t)) e) ∙ h (subst P e lt) t

pub place_none : (t : Table) (units : List Program) (tree : ℕ) (id : NodeId) (at : ℕ) → slice_get units tree ≡ None → name_place (tree_at (each (program.unit_in t) units) tree) id.0 at ≡ Global
place_none t units tree id at e = ap (λ (o : Option Tree). name_place (unwrap_or o empty_tree) id.0 at) (slice_get-map (program.unit_in t) units tree ∙ ap (option_map (program.unit_in t)) e)

node_in_known : (t : Table) (ns : List NumberedNode) (k : ℕ) → All (KnowsNode t) ns → KnowsNode t (unwrap_or (slice_get ns k) nodes.Empty)
node_in_known t [] k h = tt
node_in_known t (n ∷ ns) zero h = All-head (KnowsNode t) n ns h
node_in_known t (n ∷ ns) (suc k) h = node_in_known t ns k (All-tail (KnowsNode t) n ns h)

among_known : (t : Table) (units : List Program) (tree : ℕ) (id : NodeId) → All (KnowsUnit t) units → KnowsNode t (node_among units tree id)
among_known t [] tree id h = tt
among_known t (u ∷ us) zero id h = node_in_known t u.program.nodes id.0 (All-head (KnowsUnit t) u us h)
among_known t (u ∷ us) (suc k) id h = among_known t us k id (All-tail (KnowsUnit t) u us h)

-- the texts of a node are there
pub node_known : (t : Table) (units : List Program) (tree : ℕ) (id : NodeId) (n : NumberedNode) → All (KnowsUnit t) units → node_among units tree id ≡ n → KnowsNode t n
node_known t units tree id n h e = subst (KnowsNode t) e (among_known t units tree id h)

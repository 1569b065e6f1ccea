-- Units of a run: programs with the places of their names.
use Rattle.std.specs.Prelude.{ℕ, suc, List, [], ◌∷◌, Option, slice_get, unwrap_or}
use Rattle.wjs_base.specs.declared.ids.TextId.{TextId}
use Rattle.wjs_base.specs.Text.{Table}
use Rattle.wjs_base.specs.declared.ids.NodeId.{NodeId}
use Rattle.wjs_tree.specs.declared.node.Node.{Node}
use Rattle.wjs_tree.specs.declared.node.Node.TheVariants as form
use Rattle.wjs_scope.specs.declared.place.Place.{Place as Found}
use Rattle.wjs_scope.specs.declared.place.Place.TheVariants as found
use Rattle.wjs_scope.specs.Places.{place_at, placed_names}
use Rattle.wjs_meaning.specs.Trees.{Tree, Place}
use Rattle.wjs_meaning.specs.Reading.{tree_in}
use Rattle.wjs_model.specs.declared.loaded.LoadedProgram.{LoadedProgram}

-- the node of a number, and an empty statement where there is none
abbrev pub node_of : LoadedProgram → NodeId → Node
node_of u id = unwrap_or (slice_get u.program.nodes id.0) form.Empty

-- the global object where no place is kept
abbrev pub place_or_global : Option Found → Found
place_or_global place = unwrap_or place found.Global

abbrev pub var_place_of : LoadedProgram → ℕ → ℕ → Found
var_place_of u k at = place_or_global (place_at u.places (record { 0 = k }) at)

-- a place as the meaning has it
abbrev pub place_in : Found → Place
place_in (found.Local hops) = Place.Local hops
place_in found.Global = Place.Global

-- the places of a node's own names, from the name of a number on
abbrev pub places_from : LoadedProgram → ℕ → ℕ → List TextId → List Place
places_from u k at [] = []
places_from u k at (x ∷ names) = place_in (var_place_of u k at) ∷ places_from u k (suc at) names

-- those of each node, from the node of a number on
abbrev pub rows_from : LoadedProgram → ℕ → List Node → List (List Place)
rows_from u k [] = []
rows_from u k (node ∷ nodes) = places_from u k 0 (placed_names node) ∷ rows_from u (suc k) nodes

-- the tree of a loaded program under a table
abbrev pub unit_in : Table → LoadedProgram → Tree
unit_in t u = tree_in t u.program.nodes u.program.body (rows_from u 0 u.program.nodes)

-- The places of the names of a script (ECMA-262, 3rd edition, section 10.1.4).
use Rattle.std.specs.Prelude.{◌≡◌, ℕ, true, ◌+◌, ◌≤◌, ◌<◌, List, [], ◌∷◌, ◌++◌, length, map, codes, Option, None, Some, IsSome, slice_get}
use Rattle.wjs_base.specs.declared.ids.TextId.{TextId}
use Rattle.wjs_base.specs.Text.{Units, Table, Has as HasText, Finds, Grows}
use Rattle.wjs_base.specs.declared.ids.NodeId.{NodeId}
use Rattle.wjs_tree.specs.declared.node.Node.{Node}
use Rattle.wjs_tree.specs.declared.node.Node.TheVariants as nodes
use Rattle.wjs_tree.specs.declared.node.Declarator.{Declarator}
use Rattle.wjs_tree.specs.declared.node.ForInit.{ForInit}
use Rattle.wjs_tree.specs.declared.node.ForInit.TheVariants as inits
use Rattle.wjs_tree.specs.Trees.{Elements}
use Rattle.wjs_tree.specs.Height.{elements_height}
use Rattle.wjs_tree.specs.Shows.{Has, ElementsShow}
use Rattle.wjs_tree.specs.Used.{IsOnce}
use Rattle.wjs_scope.specs.declared.place.Place.{Place}
use Rattle.wjs_scope.specs.declared.declarations.Declarations.{Declarations}
use Rattle.wjs_scope.specs.Declarations.{is_body}
use Rattle.wjs_scope.specs.Answers.{BodyThere}
use Rattle.wjs_scope.specs.Bodies.{AreOthers, KnowsVariables}
use Rattle.wjs_scope.specs.Scopes.{Scope, resolve}
use Rattle.wjs_scope.specs.declared.levels.Level.{Level}
use Rattle.wjs_scope.specs.Levels.{Nests}
use Rattle.wjs_scope.specs.Nesting.{StandsAmong, StandsIn}
use Rattle.wjs_scope.specs.Visits.{mark_of}

-- the text whose name each function has (section 10.1.8)
abbrev pub arguments_text : Units
arguments_text = codes "arguments"

-- the node is the body of a script, of which no node stands at two places, and whose height is at most 200
pub record IsScript (ns : List Node) (body : NodeId) : Type 0 where
  pub tree : Elements
  pub list : List NodeId
  pub used : List ℕ
  pub has : Has ns body (nodes.Program list)
  pub shows : ElementsShow ns tree list used
  pub once : IsOnce used
  pub low : elements_height tree ≤ 200

abbrev pub declarator_names : List Declarator → List TextId
declarator_names list = map (λ (d : Declarator). d.name) list

abbrev pub init_declares : ForInit → List TextId
init_declares inits.Nothing = []
init_declares (inits.Expr a) = []
init_declares (inits.Var list) = declarator_names list

-- the names of a node that have places: a Name's own, or those that it declares by `var` itself, in order (sections 11.1.2, 12.2 and 12.6)
abbrev pub placed_names : Node → List TextId
placed_names (nodes.Name x) = x ∷ []
placed_names (nodes.Var list end) = declarator_names list
placed_names (nodes.For init o p a) = init_declares init
placed_names (nodes.ForVarIn x a b) = x ∷ []
placed_names _ = []

-- places, each node's in a row from a start of its own
abbrev pub Rows : Type 0
Rows = List ℕ × List Place

abbrev pub place_from : Option ℕ → List Place → ℕ → Option Place
place_from None list k = None
place_from (Some start) list k = slice_get list (start + k)

-- the place that is kept for the name of this number of a node, counted from 0
abbrev pub place_at : Rows → NodeId → ℕ → Option Place
place_at rows i k = place_from (slice_get rows.0 i.0) rows.1 k

-- a node's names of these places, put behind those that are there
abbrev pub AddsPlaces : List Level → ℕ → List TextId → List Place → List Place → Type 0
AddsPlaces levels at names old new = (scopes : List Scope) → Nests levels at scopes → new ≡ old ++ map (resolve scopes) names

-- for each marked node the places of its names are kept that its scopes give
abbrev pub KeepsPlaces : List Node → List (Option ℕ) → List Level → Rows → Type 0
KeepsPlaces ns marks levels rows = (i : NodeId) (at : ℕ) (scopes : List Scope) (node : Node) (k : ℕ) (x : TextId) → mark_of marks i ≡ Some at → Nests levels at scopes → Has ns i node → slice_get (placed_names node) k ≡ Some x → place_at rows i k ≡ Some (resolve scopes x)

-- for each name of the script's nodes the place is kept that its scopes give
pub record ArePlaces (ns : List Node) (arguments : Option TextId) (body : NodeId) (rows : Rows) : Type 0 where
  pub right : (i : NodeId) (scopes : List Scope) (node : Node) (k : ℕ) (x : TextId) → StandsAmong ns arguments body i scopes → Has ns i node → slice_get (placed_names node) k ≡ Some x → place_at rows i k ≡ Some (resolve scopes x)
  pub each : (i : NodeId) (node : Node) (k : ℕ) → StandsIn ns body i → Has ns i node → k < length (placed_names node) → IsSome (place_at rows i k)

-- each body in the tree of a script is there, with all that stands in it
abbrev pub BodiesAreThere : Type 0
BodiesAreThere = (ns : List Node) (body i : NodeId) (node : Node) → IsScript ns body → StandsIn ns body i → Has ns i node → is_body node ≡ true → BodyThere ns i

-- A program's places are right: it is a script, and they are those of its names, with the text of `arguments` where the table has
-- it. So are the other variables of its bodies.
pub record IsPlaced (texts : Table) (ns : List Node) (body : NodeId) (rows : Rows) (table : List Declarations × Declarations) : Type 0 where
  pub script : IsScript ns body
  pub arguments : Option TextId
  pub found : Finds texts arguments_text arguments
  pub places : ArePlaces ns arguments body rows
  pub others : AreOthers ns arguments table

-- all names that have places are in the table
abbrev pub KnowsPlaced : Table → List Node → Type 0
KnowsPlaced texts ns = (i : NodeId) (node : Node) (k : ℕ) (x : TextId) → Has ns i node → slice_get (placed_names node) k ≡ Some x → HasText texts x

-- as the table grows, a program whose names it knows keeps its places and its other variables right
abbrev pub PlacesStay : Type 0
PlacesStay =
    (old new : Table) (ns : List Node) (body : NodeId) (rows : Rows) (table : List Declarations × Declarations) → Grows old new → KnowsPlaced old ns → KnowsVariables old table
    → IsPlaced old ns body rows table → IsPlaced new ns body rows table

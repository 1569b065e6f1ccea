-- What each body of a program declares, in a table by the nodes' numbers (ECMA-262, 3rd edition, sections 10.1.3, 12.2 and 13).
use Rattle.std.specs.Prelude.{◌≡◌, ℕ, true, List, [], ◌∷◌, ◌++◌, length, All, Option, Some, slice_get, unwrap_or}
use Rattle.wjs_base.specs.declared.ids.TextId.{TextId}
use Rattle.wjs_base.specs.Text.{Table, Has as HasText}
use Rattle.wjs_base.specs.declared.ids.NodeId.{NodeId}
use Rattle.wjs_tree.specs.declared.node.Node.{Node}
use Rattle.wjs_tree.specs.declared.node.Node.TheVariants as nodes
use Rattle.wjs_tree.specs.Trees.{Elements}
use Rattle.wjs_tree.specs.Shows.{Has}
use Rattle.wjs_tree.specs.Forms.{AreElements}
use Rattle.wjs_scope.specs.declared.declarations.Declarations.{Declarations}
use Rattle.wjs_scope.specs.Declarations.{is_body, formals_of, elements_of, functions_among, variables}
use Rattle.wjs_scope.specs.Scopes.{some_name, none_of, function_names}
use Rattle.wjs_scope.specs.Answers.{BodyThere}

abbrev pub nothing : Declarations
nothing = record { formals = []; functions = []; variables = []; others = [] }

-- the node of a number, and an empty statement where there is none
abbrev pub node_at : List Node → ℕ → Node
node_at ns k = unwrap_or (slice_get ns k) nodes.Empty

-- the elements of the body at a node; none where the node is no body's
abbrev pub elements_at : List Node → ℕ → List NodeId
elements_at ns k = elements_of (node_at ns k)

-- those of the names that are neither `arguments`, nor a formal of a node's body, nor a function's that is declared in it
abbrev pub others_in : List Node → Option TextId → Node → List TextId → List TextId
others_in ns arguments node names = none_of (some_name arguments ++ (formals_of node ++ function_names ns (elements_of node))) names

-- this is what a node's body declares, where `arguments` has this number; nothing where the node is no body's
pub record Declares (ns : List Node) (arguments : Option TextId) (node : Node) (d : Declarations) : Type 0 where
  pub formals : d.formals ≡ formals_of node
  pub functions : d.functions ≡ functions_among ns (elements_of node)
  pub variables : (t : Elements) → AreElements ns t (elements_of node) → d.variables ≡ variables t
  pub others : d.others ≡ others_in ns arguments node d.variables

-- what the table has of the node of a number; the second part is what there is of the others
abbrev pub declared_in : List Declarations × Declarations → ℕ → Declarations
declared_in table k = unwrap_or (slice_get table.0 k) table.1

-- the table has what the body at each node declares
abbrev pub AreDeclared : List Node → Option TextId → List Declarations × Declarations → Type 0
AreDeclared ns arguments table = (k : ℕ) → Declares ns arguments (node_at ns k) (declared_in table k)

-- the other variables of each body are right, where `arguments` has this number
abbrev pub AreOthers : List Node → Option TextId → List Declarations × Declarations → Type 0
AreOthers ns arguments table = (k : ℕ) → (declared_in table k).others ≡ others_in ns arguments (node_at ns k) (declared_in table k).variables

-- all variables of bodies are in a table of texts
abbrev pub KnowsVariables : Table → List Declarations × Declarations → Type 0
KnowsVariables texts table = (k : ℕ) → All (HasText texts) (declared_in table k).variables

-- the elements of each body stand for trees of at most the greatest height
abbrev pub BodiesStand : List Node → Type 0
BodiesStand ns = (i : NodeId) (node : Node) → Has ns i node → is_body node ≡ true → BodyThere ns i

-- the rows of so many nodes, from the first on
pub record DeclaresTo (ns : List Node) (arguments : Option TextId) (n : ℕ) (rows : List Declarations) : Type 0 where
  pub long : length rows ≡ n
  pub right : (k : ℕ) (d : Declarations) → slice_get rows k ≡ Some d → Declares ns arguments (node_at ns k) d

-- the row of a node has been put last
abbrev pub DeclaresNext : List Node → Option TextId → NodeId → List Declarations → List Declarations → Type 0
DeclaresNext ns arguments i old new = (d : Declarations) × Declares ns arguments (node_at ns i.0) d × (new ≡ old ++ d ∷ [])

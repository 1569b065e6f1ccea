-- What a visit of a node leaves: its parts are marked with the numbers of the scopes that they stand in.
use Rattle.std.specs.Prelude.{◌≡◌, ℕ, ◌+◌, ◌≤◌, List, length, Option, Some, None, slice_index_or}
use Rattle.wjs_base.specs.declared.ids.TextId.{TextId}
use Rattle.wjs_base.specs.declared.ids.NodeId.{NodeId}
use Rattle.wjs_tree.specs.declared.node.Node.{Node}
use Rattle.wjs_tree.specs.declared.node.Node.TheVariants as nodes
use Rattle.wjs_scope.specs.declared.levels.Level.{Level}
use Rattle.wjs_scope.specs.Scopes.{Scope}
use Rattle.wjs_scope.specs.Nesting.{Side, parts, IsAmong, Enters, StandsAmong, StandsIn}
use Rattle.wjs_scope.specs.Levels.{Nests, IsNest, StaysNested}
use Rattle.wjs_scope.specs.Marks.{number_on, marked_parts}
use Rattle.wjs_tree.specs.There.{ElementsThere}

-- the body of a script or a function stands for elements
abbrev pub HasElements : List Node → Node → Type 0
HasElements ns (nodes.Program list) = ElementsThere ns 200 list
HasElements ns (nodes.Function name formals list) = ElementsThere ns 200 list
HasElements ns (nodes.FunctionDecl x formals list) = ElementsThere ns 200 list
HasElements ns _ = Unit {0}

-- scopes stand under the number, and there is room for two more
abbrev pub HasRoom : List Level → ℕ → Type 0
HasRoom levels at = (scopes : List Scope) × Nests levels at scopes × (length scopes + 2 ≤ 400)

-- The scopes that begin at the node have been put within those of its number; under `inner` stand those of the parts that do
-- not stand in the scopes around the node.
pub record Begins (ns : List Node) (arguments : Option TextId) (node : Node) (at inner : ℕ) (before after : List Level) : Type 0 where
  pub stays : StaysNested before after
  pub opens : (p : NodeId × Side) (scopes found : List Scope) → IsAmong (parts node) p → Nests before at scopes → Enters ns arguments node p.1 scopes found → Nests after (number_on p.1 at inner) found

-- the parts of the node are marked, each with the number under which its scopes stand
abbrev pub Visits : List Node → Option TextId → Node → ℕ → List (Option ℕ) → List (Option ℕ) → List Level → List Level → Type 0
Visits ns arguments node at old new before after = (inner : ℕ) × (new ≡ marked_parts old at inner (parts node)) × Begins ns arguments node at inner before after

-- the number of the scopes that a node stands in, if it has one
abbrev pub mark_of : List (Option ℕ) → NodeId → Option ℕ
mark_of marks i = slice_index_or marks i.0 None

-- each node of the script is marked with the number under which the scopes around it stand
pub record AreNested (ns : List Node) (arguments : Option TextId) (body : NodeId) (marks : List (Option ℕ)) (levels : List Level) : Type 0 where
  pub within : length marks ≤ length ns
  pub nests : (i : NodeId) (at : ℕ) → mark_of marks i ≡ Some at → IsNest levels at
  pub right : (i : NodeId) (scopes : List Scope) → StandsAmong ns arguments body i scopes → (at : ℕ) × (mark_of marks i ≡ Some at) × Nests levels at scopes
  pub each : (i : NodeId) → StandsIn ns body i → (at : ℕ) × (mark_of marks i ≡ Some at)

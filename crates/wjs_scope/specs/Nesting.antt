-- The scopes around each node of a script (ECMA-262, 3rd edition, sections 10.1.4, 12.14 and 13).
use Rattle.std.specs.Prelude.{◌≡◌, ◌⊎◌, List, [], ◌∷◌, ◌++◌, map, Option, Some, None}
use Rattle.wjs_base.specs.declared.ids.TextId.{TextId}
use Rattle.wjs_base.specs.declared.ids.NodeId.{NodeId}
use Rattle.wjs_tree.specs.declared.node.Node.{Node}
use Rattle.wjs_tree.specs.declared.node.Node.TheVariants as nodes
use Rattle.wjs_tree.specs.declared.node.Handler.{Handler}
pub use Rattle.wjs_tree.specs.Parts.{option_part, item_parts, property_parts, initialisers, init_parts, clause_part, clause_parts, parts_of}
use Rattle.wjs_tree.specs.Trees.{Elements}
use Rattle.wjs_tree.specs.Shows.{Has}
use Rattle.wjs_scope.specs.Declarations.{elements_of}
use Rattle.wjs_tree.specs.Forms.{AreElements}
use Rattle.wjs_scope.specs.Scopes.{Scope, in_function}

-- where a part of a node stands: in the scopes around the node, in a `catch` of this name, or in the body of a function
pub data Side : Type 0 where
  Around : Side
  Caught : TextId → Side
  Inside : Side

-- the parts of a node that is neither a function nor a `try`
abbrev pub plain_parts : Node → List NodeId
plain_parts (nodes.Function name formals list) = []
plain_parts (nodes.FunctionDecl x formals list) = []
plain_parts (nodes.Try b handler last) = []
plain_parts n = parts_of n

abbrev pub on_side : Side → List NodeId → List (NodeId × Side)
on_side side list = map (λ (i : NodeId). (i, side)) list

abbrev pub caught_part : Option Handler → List (NodeId × Side)
caught_part None = []
caught_part (Some h) = (h.block, Caught h.name) ∷ []

-- the parts of a node and where they stand, in the order in which they are spelled
abbrev pub parts : Node → List (NodeId × Side)
parts (nodes.Function name formals list) = on_side Inside list
parts (nodes.FunctionDecl x formals list) = on_side Inside list
parts (nodes.Try b handler last) = (b, Around) ∷ (caught_part handler ++ on_side Around (option_part last))
parts n = on_side Around (plain_parts n)

abbrev pub IsAmong : {T : Type 0} → List T → T → Type 0
IsAmong [] x = ⊥
IsAmong (y ∷ more) x = (x ≡ y) ⊎ IsAmong more x

-- of a node's parts that stand there, the scopes around are these
abbrev pub Enters : List Node → Option TextId → Node → Side → List Scope → List Scope → Type 0
Enters ns arguments node Around scopes inner = inner ≡ scopes
Enters ns arguments node (Caught x) scopes inner = inner ≡ (x ∷ []) ∷ scopes
Enters ns arguments node Inside scopes inner = (body : Elements) × AreElements ns body (elements_of node) × (inner ≡ in_function ns arguments node body scopes)

-- The way leads from a node, around which these scopes are, part by part to a node around which those are.
abbrev pub Leads : List Node → Option TextId → NodeId → List Scope → List (NodeId × Side) → NodeId → List Scope → Type 0
Leads ns arguments i scopes [] j found = (j ≡ i) × (found ≡ scopes)
Leads ns arguments i scopes (part ∷ way) j found =
    (node : Node) × (inner : List Scope) × Has ns i node × IsAmong (parts node) part × Enters ns arguments node part.1 scopes inner × Leads ns arguments part.0 inner way j found

-- around the node of the script stand these scopes, the nearest first; around its body stands none
abbrev pub StandsAmong : List Node → Option TextId → NodeId → NodeId → List Scope → Type 0
StandsAmong ns arguments body i scopes = (way : List (NodeId × Side)) × Leads ns arguments body [] way i scopes

-- the way leads from a node part by part to a node, whatever the scopes
abbrev pub LeadsTo : List Node → NodeId → List (NodeId × Side) → NodeId → Type 0
LeadsTo ns i [] j = j ≡ i
LeadsTo ns i (part ∷ way) j = (node : Node) × Has ns i node × IsAmong (parts node) part × LeadsTo ns part.0 way j

-- the node is one of those that the tree of another is made of
abbrev pub StandsIn : List Node → NodeId → NodeId → Type 0
StandsIn ns i j = (way : List (NodeId × Side)) × LeadsTo ns i way j

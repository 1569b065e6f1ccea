-- Nodes that stand for trees of at most some height.
use Rattle.std.specs.Prelude.{ℕ, suc, ◌≤◌, ◌⊎◌, List, Option, Some, None}
use Rattle.wjs_base.specs.declared.ids.TextId.{TextId}
use Rattle.wjs_base.specs.declared.ids.NodeId.{NodeId}
use Rattle.wjs_tree.specs.declared.node.Node.{Node}
use Rattle.wjs_tree.specs.declared.node.Clause.{Clause}
use Rattle.wjs_tree.specs.declared.node.Node.TheVariants as nodes
use Rattle.wjs_tree.specs.Trees.{Stmt, Stmts, Clauses, Elements}
use Rattle.wjs_tree.specs.Height.{stmt_height, stmts_height, clauses_height, elements_height}
use Rattle.wjs_tree.specs.Shows.{Has}
use Rattle.wjs_tree.specs.Forms.{IsPart, AreParts, AreClauses, AreElements, HasForm}

-- the node stands for a statement of at most this height
abbrev pub StmtThere : List Node → ℕ → NodeId → Type 0
StmtThere ns room i = (t : Stmt) × IsPart ns t i × (stmt_height t ≤ room)

-- if there is a node, it stands for one
abbrev pub OptionThere : List Node → ℕ → Option NodeId → Type 0
OptionThere ns room None = Unit {0}
OptionThere ns room (Some i) = StmtThere ns room i

abbrev pub StmtsThere : List Node → ℕ → List NodeId → Type 0
StmtsThere ns room list = (t : Stmts) × AreParts ns t list × (stmts_height t ≤ room)

abbrev pub ClausesThere : List Node → ℕ → List Clause → Type 0
ClausesThere ns room list = (t : Clauses) × AreClauses ns t list × (clauses_height t ≤ room)

-- the nodes stand for the elements of a body of at most this height
abbrev pub ElementsThere : List Node → ℕ → List NodeId → Type 0
ElementsThere ns room list = (t : Elements) × AreElements ns t list × (elements_height t ≤ room)

-- the node stands for an element: a statement of at most this height, or a function
abbrev pub ElementThere : List Node → ℕ → NodeId → Type 0
ElementThere ns room i = StmtThere ns room i ⊎ ((x : TextId) × (formals : List TextId) × (body : List NodeId) × Has ns i (nodes.FunctionDecl x formals body))

-- the form stands for a statement of at most this height, its statements being lower
abbrev pub FormThere : List Node → ℕ → Node → Type 0
FormThere ns room n = (t : Stmt) × HasForm ns n t × (stmt_height t ≤ suc room)

-- the node is no `if`
abbrev pub IsNoIf : List Node → NodeId → Type 0
IsNoIf ns i = (a b : NodeId) (o : Option NodeId) → Has ns i (nodes.If a b o) → ⊥

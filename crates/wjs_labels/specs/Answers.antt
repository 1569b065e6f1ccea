-- What the answers say of the trees that nodes stand for.
use Rattle.std.specs.Prelude.{Contains, ◌≤◌, ◌↔◌, Bool, IsTrue, List, Option, Some, None}
use Rattle.wjs_base.specs.declared.ids.TextId.{TextId}
use Rattle.wjs_base.specs.declared.ids.NodeId.{NodeId}
use Rattle.wjs_tree.specs.declared.node.Node.{Node}
use Rattle.wjs_tree.specs.declared.node.Clause.{Clause}
use Rattle.wjs_tree.specs.Trees.{Stmt, Stmts, Clauses, Elements}
use Rattle.wjs_tree.specs.declared.node.Node.TheVariants as nodes
use Rattle.wjs_tree.specs.Shows.{Has}
use Rattle.wjs_tree.specs.Jumps.{Around, in_switch, in_label, default_count, JumpsRight, AllJumpRight, ClausesJumpRight, ElementsJumpRight}
use Rattle.wjs_tree.specs.Forms.{IsPart, AreParts, AreClauses, AreElements, HasForm}
pub use Rattle.wjs_tree.specs.There.{ElementsThere}

-- the answer is whether the jumps of the statement have where to go
abbrev pub StmtAnswer : List Node → Around → NodeId → Bool → Type 0
StmtAnswer ns a i b = (t : Stmt) → IsPart ns t i → IsTrue b ↔ JumpsRight a t

-- the same where there is a node, else it is `true`
abbrev pub OptionAnswer : List Node → Around → Option NodeId → Bool → Type 0
OptionAnswer ns a None b = IsTrue b
OptionAnswer ns a (Some i) b = StmtAnswer ns a i b

abbrev pub StmtsAnswer : List Node → Around → List NodeId → Bool → Type 0
StmtsAnswer ns a list b = (t : Stmts) → AreParts ns t list → IsTrue b ↔ AllJumpRight a t

-- within a label of the statement
abbrev pub LabelAnswer : List Node → Around → TextId → NodeId → Bool → Type 0
LabelAnswer ns a x i b = (t : Stmt) → IsPart ns t i → IsTrue b ↔ ((¬ Contains a.labels x) × JumpsRight (in_label x t a) t)

-- of the clauses of a `switch`
abbrev pub SwitchAnswer : List Node → Around → List Clause → Bool → Type 0
SwitchAnswer ns a list b = (t : Clauses) → AreClauses ns t list → IsTrue b ↔ ((default_count t ≤ 1) × ClausesJumpRight (in_switch a) t)

-- the answer is whether the jumps of an element have where to go; a function has none of this body
pub record ElementAnswer (ns : List Node) (a : Around) (i : NodeId) (b : Bool) : Type 0 where
  pub statement : StmtAnswer ns a i b
  pub function : (x : TextId) (formals : List TextId) (body : List NodeId) → Has ns i (nodes.FunctionDecl x formals body) → IsTrue b

-- the answer is whether the jumps of a body have where to go
abbrev pub ElementsAnswer : List Node → Around → List NodeId → Bool → Type 0
ElementsAnswer ns a list b = (t : Elements) → AreElements ns t list → IsTrue b ↔ ElementsJumpRight a t

-- the answer is whether the jumps of a form have where to go
abbrev pub FormAnswer : List Node → Around → Node → Bool → Type 0
FormAnswer ns a n b = (t : Stmt) → HasForm ns n t → IsTrue b ↔ JumpsRight a t

-- The trees that a node of each form stands for, with the statements in them.
use Rattle.std.specs.Prelude.{◌≡◌, ℕ, List, Option, Some, None}
use Rattle.wjs_base.specs.declared.ids.NodeId.{NodeId}
use Rattle.wjs_tree.specs.declared.node.Node.{Node}
use Rattle.wjs_tree.specs.declared.node.Node.TheVariants as nodes
use Rattle.wjs_tree.specs.declared.node.Clause.{Clause}
use Rattle.wjs_tree.specs.declared.node.Declarator.{Declarator}
use Rattle.wjs_tree.specs.declared.node.ForInit.{ForInit}
use Rattle.wjs_tree.specs.Trees.{Expr, Optional, Variables, Init, Stmt, Stmts, Clauses, Elements, Block, Var, Empty, ExprStmt, If, IfElse, DoWhile, While, For, ForIn, ForVarIn, Continue, Break, Return, Throw, Label, Switch, TryCatch, TryFinally, TryBoth, Within}
use Rattle.wjs_tree.specs.Shows.{VariablesShow, InitShows, StmtShows, StmtsShow, ClausesShow, ElementsShow}

-- the node stands for the statement
abbrev pub IsPart : List Node → Stmt → NodeId → Type 0
IsPart ns t i = (used : List ℕ) × StmtShows ns t i used

-- the nodes stand for the statements
abbrev pub AreParts : List Node → Stmts → List NodeId → Type 0
AreParts ns t list = (used : List ℕ) × StmtsShow ns t list used

-- the nodes stand for the clauses
abbrev pub AreClauses : List Node → Clauses → List Clause → Type 0
AreClauses ns t list = (used : List ℕ) × ClausesShow ns t list used

-- the nodes stand for the elements
abbrev pub AreElements : List Node → Elements → List NodeId → Type 0
AreElements ns t list = (used : List ℕ) × ElementsShow ns t list used

-- the declarators stand for the variables
abbrev pub AreVariables : List Node → Variables → List Declarator → Type 0
AreVariables ns t list = (used : List ℕ) × VariablesShow ns t list used

-- what stands first in the header of a `for` stands for this
abbrev pub IsInit : List Node → Init → ForInit → Type 0
IsInit ns t init = (used : List ℕ) × InitShows ns t init used

-- the body of a loop (section 12.6)
abbrev pub loop_body : Node → Option NodeId
loop_body (nodes.DoWhile a b end) = Some a
loop_body (nodes.While a b) = Some b
loop_body (nodes.For f o p a) = Some a
loop_body (nodes.ForIn a b d) = Some d
loop_body (nodes.ForVarIn x a b) = Some b
loop_body _ = None

-- a node of the form stands for the statement
abbrev pub HasForm : List Node → Node → Stmt → Type 0
HasForm ns (nodes.Block list) t = (body : Stmts) × (t ≡ Block body) × AreParts ns body list
HasForm ns (nodes.Var list end) t = (vs : Variables) × (t ≡ Var vs end) × AreVariables ns vs list
HasForm ns nodes.Empty t = t ≡ Empty
HasForm ns (nodes.Expr a end) t = (e : Expr) × (t ≡ ExprStmt e end)
HasForm ns (nodes.If a b None) t = (e : Expr) × (s : Stmt) × (t ≡ If e s) × IsPart ns s b
HasForm ns (nodes.If a b (Some d)) t = (e : Expr) × (s u : Stmt) × (t ≡ IfElse e s u) × IsPart ns s b × IsPart ns u d
HasForm ns (nodes.DoWhile a b end) t = (s : Stmt) × (e : Expr) × (t ≡ DoWhile s e end) × IsPart ns s a
HasForm ns (nodes.While a b) t = (e : Expr) × (s : Stmt) × (t ≡ While e s) × IsPart ns s b
HasForm ns (nodes.For f o p a) t = (init : Init) × (test update : Optional) × (s : Stmt) × (t ≡ For init test update s) × IsInit ns init f × IsPart ns s a
HasForm ns (nodes.ForIn a b d) t = (r e : Expr) × (s : Stmt) × (t ≡ ForIn r e s) × IsPart ns s d
HasForm ns (nodes.ForVarIn x a b) t = (e : Expr) × (s : Stmt) × (t ≡ ForVarIn x e s) × IsPart ns s b
HasForm ns (nodes.Continue label end) t = t ≡ Continue label end
HasForm ns (nodes.Break label end) t = t ≡ Break label end
HasForm ns (nodes.Return o end) t = (e : Optional) × (t ≡ Return e end)
HasForm ns (nodes.Throw a end) t = (e : Expr) × (t ≡ Throw e end)
HasForm ns (nodes.Label x a) t = (s : Stmt) × (t ≡ Label x s) × IsPart ns s a
HasForm ns (nodes.Switch a list) t = (e : Expr) × (clauses : Clauses) × (t ≡ Switch e clauses) × AreClauses ns clauses list
HasForm ns (nodes.Try p (Some handler) None) t = (b c : Stmts) × (t ≡ TryCatch b handler.name c) × IsPart ns (Block b) p × IsPart ns (Block c) handler.block
HasForm ns (nodes.Try p None (Some q)) t = (b f : Stmts) × (t ≡ TryFinally b f) × IsPart ns (Block b) p × IsPart ns (Block f) q
HasForm ns (nodes.Try p (Some handler) (Some q)) t = (b c f : Stmts) × (t ≡ TryBoth b handler.name c f) × IsPart ns (Block b) p × IsPart ns (Block c) handler.block × IsPart ns (Block f) q
HasForm ns (nodes.Within a p) t = (e : Expr) × (b : Stmts) × (t ≡ Within e b) × IsPart ns (Block b) p
HasForm ns _ t = ⊥

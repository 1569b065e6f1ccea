-- `if`s behind each other's `else`s.
use Rattle.std.specs.Prelude.{◌≡◌, ℕ, ◌<◌, List, [], ◌∷◌}
use Rattle.wjs_base.specs.declared.ids.NodeId.{NodeId}
use Rattle.wjs_tree.specs.declared.node.Node.{Node}
use Rattle.wjs_tree.specs.Trees.{Expr, Stmt, IfElse}
use Rattle.wjs_tree.specs.Shows.{Shows, StmtShows}
use Rattle.wjs_parse_stmt.specs.declared.parts.Branch.{Branch}

-- the test and the statement of an `if` that has an `else`
pub record Head : Type 0 where
  pub test : Expr
  pub body : Stmt

-- the `if`s, each behind the `else` of the one before it, and the last statement
abbrev pub chain : List Head → Stmt → Stmt
chain [] s = s
chain (h ∷ hs) s = IfElse h.test h.body (chain hs s)

-- the nodes of the tests and statements
abbrev pub HeadsShow : List Node → List Head → List Branch → Type 0
HeadsShow ns [] list = list ≡ []
HeadsShow ns (h ∷ hs) list = (b : Branch) × (more : List Branch) × (us vs : List ℕ) × (list ≡ b ∷ more) × Shows ns h.test b.test us × StmtShows ns h.body b.body vs × HeadsShow ns hs more

abbrev pub BranchesBelow : ℕ → List Branch → Type 0
BranchesBelow n [] = Unit {0}
BranchesBelow n (b ∷ rest) = (b.test.0 < n) × (b.body.0 < n) × BranchesBelow n rest

-- the node of the chain, whatever its parts stand for
pub record IsChained (old : List Node) (list : List Branch) (last : NodeId) (new : List Node) (node : NodeId) : Type 0 where
  pub shows : (hs : List Head) (s : Stmt) (us : List ℕ) → HeadsShow old hs list → StmtShows old s last us → (vs : List ℕ) × StmtShows new (chain hs s) node vs

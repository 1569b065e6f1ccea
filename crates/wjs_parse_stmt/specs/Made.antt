-- What is read is made of nodes of its own: no node stands at two places of it, and each is new or one of a function that
-- was read before within its tokens.
use Rattle.std.specs.Prelude.{◌≡◌, ℕ, List, [], ◌∷◌, ◌++◌, Option, Some}
use Rattle.std.specs.declared.result.Result.{Result}
use Rattle.std.specs.declared.result.Result.TheVariants.{Ok}
use Rattle.wjs_base.specs.declared.ids.OutOfMemory.{OutOfMemory}
use Rattle.wjs_base.specs.declared.ids.NodeId.{NodeId}
use Rattle.wjs_tree.specs.declared.tokens.Tok.{Tok}
use Rattle.wjs_tree.specs.declared.node.Node.{Node}
use Rattle.wjs_tree.specs.declared.node.Node.TheVariants as nodes
use Rattle.wjs_tree.specs.declared.node.ForInit.{ForInit}
use Rattle.wjs_tree.specs.declared.node.Clause.{Clause}
use Rattle.wjs_tree.specs.Trees.{Expr, Optional, Init, Stmt, Stmts, Clauses}
use Rattle.wjs_tree.specs.Shows.{Has, Shows, OptionalShows, InitShows, StmtShows, StmtsShow, ClausesShow}
use Rattle.wjs_parse_expr.specs.declared.functions.Functions.{Functions}
use Rattle.wjs_parse_expr.specs.Table.{Holds}
use Rattle.wjs_parse_simple.specs.declared.parts.Piece.{Piece}
use Rattle.wjs_parse_simple.specs.declared.parts.Spot.{Spot}
use Rattle.wjs_parse_simple.specs.Made.{Span, ExprMade, StmtMade, StmtOwn}
use Rattle.wjs_parse_stmt.specs.declared.parts.Rest.{Rest}
use Rattle.wjs_parse_stmt.specs.declared.parts.Branch.{Branch}
use Rattle.wjs_parse_stmt.specs.declared.parts.Handled.{Handled}
use Rattle.wjs_parse_stmt.specs.declared.parts.Arm.{Arm}
use Rattle.wjs_parse_stmt.specs.declared.parts.Listed.{Listed}
use Rattle.wjs_parse_stmt.specs.declared.parts.ListedClauses.{ListedClauses}
use Rattle.wjs_parse_stmt.specs.Chains.{Head}

pub record InitMade (functions : Functions) (old new : List Node) (i : ℕ) (init : ForInit) (n : ℕ) : Type 0 where
  pub tree : Init
  pub used : List ℕ
  pub shows : InitShows new tree init used
  pub span : Span functions old new i n used

pub record StmtsMade (functions : Functions) (old new : List Node) (i : ℕ) (list : List NodeId) (n : ℕ) : Type 0 where
  pub trees : Stmts
  pub used : List ℕ
  pub shows : StmtsShow new trees list used
  pub span : Span functions old new i n used

pub record BlockMade (functions : Functions) (old new : List Node) (i : ℕ) (node : NodeId) (n : ℕ) : Type 0 where
  pub trees : Stmts
  pub list : List NodeId
  pub used : List ℕ
  pub has : Has new node (nodes.Block list)
  pub shows : StmtsShow new trees list used
  pub span : Span functions old new i n (node.0 ∷ used)

-- both other parts of the header of a `for`, and the statement
pub record RestMade (functions : Functions) (old new : List Node) (i : ℕ) (p : Rest) : Type 0 where
  pub test : Optional
  pub update : Optional
  pub tree : Stmt
  pub test_used : List ℕ
  pub update_used : List ℕ
  pub used : List ℕ
  pub test_shows : OptionalShows new test p.test test_used
  pub update_shows : OptionalShows new update p.update update_used
  pub shows : StmtShows new tree p.node used
  pub span : Span functions old new i p.next (test_used ++ (update_used ++ used))

-- the test and the statement of an `if`
pub record BranchMade (functions : Functions) (old new : List Node) (i : ℕ) (p : Branch) : Type 0 where
  pub test : Expr
  pub tree : Stmt
  pub test_used : List ℕ
  pub used : List ℕ
  pub test_shows : Shows new test p.test test_used
  pub shows : StmtShows new tree p.body used
  pub span : Span functions old new i p.next (test_used ++ used)

-- one clause of a `switch`
pub record ArmMade (functions : Functions) (old new : List Node) (i : ℕ) (clause : Clause) (n : ℕ) : Type 0 where
  pub test : Optional
  pub trees : Stmts
  pub test_used : List ℕ
  pub used : List ℕ
  pub test_shows : OptionalShows new test clause.test test_used
  pub shows : StmtsShow new trees clause.body used
  pub span : Span functions old new i n (test_used ++ used)

pub record ClausesMade (functions : Functions) (old new : List Node) (i : ℕ) (list : List Clause) (n : ℕ) : Type 0 where
  pub trees : Clauses
  pub used : List ℕ
  pub shows : ClausesShow new trees list used
  pub span : Span functions old new i n used

-- the nodes of the tests and statements of `if`s
abbrev pub HeadsUse : List Node → List Head → List Branch → List ℕ → Type 0
HeadsUse ns [] list used = (list ≡ []) × (used ≡ [])
HeadsUse ns (h ∷ hs) list used =
    (b : Branch) × (more : List Branch) × (us vs ws : List ℕ) × (list ≡ b ∷ more) × (used ≡ (us ++ vs) ++ ws) × Shows ns h.test b.test us × StmtShows ns h.body b.body vs × HeadsUse ns hs more ws

pub record HeadsMade (functions : Functions) (old new : List Node) (i : ℕ) (list : List Branch) (n : ℕ) : Type 0 where
  pub heads : List Head
  pub used : List ℕ
  pub shows : HeadsUse new heads list used
  pub span : Span functions old new i n used

-- `if`s that are read, and the last statement behind their `else`s
pub record ChainMade (functions : Functions) (old new : List Node) (i : ℕ) (list : List Branch) (node : NodeId) (n : ℕ) : Type 0 where
  pub heads : List Head
  pub tree : Stmt
  pub heads_used : List ℕ
  pub used : List ℕ
  pub heads_show : HeadsUse new heads list heads_used
  pub shows : StmtShows new tree node used
  pub span : Span functions old new i n (heads_used ++ used)

-- the chain that a node stands for is made of the nodes of its parts and new ones
pub record IsWoven (old : List Node) (list : List Branch) (last : NodeId) (new : List Node) (node : NodeId) : Type 0 where
  pub made : (toks : List Tok) (functions : Functions) (place room : ℕ) (start : List Node) (i n : ℕ) → Holds toks functions place room start → ChainMade functions start old i list last n → StmtMade functions start new i node n

-- ---- what readers answer

abbrev pub StmtsOwn : Functions → List Node → List Node → ℕ → Result (Option Listed) OutOfMemory → Type 0
StmtsOwn functions old new i (Ok (Some p)) = StmtsMade functions old new i p.list p.next
StmtsOwn functions old new i _ = Unit {0}

abbrev pub BlockOwn : Functions → List Node → List Node → ℕ → Result (Option Spot) OutOfMemory → Type 0
BlockOwn functions old new i (Ok (Some p)) = BlockMade functions old new i p.node p.next
BlockOwn functions old new i _ = Unit {0}

abbrev pub RestOwn : Functions → List Node → List Node → ℕ → Result (Option Rest) OutOfMemory → Type 0
RestOwn functions old new i (Ok (Some p)) = RestMade functions old new i p
RestOwn functions old new i _ = Unit {0}

abbrev pub BranchOwn : Functions → List Node → List Node → ℕ → Result (Option Branch) OutOfMemory → Type 0
BranchOwn functions old new i (Ok (Some p)) = BranchMade functions old new i p
BranchOwn functions old new i _ = Unit {0}

abbrev pub HandlerOwn : Functions → List Node → List Node → ℕ → Result (Option Handled) OutOfMemory → Type 0
HandlerOwn functions old new i (Ok (Some p)) = BlockMade functions old new i p.handler.block p.next
HandlerOwn functions old new i _ = Unit {0}

abbrev pub ArmOwn : Functions → List Node → List Node → ℕ → Result (Option Arm) OutOfMemory → Type 0
ArmOwn functions old new i (Ok (Some p)) = ArmMade functions old new i p.clause p.next
ArmOwn functions old new i _ = Unit {0}

abbrev pub ClausesOwn : Functions → List Node → List Node → ℕ → Result (Option ListedClauses) OutOfMemory → Type 0
ClausesOwn functions old new i (Ok (Some p)) = ClausesMade functions old new i p.list p.next
ClausesOwn functions old new i _ = Unit {0}

-- the statement behind a block that was read before it, or behind an expression
abbrev pub BehindBlock : List Tok → Functions → ℕ → ℕ → List Node → ℕ → NodeId → ℕ → List Node → Result (Option Piece) OutOfMemory → Type 0
BehindBlock toks functions at room old i node n new r = (start : List Node) → Holds toks functions at room start → BlockMade functions start old i node n → StmtOwn functions start new at r

abbrev pub BehindExpr : List Tok → Functions → ℕ → ℕ → List Node → ℕ → NodeId → ℕ → List Node → Result (Option Piece) OutOfMemory → Type 0
BehindExpr toks functions at room old i node n new r = (start : List Node) → Holds toks functions at room start → ExprMade functions start old i node n → StmtOwn functions start new at r

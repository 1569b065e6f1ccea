-- What readers of parts of `for`, `if`, `switch` and `try` answer.
use Rattle.std.specs.Prelude.{◌≡◌, ℕ, ◌+◌, ◌<◌, ◌≤◌, true, List, length, Option, Some, None}
use Rattle.std.specs.declared.result.Result.{Result}
use Rattle.std.specs.declared.result.Result.TheVariants.{Ok, Err}
use Rattle.wjs_base.specs.declared.ids.TextId.{TextId}
use Rattle.wjs_base.specs.declared.ids.OutOfMemory.{OutOfMemory}
use Rattle.wjs_base.specs.declared.ids.NodeId.{NodeId}
use Rattle.wjs_tree.specs.declared.tokens.Tok.{Tok}
use Rattle.wjs_tree.specs.declared.node.Node.{Node}
use Rattle.wjs_tree.specs.declared.node.Node.TheVariants as nodes
use Rattle.wjs_tree.specs.Trees.{Expr, Optional, Stmt, Stmts, Clauses}
use Rattle.wjs_tree.specs.Levels.{is_target}
use Rattle.wjs_tree.specs.Formed.{is_open_if}
use Rattle.wjs_tree.specs.Children.{OptionBelow, AreBelow, ClausesBelow}
use Rattle.wjs_tree.specs.Shows.{Has, Shows, OptionalShows, StmtShows, StmtsShow, ClausesShow}
use Rattle.wjs_parse_expr.specs.declared.parts.Part.{Part}
use Rattle.wjs_parse_expr.specs.Answers.{Best}
use Rattle.wjs_parse_stmt.specs.declared.parts.Rest.{Rest}
use Rattle.wjs_parse_stmt.specs.declared.parts.Branch.{Branch}
use Rattle.wjs_parse_stmt.specs.declared.parts.Handled.{Handled}
use Rattle.wjs_parse_stmt.specs.declared.parts.Arm.{Arm}
use Rattle.wjs_parse_stmt.specs.declared.parts.ListedClauses.{ListedClauses}
use Rattle.wjs_parse_simple.specs.Readings.{StmtReading, Stops, TestForm}
use Rattle.wjs_parse_stmt.specs.Readings.{RestForm, HandlerForm, ClauseForm, ClausesForm}

-- the longest expression at the head of a `for`, where no `in` stands outside brackets
pub record FindsFirst (toks : List Tok) (room i : ℕ) (ns : List Node) (p : Part) : Type 0 where
  pub tree : Expr
  pub used : List ℕ
  pub shows : Shows ns tree p.node used
  pub target : p.is_target ≡ is_target tree
  pub best : Best toks 0 true room i tree p.next

-- both other parts of the header of a `for`, and the statement
pub record FindsRest (toks : List Tok) (room i : ℕ) (ns : List Node) (p : Rest) : Type 0 where
  pub test : Optional
  pub update : Optional
  pub stmt : Stmt
  pub test_used : List ℕ
  pub update_used : List ℕ
  pub stmt_used : List ℕ
  pub test_shows : OptionalShows ns test p.test test_used
  pub update_shows : OptionalShows ns update p.update update_used
  pub stmt_shows : StmtShows ns stmt p.node stmt_used
  pub is_open : p.is_open ≡ is_open_if stmt
  pub form : RestForm toks room i test update stmt p.next
  pub only : (o : Optional) (q : Optional) (u : Stmt) (m : ℕ) → RestForm toks room i o q u m → Stops toks m u → (o ≡ test) × (q ≡ update) × (u ≡ stmt) × (m ≡ p.next)

abbrev pub RestAnswers : List Tok → ℕ → ℕ → List Node → Result (Option Rest) OutOfMemory → Type 0
RestAnswers toks room i ns (Ok (Some p)) = FindsRest toks room i ns p
RestAnswers toks room i ns (Ok None) = (o : Optional) (q : Optional) (u : Stmt) (m : ℕ) → RestForm toks room i o q u m → Stops toks m u → ⊥
RestAnswers toks room i ns (Err e) = Unit {0}

abbrev pub RestEnds : List Tok → ℕ → List Node → Result (Option Rest) OutOfMemory → Type 0
RestEnds toks i ns (Ok (Some p)) = (i < p.next) × (p.next ≤ length toks) × OptionBelow (length ns) p.test × OptionBelow (length ns) p.update × (p.node.0 < length ns)
RestEnds toks i ns _ = Unit {0}

-- `if` with its test and statement
pub record BranchForm (toks : List Tok) (room i : ℕ) (e : Expr) (s : Stmt) (n : ℕ) : Type 0 where
  pub place : ℕ
  pub test : TestForm toks room (i + 1) e place
  pub body : StmtReading toks room place s n

pub record FindsBranch (toks : List Tok) (room i : ℕ) (ns : List Node) (p : Branch) : Type 0 where
  pub test : Expr
  pub body : Stmt
  pub test_used : List ℕ
  pub body_used : List ℕ
  pub test_shows : Shows ns test p.test test_used
  pub body_shows : StmtShows ns body p.body body_used
  pub is_open : p.is_open ≡ is_open_if body
  pub form : BranchForm toks room i test body p.next
  pub only : (e : Expr) (u : Stmt) (m : ℕ) → BranchForm toks room i e u m → Stops toks m u → (e ≡ test) × (u ≡ body) × (m ≡ p.next)

abbrev pub BranchAnswers : List Tok → ℕ → ℕ → List Node → Result (Option Branch) OutOfMemory → Type 0
BranchAnswers toks room i ns (Ok (Some p)) = FindsBranch toks room i ns p
BranchAnswers toks room i ns (Ok None) = (e : Expr) (u : Stmt) (m : ℕ) → BranchForm toks room i e u m → Stops toks m u → ⊥
BranchAnswers toks room i ns (Err e) = Unit {0}

abbrev pub BranchEnds : List Tok → ℕ → List Node → Result (Option Branch) OutOfMemory → Type 0
BranchEnds toks i ns (Ok (Some p)) = (i < p.next) × (p.next ≤ length toks) × (p.test.0 < length ns) × (p.body.0 < length ns)
BranchEnds toks i ns _ = Unit {0}

-- `catch` with its name and block
pub record FindsHandler (toks : List Tok) (room i : ℕ) (ns : List Node) (p : Handled) : Type 0 where
  pub trees : Stmts
  pub list : List NodeId
  pub used : List ℕ
  pub has : Has ns p.handler.block (nodes.Block list)
  pub shows : StmtsShow ns trees list used
  pub form : HandlerForm toks room i p.handler.name trees p.next
  pub only : (x : TextId) (us : Stmts) (m : ℕ) → HandlerForm toks room i x us m → (x ≡ p.handler.name) × (us ≡ trees) × (m ≡ p.next)

abbrev pub HandlerAnswers : List Tok → ℕ → ℕ → List Node → Result (Option Handled) OutOfMemory → Type 0
HandlerAnswers toks room i ns (Ok (Some p)) = FindsHandler toks room i ns p
HandlerAnswers toks room i ns (Ok None) = (x : TextId) (us : Stmts) (m : ℕ) → HandlerForm toks room i x us m → ⊥
HandlerAnswers toks room i ns (Err e) = Unit {0}

abbrev pub HandlerEnds : List Tok → ℕ → List Node → Result (Option Handled) OutOfMemory → Type 0
HandlerEnds toks i ns (Ok (Some p)) = (i < p.next) × (p.next ≤ length toks) × (p.handler.block.0 < length ns)
HandlerEnds toks i ns _ = Unit {0}

-- one clause of a `switch`
pub record FindsArm (toks : List Tok) (room i : ℕ) (ns : List Node) (p : Arm) : Type 0 where
  pub test : Optional
  pub body : Stmts
  pub test_used : List ℕ
  pub body_used : List ℕ
  pub test_shows : OptionalShows ns test p.clause.test test_used
  pub body_shows : StmtsShow ns body p.clause.body body_used
  pub form : ClauseForm toks room i test body p.next
  pub only : (o : Optional) (us : Stmts) (m : ℕ) → ClauseForm toks room i o us m → (o ≡ test) × (us ≡ body) × (m ≡ p.next)

abbrev pub ArmAnswers : List Tok → ℕ → ℕ → List Node → Result (Option Arm) OutOfMemory → Type 0
ArmAnswers toks room i ns (Ok (Some p)) = FindsArm toks room i ns p
ArmAnswers toks room i ns (Ok None) = (o : Optional) (us : Stmts) (m : ℕ) → ClauseForm toks room i o us m → ⊥
ArmAnswers toks room i ns (Err e) = Unit {0}

abbrev pub ArmEnds : List Tok → ℕ → List Node → Result (Option Arm) OutOfMemory → Type 0
ArmEnds toks i ns (Ok (Some p)) = (i < p.next) × OptionBelow (length ns) p.clause.test × AreBelow (length ns) p.clause.body
ArmEnds toks i ns _ = Unit {0}

-- the clauses of a `switch` up to the brace
pub record FindsClauses (toks : List Tok) (room i : ℕ) (ns : List Node) (p : ListedClauses) : Type 0 where
  pub trees : Clauses
  pub used : List ℕ
  pub shows : ClausesShow ns trees p.list used
  pub form : ClausesForm toks room i trees p.next
  pub only : (us : Clauses) (m : ℕ) → ClausesForm toks room i us m → (us ≡ trees) × (m ≡ p.next)

abbrev pub ClausesAnswers : List Tok → ℕ → ℕ → List Node → Result (Option ListedClauses) OutOfMemory → Type 0
ClausesAnswers toks room i ns (Ok (Some p)) = FindsClauses toks room i ns p
ClausesAnswers toks room i ns (Ok None) = (us : Clauses) (m : ℕ) → ClausesForm toks room i us m → ⊥
ClausesAnswers toks room i ns (Err e) = Unit {0}

abbrev pub ClausesEnds : List Tok → ℕ → List Node → Result (Option ListedClauses) OutOfMemory → Type 0
ClausesEnds toks i ns (Ok (Some p)) = (i ≤ p.next) × (p.next < length toks) × ClausesBelow (length ns) p.list
ClausesEnds toks i ns _ = Unit {0}

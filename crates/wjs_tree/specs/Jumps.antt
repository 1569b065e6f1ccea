-- Where jumps and labels may stand (ECMA-262, 3rd edition, sections 12.7 to 12.9, 12.11 and 12.12).
use Rattle.std.specs.Prelude.{◌≡◌, ℕ, suc, ◌≤◌, ◌⊎◌, Bool, true, false, List, [], ◌∷◌, Option, Some, None, Contains}
use Rattle.wjs_base.specs.declared.ids.TextId.{TextId}
use Rattle.wjs_tree.specs.Trees.{Stmt, Stmts, Clauses, Elements, Block, If, IfElse, DoWhile, While, For, ForIn, ForVarIn, Continue, Break, Return, Label, Switch, TryCatch, TryFinally, TryBoth, Within, NoStmt, MoreStmts, NoClause, Case, Default, NoElement, Statement, FunctionDecl}

-- what stands around a statement in one body
pub record Around : Type 0 where
  -- whether the body is a function's
  pub function : Bool
  -- whether a loop, and whether a `switch`, stands around it
  pub loop : Bool
  pub switch : Bool
  -- the labels around it, and those of them whose statement is a loop
  pub labels : List TextId
  pub loops : List TextId

-- nothing stands around the elements of a function, or of a program
abbrev pub outermost : Bool → Around
outermost function = record { function = function; loop = false; switch = false; labels = []; loops = [] }

abbrev pub in_loop : Around → Around
in_loop a = record a { loop = true }

abbrev pub in_switch : Around → Around
in_switch a = record a { switch = true }

-- a loop, through further labels
abbrev pub is_loop : Stmt → Bool
is_loop (DoWhile s e end) = true
is_loop (While e s) = true
is_loop (For init test update s) = true
is_loop (ForIn t e s) = true
is_loop (ForVarIn x e s) = true
is_loop (Label x s) = is_loop s
is_loop _ = false

abbrev pub if_loop : Bool → TextId → List TextId → List TextId
if_loop true x xs = x ∷ xs
if_loop false x xs = xs

-- within a label of the statement
abbrev pub in_label : TextId → Stmt → Around → Around
in_label x s a = record a { labels = x ∷ a.labels; loops = if_loop (is_loop s) x a.loops }

-- how many clauses are `default`
abbrev pub default_count : Clauses → ℕ
default_count NoClause = 0
default_count (Case e body rest) = default_count rest
default_count (Default body rest) = suc (default_count rest)

-- `break` without label
abbrev pub CanBreak : Around → Option TextId → Type 0
CanBreak a None = (a.loop ≡ true) ⊎ (a.switch ≡ true)
CanBreak a (Some x) = Contains a.labels x

-- `continue` without label
abbrev pub CanContinue : Around → Option TextId → Type 0
CanContinue a None = a.loop ≡ true
CanContinue a (Some x) = Contains a.loops x

-- The jumps of a statement have where to go, no label stands in one of the same name, and no `switch` has two defaults.
abbrev mutual
  pub JumpsRight : Around → Stmt → Type 0
  JumpsRight a (Block body) = AllJumpRight a body
  JumpsRight a (If e s) = JumpsRight a s
  JumpsRight a (IfElse e s u) = JumpsRight a s × JumpsRight a u
  JumpsRight a (DoWhile s e end) = JumpsRight (in_loop a) s
  JumpsRight a (While e s) = JumpsRight (in_loop a) s
  JumpsRight a (For init test update s) = JumpsRight (in_loop a) s
  JumpsRight a (ForIn t e s) = JumpsRight (in_loop a) s
  JumpsRight a (ForVarIn x e s) = JumpsRight (in_loop a) s
  JumpsRight a (Continue label end) = CanContinue a label
  JumpsRight a (Break label end) = CanBreak a label
  JumpsRight a (Return e end) = a.function ≡ true
  JumpsRight a (Label x s) = (¬ Contains a.labels x) × JumpsRight (in_label x s a) s
  JumpsRight a (Switch e clauses) = (default_count clauses ≤ 1) × ClausesJumpRight (in_switch a) clauses
  JumpsRight a (TryCatch b x c) = AllJumpRight a b × AllJumpRight a c
  JumpsRight a (TryFinally b f) = AllJumpRight a b × AllJumpRight a f
  JumpsRight a (TryBoth b x c f) = AllJumpRight a b × AllJumpRight a c × AllJumpRight a f
  JumpsRight a (Within e b) = AllJumpRight a b
  JumpsRight a _ = Unit {0}

  pub AllJumpRight : Around → Stmts → Type 0
  AllJumpRight a NoStmt = Unit {0}
  AllJumpRight a (MoreStmts s rest) = JumpsRight a s × AllJumpRight a rest

  pub ClausesJumpRight : Around → Clauses → Type 0
  ClausesJumpRight a NoClause = Unit {0}
  ClausesJumpRight a (Case e body rest) = AllJumpRight a body × ClausesJumpRight a rest
  ClausesJumpRight a (Default body rest) = AllJumpRight a body × ClausesJumpRight a rest

-- The same of the elements of one body; a function among them has a body of its own.
abbrev pub ElementsJumpRight : Around → Elements → Type 0
ElementsJumpRight a NoElement = Unit {0}
ElementsJumpRight a (Statement s rest) = JumpsRight a s × ElementsJumpRight a rest
ElementsJumpRight a (FunctionDecl x formals body rest) = ElementsJumpRight a rest

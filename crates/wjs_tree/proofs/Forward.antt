-- What stands at a place goes forward.
use Rattle.std.proofs.Common.{ℕ, ◌+◌, ◌<◌, ◌≤◌, true, false, List, [], ◌∷◌, Option, Some, None, arith}
use Rattle.wjs_base.specs.declared.ids.TextId.{TextId}
use Rattle.wjs_tree.specs.declared.tokens.Tok.{Tok}
use Rattle.wjs_tree.specs.declared.node.End.{End}
use Rattle.wjs_tree.specs.declared.node.End.TheVariants as ends
use Rattle.wjs_tree.specs.Trees.{Expr, Optional, Arguments, Items, Properties, Variables, Init, Stmt, Stmts, Clauses, Elements, Name, Number, Text, This, ThisWorld, Null, Boolean, Paren, ArrayLit, ObjectLit, Function, Dot, At, Call, NewWith, NewBare, Postfix, Prefix, Binary, Cond, Assign, Comma, Absent, Present, NoArgument, Argument, NoItem, Hole, Item, LastItem, NoProperty, Property, LastProperty, NoVariable, Variable, NoInit, InitExpr, InitVar, Block, Var, Empty, ExprStmt, If, IfElse, DoWhile, While, For, ForIn, ForVarIn, Continue, Break, Return, Throw, Label, Switch, TryCatch, TryFinally, TryBoth, Within, NoStmt, MoreStmts, NoClause, Case, Default, NoElement, Statement, FunctionDecl}
use Rattle.wjs_tree.specs.Levels.{ends_in_update}
use Rattle.wjs_tree.specs.Ends.{Ending, Complete, InExpr, Ends}
use Rattle.wjs_tree.specs.Spelling.{Stands, OptionalStands, ArgumentsStand, MoreArgumentsStand, ItemsStand, PropertiesStand, VariablesStand, MoreVariablesStand, InitialiserStands, InitStands, StmtStands, StmtsStand, ClausesStand, ElementsStand, NameStands, FormalsStand, MoreFormalsStand, LabelStands, last_ending}

pub name_forward : (toks : List Tok) (name : Option TextId) (i n : ℕ) → NameStands toks name i n → i ≤ n
name_forward toks None i n h = omega arith
name_forward toks (Some x) i n h = omega arith

more_formals_forward : (toks : List Tok) (xs : List TextId) (i n : ℕ) → MoreFormalsStand toks xs i n → i ≤ n
more_formals_forward toks [] i n h = omega arith
more_formals_forward toks (x ∷ xs) i n h = omega (arith, more_formals_forward toks xs (i + 2) n h.2)

pub formals_forward : (toks : List Tok) (xs : List TextId) (i n : ℕ) → FormalsStand toks xs i n → i ≤ n
formals_forward toks [] i n h = omega arith
formals_forward toks (x ∷ xs) i n h = omega (arith, more_formals_forward toks xs (i + 1) n h.1)

pub label_forward : (toks : List Tok) (label : Option TextId) (i n : ℕ) → LabelStands toks label i n → i ≤ n
label_forward toks None i n h = omega arith
label_forward toks (Some x) i n h = omega arith

pub ends_forward : (toks : List Tok) (ending : Ending) (end : End) (i n : ℕ) → Ends toks ending end i n → i ≤ n
ends_forward toks ending ends.Written i n h = omega arith
ends_forward toks ending ends.Inserted i n h = omega arith

mutual
  pub forward : (toks : List Tok) (t : Expr) (i n : ℕ) → Stands toks t i n → i < n
  forward toks (Name x) i n h = omega arith
  forward toks (Number k) i n h = omega arith
  forward toks (Text x) i n h = omega arith
  forward toks This i n h = omega arith
  forward toks ThisWorld i n h = omega arith
  forward toks Null i n h = omega arith
  forward toks (Boolean true) i n h = omega arith
  forward toks (Boolean false) i n h = omega arith
  forward toks (Paren e) i n h = omega (arith, forward toks e (i + 1) h.0 h.2)
  forward toks (ArrayLit xs) i n h = omega (arith, items_forward toks xs (i + 1) h.0 h.2)
  forward toks (ObjectLit ps) i n h = omega (arith, properties_forward toks ps (i + 1) h.0 h.2)
  forward toks (Function name formals body) i n h = omega (arith, name_forward toks name (i + 1) h.0 h.4, formals_forward toks formals (h.0 + 1) h.1 h.6, elements_forward toks body (h.1 + 2) h.2 h.9)
  forward toks (Dot e x) i n h = omega (arith, forward toks e i h.0 h.1)
  forward toks (At e j) i n h = omega (arith, forward toks e i h.0 h.2, forward toks j (h.0 + 1) h.1 h.4)
  forward toks (Call f xs) i n h = omega (arith, forward toks f i h.0 h.2, arguments_forward toks xs (h.0 + 1) h.1 h.4)
  forward toks (NewWith f xs) i n h = omega (arith, forward toks f (i + 1) h.0 h.3, arguments_forward toks xs (h.0 + 1) h.1 h.5)
  forward toks (NewBare f) i n h = omega (arith, forward toks f (i + 1) n h.1)
  forward toks (Postfix t op) i n h = omega (arith, forward toks t i h.0 h.1)
  forward toks (Prefix op e) i n h = omega (arith, forward toks e (i + 1) n h.1)
  forward toks (Binary a op b) i n h = omega (arith, forward toks a i h.0 h.1, forward toks b (h.0 + 1) n h.3)
  forward toks (Cond c a b) i n h = omega (arith, forward toks c i h.0 h.2, forward toks a (h.0 + 1) h.1 h.4, forward toks b (h.1 + 1) n h.6)
  forward toks (Assign t op e) i n h = omega (arith, forward toks t i h.0 h.1, forward toks e (h.0 + 1) n h.3)
  forward toks (Comma a b) i n h = omega (arith, forward toks a i h.0 h.1, forward toks b (h.0 + 1) n h.3)

  pub optional_forward : (toks : List Tok) (t : Optional) (i n : ℕ) → OptionalStands toks t i n → i ≤ n
  optional_forward toks Absent i n h = omega arith
  optional_forward toks (Present e) i n h = omega (arith, forward toks e i n h)

  pub arguments_forward : (toks : List Tok) (t : Arguments) (i n : ℕ) → ArgumentsStand toks t i n → i ≤ n
  arguments_forward toks NoArgument i n h = omega arith
  arguments_forward toks (Argument e rest) i n h = omega (arith, forward toks e i h.0 h.1, more_arguments_forward toks rest h.0 n h.2)

  pub more_arguments_forward : (toks : List Tok) (t : Arguments) (i n : ℕ) → MoreArgumentsStand toks t i n → i ≤ n
  more_arguments_forward toks NoArgument i n h = omega arith
  more_arguments_forward toks (Argument e rest) i n h = omega (arith, forward toks e (i + 1) h.0 h.2, more_arguments_forward toks rest h.0 n h.3)

  pub items_forward : (toks : List Tok) (t : Items) (i n : ℕ) → ItemsStand toks t i n → i ≤ n
  items_forward toks NoItem i n h = omega arith
  items_forward toks (Hole rest) i n h = omega (arith, items_forward toks rest (i + 1) n h.1)
  items_forward toks (Item e rest) i n h = omega (arith, forward toks e i h.0 h.1, items_forward toks rest (h.0 + 1) n h.3)
  items_forward toks (LastItem e) i n h = omega (arith, forward toks e i n h)

  pub properties_forward : (toks : List Tok) (t : Properties) (i n : ℕ) → PropertiesStand toks t i n → i ≤ n
  properties_forward toks NoProperty i n h = omega arith
  properties_forward toks (Property key e rest) i n h = omega (arith, forward toks e (i + 2) h.0 h.3, properties_forward toks rest (h.0 + 1) n h.5)
  properties_forward toks (LastProperty key e) i n h = omega (arith, forward toks e (i + 2) n h.2)

  pub variables_forward : (toks : List Tok) (t : Variables) (i n : ℕ) → VariablesStand toks t i n → i ≤ n
  variables_forward toks NoVariable i n h = omega arith
  variables_forward toks (Variable x e rest) i n h = omega (arith, initialiser_forward toks e (i + 1) h.0 h.2, more_variables_forward toks rest h.0 n h.3)

  pub more_variables_forward : (toks : List Tok) (t : Variables) (i n : ℕ) → MoreVariablesStand toks t i n → i ≤ n
  more_variables_forward toks NoVariable i n h = omega arith
  more_variables_forward toks (Variable x e rest) i n h = omega (arith, initialiser_forward toks e (i + 2) h.0 h.3, more_variables_forward toks rest h.0 n h.4)

  pub initialiser_forward : (toks : List Tok) (t : Optional) (i n : ℕ) → InitialiserStands toks t i n → i ≤ n
  initialiser_forward toks Absent i n h = omega arith
  initialiser_forward toks (Present e) i n h = omega (arith, forward toks e (i + 1) n h.1)

  pub init_forward : (toks : List Tok) (t : Init) (i n : ℕ) → InitStands toks t i n → i ≤ n
  init_forward toks NoInit i n h = omega arith
  init_forward toks (InitExpr e) i n h = omega (arith, forward toks e i n h)
  init_forward toks (InitVar vs) i n h = omega (arith, variables_forward toks vs (i + 1) n h.1)

  pub stmt_forward : (toks : List Tok) (t : Stmt) (i n : ℕ) → StmtStands toks t i n → i ≤ n
  stmt_forward toks (Block body) i n h = omega (arith, stmts_forward toks body (i + 1) h.0 h.2)
  stmt_forward toks (Var vs end) i n h = omega (arith, variables_forward toks vs (i + 1) h.0 h.2, ends_forward toks (last_ending vs) end h.0 n h.3)
  stmt_forward toks Empty i n h = omega arith
  stmt_forward toks (ExprStmt e end) i n h = omega (arith, forward toks e i h.0 h.1, ends_forward toks (InExpr (ends_in_update e)) end h.0 n h.2)
  stmt_forward toks (If e s) i n h = omega (arith, forward toks e (i + 2) h.0 h.3, stmt_forward toks s (h.0 + 1) n h.5)
  stmt_forward toks (IfElse e s u) i n h = omega (arith, forward toks e (i + 2) h.0 h.4, stmt_forward toks s (h.0 + 1) h.1 h.6, stmt_forward toks u (h.1 + 1) n h.8)
  stmt_forward toks (DoWhile s e end) i n h = omega (arith, stmt_forward toks s (i + 1) h.0 h.3, forward toks e (h.0 + 2) h.1 h.6, ends_forward toks Complete end (h.1 + 1) n h.8)
  stmt_forward toks (While e s) i n h = omega (arith, forward toks e (i + 2) h.0 h.3, stmt_forward toks s (h.0 + 1) n h.5)
  stmt_forward toks (For init test update s) i n h = omega (arith, init_forward toks init (i + 2) h.0 h.5, optional_forward toks test (h.0 + 1) h.1 h.7, optional_forward toks update (h.1 + 1) h.2 h.9, stmt_forward toks s (h.2 + 1) n h.11)
  stmt_forward toks (ForIn t e s) i n h = omega (arith, forward toks t (i + 2) h.0 h.4, forward toks e (h.0 + 1) h.1 h.6, stmt_forward toks s (h.1 + 1) n h.8)
  stmt_forward toks (ForVarIn x e s) i n h = omega (arith, forward toks e (i + 5) h.0 h.6, stmt_forward toks s (h.0 + 1) n h.8)
  stmt_forward toks (Continue label end) i n h = omega (arith, label_forward toks label (i + 1) h.0 h.2, ends_forward toks Complete end h.0 n h.3)
  stmt_forward toks (Break label end) i n h = omega (arith, label_forward toks label (i + 1) h.0 h.2, ends_forward toks Complete end h.0 n h.3)
  stmt_forward toks (Return Absent end) i n h = omega (arith, ends_forward toks Complete end (i + 1) n h.1)
  stmt_forward toks (Return (Present e) end) i n h = omega (arith, forward toks e (i + 1) h.0 h.3, ends_forward toks (InExpr (ends_in_update e)) end h.0 n h.4)
  stmt_forward toks (Throw e end) i n h = omega (arith, forward toks e (i + 1) h.0 h.3, ends_forward toks (InExpr (ends_in_update e)) end h.0 n h.4)
  stmt_forward toks (Label x s) i n h = omega (arith, stmt_forward toks s (i + 2) n h.2)
  stmt_forward toks (Switch e clauses) i n h = omega (arith, forward toks e (i + 2) h.0 h.4, clauses_forward toks clauses (h.0 + 2) h.1 h.7)
  stmt_forward toks (TryCatch b x c) i n h = omega (arith, stmts_forward toks b (i + 2) h.0 h.4, stmts_forward toks c (h.0 + 6) h.1 h.11)
  stmt_forward toks (TryFinally b f) i n h = omega (arith, stmts_forward toks b (i + 2) h.0 h.4, stmts_forward toks f (h.0 + 3) h.1 h.8)
  stmt_forward toks (TryBoth b x c f) i n h = omega (arith, stmts_forward toks b (i + 2) h.0 h.5, stmts_forward toks c (h.0 + 6) h.1 h.12, stmts_forward toks f (h.1 + 3) h.2 h.16)
  stmt_forward toks (Within e b) i n h = omega (arith, forward toks e (i + 1) h.0 h.3, stmts_forward toks b (h.0 + 1) h.1 h.5)

  pub stmts_forward : (toks : List Tok) (t : Stmts) (i n : ℕ) → StmtsStand toks t i n → i ≤ n
  stmts_forward toks NoStmt i n h = omega arith
  stmts_forward toks (MoreStmts s rest) i n h = omega (arith, stmt_forward toks s i h.0 h.1, stmts_forward toks rest h.0 n h.2)

  pub clauses_forward : (toks : List Tok) (t : Clauses) (i n : ℕ) → ClausesStand toks t i n → i ≤ n
  clauses_forward toks NoClause i n h = omega arith
  clauses_forward toks (Case e body rest) i n h = omega (arith, forward toks e (i + 1) h.0 h.3, stmts_forward toks body (h.0 + 1) h.1 h.5, clauses_forward toks rest h.1 n h.6)
  clauses_forward toks (Default body rest) i n h = omega (arith, stmts_forward toks body (i + 2) h.0 h.3, clauses_forward toks rest h.0 n h.4)

  pub elements_forward : (toks : List Tok) (t : Elements) (i n : ℕ) → ElementsStand toks t i n → i ≤ n
  elements_forward toks NoElement i n h = omega arith
  elements_forward toks (Statement s rest) i n h = omega (arith, stmt_forward toks s i h.0 h.1, elements_forward toks rest h.0 n h.2)
  elements_forward toks (FunctionDecl x formals body rest) i n h = omega (arith, formals_forward toks formals (i + 3) h.0 h.5, elements_forward toks body (h.0 + 2) h.1 h.8, elements_forward toks rest (h.1 + 1) n h.10)

-- The height of a tree, which is at most 200: a left part counts as it is, any other part one more.
use Rattle.std.specs.Prelude.{ℕ, suc, max}
use Rattle.wjs_tree.specs.Trees.{Expr, Optional, Arguments, Items, Properties, Variables, Init, Stmt, Stmts, Clauses, Elements, Name, Number, Text, This, ThisWorld, Null, Boolean, Paren, ArrayLit, ObjectLit, Function, Dot, At, Call, NewWith, NewBare, Postfix, Prefix, Binary, Cond, Assign, Comma, Absent, Present, NoArgument, Argument, NoItem, Hole, Item, LastItem, NoProperty, Property, LastProperty, NoVariable, Variable, NoInit, InitExpr, InitVar, Block, Var, Empty, ExprStmt, If, IfElse, DoWhile, While, For, ForIn, ForVarIn, Continue, Break, Return, Throw, Label, Switch, TryCatch, TryFinally, TryBoth, Within, NoStmt, MoreStmts, NoClause, Case, Default, NoElement, Statement, FunctionDecl}

-- The left parts are the left operand of a binary operator, a comma or a choice, the target of an assignment or of a
-- postfix sign, the base of a property or a call, and what stands behind `else`.
abbrev mutual
  pub height : Expr → ℕ
  height (Paren e) = suc (height e)
  height (ArrayLit xs) = suc (items_height xs)
  height (ObjectLit ps) = suc (properties_height ps)
  height (Function name formals body) = suc (elements_height body)
  height (Dot e x) = height e
  height (At e i) = max (height e) (suc (height i))
  height (Call f xs) = max (height f) (suc (arguments_height xs))
  height (NewWith f xs) = suc (max (height f) (arguments_height xs))
  height (NewBare f) = suc (height f)
  height (Postfix t s) = height t
  height (Prefix s e) = suc (height e)
  height (Binary a op b) = max (height a) (suc (height b))
  height (Cond c a b) = max (height c) (suc (max (height a) (height b)))
  height (Assign t op e) = max (height t) (suc (height e))
  height (Comma a b) = max (height a) (suc (height b))
  height (Name x) = 1
  height (Number n) = 1
  height (Text x) = 1
  height This = 1
  height ThisWorld = 1
  height Null = 1
  height (Boolean b) = 1

  -- the greatest height in a list, 0 where it is empty
  pub optional_height : Optional → ℕ
  optional_height Absent = 0
  optional_height (Present e) = height e

  pub arguments_height : Arguments → ℕ
  arguments_height NoArgument = 0
  arguments_height (Argument e rest) = max (height e) (arguments_height rest)

  pub items_height : Items → ℕ
  items_height NoItem = 0
  items_height (Hole rest) = items_height rest
  items_height (Item e rest) = max (height e) (items_height rest)
  items_height (LastItem e) = height e

  pub properties_height : Properties → ℕ
  properties_height NoProperty = 0
  properties_height (Property key e rest) = max (height e) (properties_height rest)
  properties_height (LastProperty key e) = height e

  pub variables_height : Variables → ℕ
  variables_height NoVariable = 0
  variables_height (Variable x e rest) = max (optional_height e) (variables_height rest)

  pub init_height : Init → ℕ
  init_height NoInit = 0
  init_height (InitExpr e) = height e
  init_height (InitVar vs) = variables_height vs

  pub stmt_height : Stmt → ℕ
  stmt_height (Block body) = suc (stmts_height body)
  stmt_height (Var vs end) = suc (variables_height vs)
  stmt_height Empty = 1
  stmt_height (ExprStmt e end) = suc (height e)
  stmt_height (If e s) = suc (max (height e) (stmt_height s))
  stmt_height (IfElse e s u) = max (suc (max (height e) (stmt_height s))) (stmt_height u)
  stmt_height (DoWhile s e end) = suc (max (stmt_height s) (height e))
  stmt_height (While e s) = suc (max (height e) (stmt_height s))
  stmt_height (For init test update s) = suc (max (max (init_height init) (optional_height test)) (max (optional_height update) (stmt_height s)))
  stmt_height (ForIn t e s) = suc (max (max (height t) (height e)) (stmt_height s))
  stmt_height (ForVarIn x e s) = suc (max (height e) (stmt_height s))
  stmt_height (Continue label end) = 1
  stmt_height (Break label end) = 1
  stmt_height (Return e end) = suc (optional_height e)
  stmt_height (Throw e end) = suc (height e)
  stmt_height (Label x s) = suc (stmt_height s)
  stmt_height (Switch e clauses) = suc (max (height e) (clauses_height clauses))
  stmt_height (TryCatch b x c) = suc (max (suc (stmts_height b)) (suc (stmts_height c)))
  stmt_height (TryFinally b f) = suc (max (suc (stmts_height b)) (suc (stmts_height f)))
  stmt_height (TryBoth b x c f) = suc (max (suc (stmts_height b)) (max (suc (stmts_height c)) (suc (stmts_height f))))
  stmt_height (Within e b) = suc (max (height e) (suc (stmts_height b)))

  pub stmts_height : Stmts → ℕ
  stmts_height NoStmt = 0
  stmts_height (MoreStmts s rest) = max (stmt_height s) (stmts_height rest)

  pub clauses_height : Clauses → ℕ
  clauses_height NoClause = 0
  clauses_height (Case e body rest) = max (max (height e) (stmts_height body)) (clauses_height rest)
  clauses_height (Default body rest) = max (stmts_height body) (clauses_height rest)

  pub elements_height : Elements → ℕ
  elements_height NoElement = 0
  elements_height (Statement s rest) = max (stmt_height s) (elements_height rest)
  elements_height (FunctionDecl x formals body rest) = max (suc (elements_height body)) (elements_height rest)

-- the greatest height of an element
abbrev pub program_height : Elements → ℕ
program_height body = max 1 (elements_height body)

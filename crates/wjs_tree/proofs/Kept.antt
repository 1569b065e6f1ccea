-- Trees stay where nodes are added.
use Rattle.std.specs.Prelude.{ℕ, List, Option}
use Rattle.std.proofs.Common.{arith}
use Rattle.wjs_base.specs.declared.ids.NodeId.{NodeId}
use Rattle.wjs_tree.specs.declared.node.Node.{Node}
use Rattle.wjs_tree.specs.declared.node.Property.{Property as Pair}
use Rattle.wjs_tree.specs.declared.node.Declarator.{Declarator}
use Rattle.wjs_tree.specs.declared.node.ForInit.{ForInit}
use Rattle.wjs_tree.specs.declared.node.Clause.{Clause}
use Rattle.wjs_tree.specs.Trees.{Expr, Optional, Arguments, Items, Properties, Variables, Init, Stmt, Stmts, Clauses, Elements, Name, Number, Text, This, ThisWorld, Null, Boolean, Paren, ArrayLit, ObjectLit, Function, Dot, At, Call, NewWith, NewBare, Postfix, Prefix, Binary, Cond, Assign, Comma, Absent, Present, NoArgument, Argument, NoItem, Hole, Item, LastItem, NoProperty, Property, LastProperty, NoVariable, Variable, NoInit, InitExpr, InitVar, Block, Var, Empty, ExprStmt, If, IfElse, DoWhile, While, For, ForIn, ForVarIn, Continue, Break, Return, Throw, Label, Switch, TryCatch, TryFinally, TryBoth, Within, NoStmt, MoreStmts, NoClause, Case, Default, NoElement, Statement, FunctionDecl}
use Rattle.wjs_tree.specs.Shows.{Shows, OptionalShows, ArgumentsShow, ItemsShow, PropertiesShow, VariablesShow, InitShows, StmtShows, StmtsShow, ClausesShow, ElementsShow, Keeps}

pub keeps_both : (a b c : List Node) → Keeps a b → Keeps b c → Keeps a c
keeps_both a b c k l = record { same = λ i n h. l.same i n (k.same i n h); longer = (let p = k.longer in let q = l.longer in omega arith) }

pub keeps_self : (a : List Node) → Keeps a a
keeps_self a = record { same = λ i n h. h; longer = omega arith }

mutual
  pub kept : (a b : List Node) → Keeps a b → (t : Expr) (i : NodeId) (used : List ℕ) → Shows a t i used → Shows b t i used
  kept a b k (Name x) i used h = (k.same i.0 _ h.0, h.1)
  kept a b k (Number k') i used h = (k.same i.0 _ h.0, h.1)
  kept a b k (Text x) i used h = (k.same i.0 _ h.0, h.1)
  kept a b k This i used h = (k.same i.0 _ h.0, h.1)
  kept a b k ThisWorld i used h = (k.same i.0 _ h.0, h.1)
  kept a b k Null i used h = (k.same i.0 _ h.0, h.1)
  kept a b k (Boolean b') i used h = (k.same i.0 _ h.0, h.1)
  kept a b k (Paren e) i used h = (h.0, h.1, k.same i.0 _ h.2, h.3, kept a b k e h.0 h.1 h.4)
  kept a b k (ArrayLit xs) i used h = (h.0, h.1, k.same i.0 _ h.2, h.3, items_kept a b k xs h.0 h.1 h.4)
  kept a b k (ObjectLit ps) i used h = (h.0, h.1, k.same i.0 _ h.2, h.3, properties_kept a b k ps h.0 h.1 h.4)
  kept a b k (Function name formals body) i used h = (h.0, h.1, k.same i.0 _ h.2, h.3, elements_kept a b k body h.0 h.1 h.4)
  kept a b k (Dot e x) i used h = (h.0, h.1, k.same i.0 _ h.2, h.3, kept a b k e h.0 h.1 h.4)
  kept a b k (At e j) i used h = (h.0, h.1, h.2, h.3, k.same i.0 _ h.4, h.5, kept a b k e h.0 h.2 h.6, kept a b k j h.1 h.3 h.7)
  kept a b k (Call f xs) i used h = (h.0, h.1, h.2, h.3, k.same i.0 _ h.4, h.5, kept a b k f h.0 h.2 h.6, arguments_kept a b k xs h.1 h.3 h.7)
  kept a b k (NewWith f xs) i used h = (h.0, h.1, h.2, h.3, k.same i.0 _ h.4, h.5, kept a b k f h.0 h.2 h.6, arguments_kept a b k xs h.1 h.3 h.7)
  kept a b k (NewBare f) i used h = (h.0, h.1, k.same i.0 _ h.2, h.3, kept a b k f h.0 h.1 h.4)
  kept a b k (Postfix t op) i used h = (h.0, h.1, k.same i.0 _ h.2, h.3, kept a b k t h.0 h.1 h.4)
  kept a b k (Prefix op e) i used h = (h.0, h.1, k.same i.0 _ h.2, h.3, kept a b k e h.0 h.1 h.4)
  kept a b k (Binary l op r) i used h = (h.0, h.1, h.2, h.3, k.same i.0 _ h.4, h.5, kept a b k l h.0 h.2 h.6, kept a b k r h.1 h.3 h.7)
  kept a b k (Cond c x y) i used h = (h.0, h.1, h.2, h.3, h.4, h.5, k.same i.0 _ h.6, h.7, kept a b k c h.0 h.3 h.8, kept a b k x h.1 h.4 h.9, kept a b k y h.2 h.5 h.10)
  kept a b k (Assign t op e) i used h = (h.0, h.1, h.2, h.3, k.same i.0 _ h.4, h.5, kept a b k t h.0 h.2 h.6, kept a b k e h.1 h.3 h.7)
  kept a b k (Comma l r) i used h = (h.0, h.1, h.2, h.3, k.same i.0 _ h.4, h.5, kept a b k l h.0 h.2 h.6, kept a b k r h.1 h.3 h.7)

  pub optional_kept : (a b : List Node) → Keeps a b → (t : Optional) (i : Option NodeId) (used : List ℕ) → OptionalShows a t i used → OptionalShows b t i used
  optional_kept a b k Absent i used h = h
  optional_kept a b k (Present e) i used h = (h.0, h.1, kept a b k e h.0 used h.2)

  pub arguments_kept : (a b : List Node) → Keeps a b → (t : Arguments) (i : List NodeId) (used : List ℕ) → ArgumentsShow a t i used → ArgumentsShow b t i used
  arguments_kept a b k NoArgument i used h = h
  arguments_kept a b k (Argument e rest) i used h = (h.0, h.1, h.2, h.3, h.4, h.5, kept a b k e h.0 h.2 h.6, arguments_kept a b k rest h.1 h.3 h.7)

  pub items_kept : (a b : List Node) → Keeps a b → (t : Items) (i : List (Option NodeId)) (used : List ℕ) → ItemsShow a t i used → ItemsShow b t i used
  items_kept a b k NoItem i used h = h
  items_kept a b k (Hole rest) i used h = (h.0, h.1, items_kept a b k rest h.0 used h.2)
  items_kept a b k (Item e rest) i used h = (h.0, h.1, h.2, h.3, h.4, h.5, kept a b k e h.0 h.2 h.6, items_kept a b k rest h.1 h.3 h.7)
  items_kept a b k (LastItem e) i used h = (h.0, h.1, kept a b k e h.0 used h.2)

  pub properties_kept : (a b : List Node) → Keeps a b → (t : Properties) (i : List Pair) (used : List ℕ) → PropertiesShow a t i used → PropertiesShow b t i used
  properties_kept a b k NoProperty i used h = h
  properties_kept a b k (Property key e rest) i used h = (h.0, h.1, h.2, h.3, h.4, h.5, kept a b k e h.0 h.2 h.6, properties_kept a b k rest h.1 h.3 h.7)
  properties_kept a b k (LastProperty key e) i used h = (h.0, h.1, kept a b k e h.0 used h.2)

  pub variables_kept : (a b : List Node) → Keeps a b → (t : Variables) (i : List Declarator) (used : List ℕ) → VariablesShow a t i used → VariablesShow b t i used
  variables_kept a b k NoVariable i used h = h
  variables_kept a b k (Variable x e rest) i used h = (h.0, h.1, h.2, h.3, h.4, h.5, optional_kept a b k e h.0 h.2 h.6, variables_kept a b k rest h.1 h.3 h.7)

  pub init_kept : (a b : List Node) → Keeps a b → (t : Init) (i : ForInit) (used : List ℕ) → InitShows a t i used → InitShows b t i used
  init_kept a b k NoInit i used h = h
  init_kept a b k (InitExpr e) i used h = (h.0, h.1, kept a b k e h.0 used h.2)
  init_kept a b k (InitVar vs) i used h = (h.0, h.1, variables_kept a b k vs h.0 used h.2)

  pub stmt_kept : (a b : List Node) → Keeps a b → (t : Stmt) (i : NodeId) (used : List ℕ) → StmtShows a t i used → StmtShows b t i used
  stmt_kept a b k (Block body) i used h = (h.0, h.1, k.same i.0 _ h.2, h.3, stmts_kept a b k body h.0 h.1 h.4)
  stmt_kept a b k (Var vs end) i used h = (h.0, h.1, k.same i.0 _ h.2, h.3, variables_kept a b k vs h.0 h.1 h.4)
  stmt_kept a b k Empty i used h = (k.same i.0 _ h.0, h.1)
  stmt_kept a b k (ExprStmt e end) i used h = (h.0, h.1, k.same i.0 _ h.2, h.3, kept a b k e h.0 h.1 h.4)
  stmt_kept a b k (If e s) i used h = (h.0, h.1, h.2, h.3, k.same i.0 _ h.4, h.5, kept a b k e h.0 h.2 h.6, stmt_kept a b k s h.1 h.3 h.7)
  stmt_kept a b k (IfElse e s u) i used h = (h.0, h.1, h.2, h.3, h.4, h.5, k.same i.0 _ h.6, h.7, kept a b k e h.0 h.3 h.8, stmt_kept a b k s h.1 h.4 h.9, stmt_kept a b k u h.2 h.5 h.10)
  stmt_kept a b k (DoWhile s e end) i used h = (h.0, h.1, h.2, h.3, k.same i.0 _ h.4, h.5, stmt_kept a b k s h.0 h.2 h.6, kept a b k e h.1 h.3 h.7)
  stmt_kept a b k (While e s) i used h = (h.0, h.1, h.2, h.3, k.same i.0 _ h.4, h.5, kept a b k e h.0 h.2 h.6, stmt_kept a b k s h.1 h.3 h.7)
  stmt_kept a b k (For init test update s) i used h = (h.0, h.1, h.2, h.3, h.4, h.5, h.6, h.7, k.same i.0 _ h.8, h.9, init_kept a b k init h.0 h.4 h.10, optional_kept a b k test h.1 h.5 h.11, optional_kept a b k update h.2 h.6 h.12, stmt_kept a b k s h.3 h.7 h.13)
  stmt_kept a b k (ForIn t e s) i used h = (h.0, h.1, h.2, h.3, h.4, h.5, k.same i.0 _ h.6, h.7, kept a b k t h.0 h.3 h.8, kept a b k e h.1 h.4 h.9, stmt_kept a b k s h.2 h.5 h.10)
  stmt_kept a b k (ForVarIn x e s) i used h = (h.0, h.1, h.2, h.3, k.same i.0 _ h.4, h.5, kept a b k e h.0 h.2 h.6, stmt_kept a b k s h.1 h.3 h.7)
  stmt_kept a b k (Continue label end) i used h = (k.same i.0 _ h.0, h.1)
  stmt_kept a b k (Break label end) i used h = (k.same i.0 _ h.0, h.1)
  stmt_kept a b k (Return e end) i used h = (h.0, h.1, k.same i.0 _ h.2, h.3, optional_kept a b k e h.0 h.1 h.4)
  stmt_kept a b k (Throw e end) i used h = (h.0, h.1, k.same i.0 _ h.2, h.3, kept a b k e h.0 h.1 h.4)
  stmt_kept a b k (Label x s) i used h = (h.0, h.1, k.same i.0 _ h.2, h.3, stmt_kept a b k s h.0 h.1 h.4)
  stmt_kept a b k (Switch e clauses) i used h = (h.0, h.1, h.2, h.3, k.same i.0 _ h.4, h.5, kept a b k e h.0 h.2 h.6, clauses_kept a b k clauses h.1 h.3 h.7)
  stmt_kept a b k (TryCatch b' x c) i used h = (h.0, h.1, h.2, h.3, h.4, h.5, k.same i.0 _ h.6, h.7, k.same h.0.0 _ h.8, stmts_kept a b k b' h.2 h.4 h.9, k.same h.1.0 _ h.10, stmts_kept a b k c h.3 h.5 h.11)
  stmt_kept a b k (TryFinally b' f) i used h = (h.0, h.1, h.2, h.3, h.4, h.5, k.same i.0 _ h.6, h.7, k.same h.0.0 _ h.8, stmts_kept a b k b' h.2 h.4 h.9, k.same h.1.0 _ h.10, stmts_kept a b k f h.3 h.5 h.11)
  stmt_kept a b k (TryBoth b' x c f) i used h = (h.0, h.1, h.2, h.3, h.4, h.5, h.6, h.7, h.8, k.same i.0 _ h.9, h.10, k.same h.0.0 _ h.11, stmts_kept a b k b' h.3 h.6 h.12, k.same h.1.0 _ h.13, stmts_kept a b k c h.4 h.7 h.14, k.same h.2.0 _ h.15, stmts_kept a b k f h.5 h.8 h.16)
  stmt_kept a b k (Within e b') i used h = (h.0, h.1, h.2, h.3, h.4, k.same i.0 _ h.5, h.6, kept a b k e h.0 h.3 h.7, k.same h.1.0 _ h.8, stmts_kept a b k b' h.2 h.4 h.9)

  pub stmts_kept : (a b : List Node) → Keeps a b → (t : Stmts) (i : List NodeId) (used : List ℕ) → StmtsShow a t i used → StmtsShow b t i used
  stmts_kept a b k NoStmt i used h = h
  stmts_kept a b k (MoreStmts s rest) i used h = (h.0, h.1, h.2, h.3, h.4, h.5, stmt_kept a b k s h.0 h.2 h.6, stmts_kept a b k rest h.1 h.3 h.7)

  pub clauses_kept : (a b : List Node) → Keeps a b → (t : Clauses) (i : List Clause) (used : List ℕ) → ClausesShow a t i used → ClausesShow b t i used
  clauses_kept a b k NoClause i used h = h
  clauses_kept a b k (Case e body rest) i used h = (h.0, h.1, h.2, h.3, h.4, h.5, h.6, h.7, kept a b k e h.0 h.3 h.8, stmts_kept a b k body h.1 h.4 h.9, clauses_kept a b k rest h.2 h.5 h.10)
  clauses_kept a b k (Default body rest) i used h = (h.0, h.1, h.2, h.3, h.4, h.5, stmts_kept a b k body h.0 h.2 h.6, clauses_kept a b k rest h.1 h.3 h.7)

  pub elements_kept : (a b : List Node) → Keeps a b → (t : Elements) (i : List NodeId) (used : List ℕ) → ElementsShow a t i used → ElementsShow b t i used
  elements_kept a b k NoElement i used h = h
  elements_kept a b k (Statement s rest) i used h = (h.0, h.1, h.2, h.3, h.4, h.5, stmt_kept a b k s h.0 h.2 h.6, elements_kept a b k rest h.1 h.3 h.7)
  elements_kept a b k (FunctionDecl x formals body rest) i used h = (h.0, h.1, h.2, h.3, h.4, h.5, h.6, k.same h.0.0 _ h.7, elements_kept a b k body h.1 h.3 h.8, elements_kept a b k rest h.2 h.4 h.9)

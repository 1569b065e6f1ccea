-- How tightly a tree binds, how it begins and ends, and how high it is, don't depend on the numbers of its texts.
use Rattle.std.specs.Prelude.{◌≡◌, suc, min, max}
use Rattle.std.proofs.Common.{refl}
use Rattle.wjs_base.specs.declared.ids.TextId.{TextId}
use Rattle.wjs_tree.specs.Trees.{Expr, Optional, Arguments, Items, Properties, Variables, Init, Stmt, Stmts, Clauses, Elements, Name, Number, Text, This, ThisWorld, Null, Boolean, Paren, ArrayLit, ObjectLit, Function, Dot, At, Call, NewWith, NewBare, Postfix, Prefix, Binary, Cond, Assign, Comma, Absent, Present, NoArgument, Argument, NoItem, Hole, Item, LastItem, NoProperty, Property, LastProperty, NoVariable, Variable, NoInit, InitExpr, InitVar, Block, Var, Empty, ExprStmt, If, IfElse, DoWhile, While, For, ForIn, ForVarIn, Continue, Break, Return, Throw, Label, Switch, TryCatch, TryFinally, TryBoth, Within, NoStmt, MoreStmts, NoClause, Case, Default, NoElement, Statement, FunctionDecl}
use Rattle.wjs_tree.specs.Levels.{level, is_target, is_bare, starts_with_brace, ends_in_update}
use Rattle.wjs_tree.specs.Ends.{InExpr}
use Rattle.wjs_tree.specs.Spelling.{last_ending}
use Rattle.wjs_tree.specs.Formed.{is_open_if}
use Rattle.wjs_tree.specs.Jumps.{is_loop, default_count}
use Rattle.wjs_tree.specs.Height.{height, optional_height, arguments_height, items_height, properties_height, variables_height, init_height, stmt_height, stmts_height, clauses_height, elements_height, program_height}
use Rattle.wjs_programs.proofs.Renaming.{renamed, optional_renamed, arguments_renamed, items_renamed, properties_renamed, variables_renamed, init_renamed, stmt_renamed, stmts_renamed, clauses_renamed, elements_renamed}

module _ (r : TextId → TextId) where
  pub same_level : (e : Expr) → level (renamed r e) ≡ level e
  same_level (Dot e x) = λ i. min (same_level e i) 17
  same_level (At e j) = λ i. min (same_level e i) 17
  same_level _ = refl

  pub same_target : (e : Expr) → is_target (renamed r e) ≡ is_target e
  same_target (Paren e) = same_target e
  same_target _ = refl

  pub same_bare : (e : Expr) → is_bare (renamed r e) ≡ is_bare e
  same_bare (NewBare f) = refl
  same_bare _ = refl

  pub same_start : (e : Expr) → starts_with_brace (renamed r e) ≡ starts_with_brace e
  same_start (Dot e x) = same_start e
  same_start (At e i) = same_start e
  same_start (Call f xs) = same_start f
  same_start (Postfix t s) = same_start t
  same_start (Binary a op b) = same_start a
  same_start (Cond c a b) = same_start c
  same_start (Assign t op e) = same_start t
  same_start (Comma a b) = same_start a
  same_start _ = refl

  same_end : (e : Expr) → ends_in_update (renamed r e) ≡ ends_in_update e
  same_end (Prefix s e) = same_end e
  same_end (Binary a op b) = same_end b
  same_end (Cond c a b) = same_end b
  same_end (Assign t op e) = same_end e
  same_end (Comma a b) = same_end b
  same_end _ = refl

  pub same_ending : (e : Expr) → InExpr (ends_in_update (renamed r e)) ≡ InExpr (ends_in_update e)
  same_ending e = λ i. InExpr (same_end e i)

  pub same_last : (vs : Variables) → last_ending (variables_renamed r vs) ≡ last_ending vs
  same_last NoVariable = refl
  same_last (Variable x Absent NoVariable) = refl
  same_last (Variable x (Present e) NoVariable) = same_ending e
  same_last (Variable x Absent (Variable y f rest)) = same_last (Variable y f rest)
  same_last (Variable x (Present e) (Variable y f rest)) = same_last (Variable y f rest)

  pub same_open_if : (s : Stmt) → is_open_if (stmt_renamed r s) ≡ is_open_if s
  same_open_if (IfElse e s u) = same_open_if u
  same_open_if (While e s) = same_open_if s
  same_open_if (For first test update s) = same_open_if s
  same_open_if (ForIn t e s) = same_open_if s
  same_open_if (ForVarIn x e s) = same_open_if s
  same_open_if (Label x s) = same_open_if s
  same_open_if _ = refl

  pub same_loop : (s : Stmt) → is_loop (stmt_renamed r s) ≡ is_loop s
  same_loop (Label x s) = same_loop s
  same_loop _ = refl

  pub same_defaults : (list : Clauses) → default_count (clauses_renamed r list) ≡ default_count list
  same_defaults NoClause = refl
  same_defaults (Case e body rest) = same_defaults rest
  same_defaults (Default body rest) = λ i. suc (same_defaults rest i)

  mutual
    same_height : (e : Expr) → height (renamed r e) ≡ height e
    same_height (Paren e) = λ i. suc (same_height e i)
    same_height (ArrayLit xs) = λ i. suc (same_items_height xs i)
    same_height (ObjectLit ps) = λ i. suc (same_properties_height ps i)
    same_height (Function name formals body) = λ i. suc (same_elements_height body i)
    same_height (Dot e x) = same_height e
    same_height (At e j) = λ i. max (same_height e i) (suc (same_height j i))
    same_height (Call f xs) = λ i. max (same_height f i) (suc (same_arguments_height xs i))
    same_height (NewWith f xs) = λ i. suc (max (same_height f i) (same_arguments_height xs i))
    same_height (NewBare f) = λ i. suc (same_height f i)
    same_height (Postfix t s) = same_height t
    same_height (Prefix s e) = λ i. suc (same_height e i)
    same_height (Binary a op b) = λ i. max (same_height a i) (suc (same_height b i))
    same_height (Cond c a b) = λ i. max (same_height c i) (suc (max (same_height a i) (same_height b i)))
    same_height (Assign t op e) = λ i. max (same_height t i) (suc (same_height e i))
    same_height (Comma a b) = λ i. max (same_height a i) (suc (same_height b i))
    same_height (Name x) = refl
    same_height (Number n) = refl
    same_height (Text x) = refl
    same_height This = refl
    same_height ThisWorld = refl
    same_height Null = refl
    same_height (Boolean b) = refl

    same_optional_height : (t : Optional) → optional_height (optional_renamed r t) ≡ optional_height t
    same_optional_height Absent = refl
    same_optional_height (Present e) = same_height e

    same_arguments_height : (t : Arguments) → arguments_height (arguments_renamed r t) ≡ arguments_height t
    same_arguments_height NoArgument = refl
    same_arguments_height (Argument e rest) = λ i. max (same_height e i) (same_arguments_height rest i)

    same_items_height : (t : Items) → items_height (items_renamed r t) ≡ items_height t
    same_items_height NoItem = refl
    same_items_height (Hole rest) = same_items_height rest
    same_items_height (Item e rest) = λ i. max (same_height e i) (same_items_height rest i)
    same_items_height (LastItem e) = same_height e

    same_properties_height : (t : Properties) → properties_height (properties_renamed r t) ≡ properties_height t
    same_properties_height NoProperty = refl
    same_properties_height (Property key e rest) = λ i. max (same_height e i) (same_properties_height rest i)
    same_properties_height (LastProperty key e) = same_height e

    same_variables_height : (t : Variables) → variables_height (variables_renamed r t) ≡ variables_height t
    same_variables_height NoVariable = refl
    same_variables_height (Variable x e rest) = λ i. max (same_optional_height e i) (same_variables_height rest i)

    same_init_height : (t : Init) → init_height (init_renamed r t) ≡ init_height t
    same_init_height NoInit = refl
    same_init_height (InitExpr e) = same_height e
    same_init_height (InitVar vs) = same_variables_height vs

    same_stmt_height : (t : Stmt) → stmt_height (stmt_renamed r t) ≡ stmt_height t
    same_stmt_height (Block body) = λ i. suc (same_stmts_height body i)
    same_stmt_height (Var vs end) = λ i. suc (same_variables_height vs i)
    same_stmt_height Empty = refl
    same_stmt_height (ExprStmt e end) = λ i. suc (same_height e i)
    same_stmt_height (If e s) = λ i. suc (max (same_height e i) (same_stmt_height s i))
    same_stmt_height (IfElse e s u) = λ i. max (suc (max (same_height e i) (same_stmt_height s i))) (same_stmt_height u i)
    same_stmt_height (DoWhile s e end) = λ i. suc (max (same_stmt_height s i) (same_height e i))
    same_stmt_height (While e s) = λ i. suc (max (same_height e i) (same_stmt_height s i))
    same_stmt_height (For first test update s) = λ i. suc (max (max (same_init_height first i) (same_optional_height test i)) (max (same_optional_height update i) (same_stmt_height s i)))
    same_stmt_height (ForIn t e s) = λ i. suc (max (max (same_height t i) (same_height e i)) (same_stmt_height s i))
    same_stmt_height (ForVarIn x e s) = λ i. suc (max (same_height e i) (same_stmt_height s i))
    same_stmt_height (Continue label end) = refl
    same_stmt_height (Break label end) = refl
    same_stmt_height (Return e end) = λ i. suc (same_optional_height e i)
    same_stmt_height (Throw e end) = λ i. suc (same_height e i)
    same_stmt_height (Label x s) = λ i. suc (same_stmt_height s i)
    same_stmt_height (Switch e list) = λ i. suc (max (same_height e i) (same_clauses_height list i))
    same_stmt_height (TryCatch b x c) = λ i. suc (max (suc (same_stmts_height b i)) (suc (same_stmts_height c i)))
    same_stmt_height (TryFinally b f) = λ i. suc (max (suc (same_stmts_height b i)) (suc (same_stmts_height f i)))
    same_stmt_height (TryBoth b x c f) = λ i. suc (max (suc (same_stmts_height b i)) (max (suc (same_stmts_height c i)) (suc (same_stmts_height f i))))
    same_stmt_height (Within e b) = λ i. suc (max (same_height e i) (suc (same_stmts_height b i)))

    same_stmts_height : (t : Stmts) → stmts_height (stmts_renamed r t) ≡ stmts_height t
    same_stmts_height NoStmt = refl
    same_stmts_height (MoreStmts s rest) = λ i. max (same_stmt_height s i) (same_stmts_height rest i)

    same_clauses_height : (t : Clauses) → clauses_height (clauses_renamed r t) ≡ clauses_height t
    same_clauses_height NoClause = refl
    same_clauses_height (Case e body rest) = λ i. max (max (same_height e i) (same_stmts_height body i)) (same_clauses_height rest i)
    same_clauses_height (Default body rest) = λ i. max (same_stmts_height body i) (same_clauses_height rest i)

    same_elements_height : (t : Elements) → elements_height (elements_renamed r t) ≡ elements_height t
    same_elements_height NoElement = refl
    same_elements_height (Statement s rest) = λ i. max (same_stmt_height s i) (same_elements_height rest i)
    same_elements_height (FunctionDecl x formals body rest) = λ i. max (suc (same_elements_height body i)) (same_elements_height rest i)

  pub same_program_height : (t : Elements) → program_height (elements_renamed r t) ≡ program_height t
  same_program_height t = λ i. max 1 (same_elements_height t i)

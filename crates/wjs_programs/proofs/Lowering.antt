-- In a program's tree each node stands behind its parts, and a Paren and a Label right behind theirs.
use Rattle.std.specs.Prelude.{◌≡◌, ℕ, suc, ◌-◌, ◌≤◌, List, [], ◌∷◌, length, None}
use Rattle.std.proofs.Common.{arith}
use Rattle.wjs_base.specs.Text.{Table}
use Rattle.wjs_tree.specs.Trees.{Expr, Optional, Arguments, Items, Properties, Variables, Init, Stmt, Stmts, Clauses, Elements, Name, Number, Text, This, ThisWorld, Null, Boolean, Paren, ArrayLit, ObjectLit, Function, Dot, At, Call, NewWith, NewBare, Postfix, Prefix, Binary, Cond, Assign, Comma, Absent, Present, NoArgument, Argument, NoItem, Hole, Item, LastItem, NoProperty, Property, LastProperty, NoVariable, Variable, NoInit, InitExpr, InitVar, Block, Var, Empty, ExprStmt, If, IfElse, DoWhile, While, For, ForIn, ForVarIn, Continue, Break, Return, Throw, Label, Switch, TryCatch, TryFinally, TryBoth, Within, NoStmt, MoreStmts, NoClause, Case, Default, NoElement, Statement, FunctionDecl}
use Rattle.wjs_by_content.specs.Tables.{text_in}
use Rattle.wjs_meaning.specs.Trees as node
use Rattle.wjs_programs.specs.Numbered.{Scopes, Entry, within, block, expr, optional, arguments, items, properties, variables, init, stmt, stmts, clauses, elements}
use Rattle.wjs_programs.proofs.Over.{clause_parts, Falls, nothing, only, both, node_over}

-- a part stands right before the node
right_before : {k : ℕ} {l others : List Entry} → Falls (k - 1) ((k - 1) ∷ []) l others → length l ≤ k → k ≡ suc (k - 1)
right_before p fits = let some = p.low.0.1 in omega arith

block_over : {k : ℕ} {ids more : List ℕ} {l others : List Entry} → Falls (k - 1) ids l others → Falls k (k ∷ []) (block (ids, l)) (block (more, others))
block_over {ids = ids} {more = more} p = node_over (node.Block ids) (node.Block more) [] [] (λ P a. a) (λ h. tt) p

module _ (texts : Table) where
  mutual
    pub expr_falls : (around : Scopes) (k j : ℕ) (t : Expr) → Falls k (k ∷ []) (expr texts around k t) (expr texts around j t)
    expr_falls around k j (Name x) = node_over _ _ _ _ (λ P a. tt) (λ h. tt) (nothing (k - 1))
    expr_falls around k j (Number n) = node_over _ _ _ _ (λ P a. tt) (λ h. tt) (nothing (k - 1))
    expr_falls around k j (Text x) = node_over _ _ _ _ (λ P a. tt) (λ h. tt) (nothing (k - 1))
    expr_falls around k j This = node_over _ _ _ _ (λ P a. tt) (λ h. tt) (nothing (k - 1))
    expr_falls around k j ThisWorld = node_over _ _ _ _ (λ P a. tt) (λ h. tt) (nothing (k - 1))
    expr_falls around k j Null = node_over _ _ _ _ (λ P a. tt) (λ h. tt) (nothing (k - 1))
    expr_falls around k j (Boolean b) = node_over _ _ _ _ (λ P a. tt) (λ h. tt) (nothing (k - 1))
    expr_falls around k j (Paren e) = let p = expr_falls around (k - 1) (j - 1) e in node_over _ _ _ _ (λ P a. a) (right_before p) p
    expr_falls around k j (ArrayLit xs) = node_over _ _ _ _ (λ P a. tt) (λ h. tt) (items_falls around (k - 1) (j - 1) xs)
    expr_falls around k j (ObjectLit ps) = node_over _ _ _ _ (λ P a. tt) (λ h. tt) (properties_falls around (k - 1) (j - 1) ps)
    expr_falls around k j (Function name formals body) = node_over _ _ _ _ (λ P a. tt) (λ h. tt) (elements_falls (within texts name formals body around) (k - 1) (j - 1) body)
    expr_falls around k j (Dot e x) = node_over _ _ _ _ (λ P a. tt) (λ h. tt) (expr_falls around (k - 1) (j - 1) e)
    expr_falls around k j (NewBare e) = node_over _ _ _ _ (λ P a. tt) (λ h. tt) (expr_falls around (k - 1) (j - 1) e)
    expr_falls around k j (Postfix e op) = node_over _ _ _ _ (λ P a. tt) (λ h. tt) (expr_falls around (k - 1) (j - 1) e)
    expr_falls around k j (Prefix op e) = node_over _ _ _ _ (λ P a. tt) (λ h. tt) (expr_falls around (k - 1) (j - 1) e)
    expr_falls around k j (At a b) = node_over _ _ _ _ (λ P a. tt) (λ h. tt) (both (expr_falls around (k - 1) (j - 1) a) (expr_falls around _ _ b))
    expr_falls around k j (Call a b) = node_over _ _ _ _ (λ P a. tt) (λ h. tt) (both (expr_falls around (k - 1) (j - 1) a) (arguments_falls around _ _ b))
    expr_falls around k j (NewWith a b) = node_over _ _ _ _ (λ P a. tt) (λ h. tt) (both (expr_falls around (k - 1) (j - 1) a) (arguments_falls around _ _ b))
    expr_falls around k j (Binary a op b) = node_over _ _ _ _ (λ P a. tt) (λ h. tt) (both (expr_falls around (k - 1) (j - 1) a) (expr_falls around _ _ b))
    expr_falls around k j (Assign a op b) = node_over _ _ _ _ (λ P a. tt) (λ h. tt) (both (expr_falls around (k - 1) (j - 1) a) (expr_falls around _ _ b))
    expr_falls around k j (Comma a b) = node_over _ _ _ _ (λ P a. tt) (λ h. tt) (both (expr_falls around (k - 1) (j - 1) a) (expr_falls around _ _ b))
    expr_falls around k j (Cond c a b) = node_over _ _ _ _ (λ P a. tt) (λ h. tt) (both (expr_falls around (k - 1) (j - 1) c) (both (expr_falls around _ _ a) (expr_falls around _ _ b)))

    pub optional_falls : (around : Scopes) (k j : ℕ) (t : Optional) → Falls k [] (optional texts around k t).1 (optional texts around j t).1
    optional_falls around k j Absent = nothing k
    optional_falls around k j (Present e) = only (λ P a. tt) (expr_falls around k j e)

    pub arguments_falls : (around : Scopes) (k j : ℕ) (t : Arguments) → Falls k [] (arguments texts around k t).1 (arguments texts around j t).1
    arguments_falls around k j NoArgument = nothing k
    arguments_falls around k j (Argument e rest) = only (λ P a. tt) (both (expr_falls around k j e) (arguments_falls around _ _ rest))

    pub items_falls : (around : Scopes) (k j : ℕ) (t : Items) → Falls k [] (items texts around k t).1 (items texts around j t).1
    items_falls around k j NoItem = nothing k
    items_falls around k j (Hole rest) = items_falls around k j rest
    items_falls around k j (Item e rest) = only (λ P a. tt) (both (expr_falls around k j e) (items_falls around _ _ rest))
    items_falls around k j (LastItem e) = only (λ P a. tt) (expr_falls around k j e)

    pub properties_falls : (around : Scopes) (k j : ℕ) (t : Properties) → Falls k [] (properties texts around k t).1 (properties texts around j t).1
    properties_falls around k j NoProperty = nothing k
    properties_falls around k j (Property key e rest) = only (λ P a. tt) (both (expr_falls around k j e) (properties_falls around _ _ rest))
    properties_falls around k j (LastProperty key e) = only (λ P a. tt) (expr_falls around k j e)

    pub variables_falls : (around : Scopes) (k j : ℕ) (t : Variables) → Falls k [] (variables texts around k t).1 (variables texts around j t).1
    variables_falls around k j NoVariable = nothing k
    variables_falls around k j (Variable x e rest) = both (optional_falls around k j e) (variables_falls around _ _ rest)

    pub init_falls : (around : Scopes) (k j : ℕ) (t : Init) → Falls k [] (init texts around k t).1 (init texts around j t).1
    init_falls around k j NoInit = nothing k
    init_falls around k j (InitExpr e) = only (λ P a. tt) (expr_falls around k j e)
    init_falls around k j (InitVar vs) = variables_falls around k j vs

    pub stmt_falls : (around : Scopes) (k j : ℕ) (t : Stmt) → Falls k (k ∷ []) (stmt texts around k t) (stmt texts around j t)
    stmt_falls around k j (Block body) = node_over _ _ _ _ (λ P a. a) (λ h. tt) (stmts_falls around (k - 1) (j - 1) body)
    stmt_falls around k j (Var vs end) = node_over _ _ _ _ (λ P a. tt) (λ h. tt) (variables_falls around (k - 1) (j - 1) vs)
    stmt_falls around k j Empty = node_over _ _ _ _ (λ P a. tt) (λ h. tt) (nothing (k - 1))
    stmt_falls around k j (ExprStmt e end) = node_over _ _ _ _ (λ P a. tt) (λ h. tt) (expr_falls around (k - 1) (j - 1) e)
    stmt_falls around k j (If e s) = node_over _ _ _ _ (λ P a. a.1) (λ h. tt) (both (expr_falls around (k - 1) (j - 1) e) (stmt_falls around _ _ s))
    stmt_falls around k j (IfElse e s u) = node_over _ _ _ _ (λ P a. a.1) (λ h. tt) (both (expr_falls around (k - 1) (j - 1) e) (both (stmt_falls around _ _ s) (stmt_falls around _ _ u)))
    stmt_falls around k j (DoWhile s e end) = node_over _ _ _ _ (λ P a. (a.0, tt)) (λ h. tt) (both (stmt_falls around (k - 1) (j - 1) s) (expr_falls around _ _ e))
    stmt_falls around k j (While e s) = node_over _ _ _ _ (λ P a. a.1) (λ h. tt) (both (expr_falls around (k - 1) (j - 1) e) (stmt_falls around _ _ s))
    stmt_falls around k j (For first test update s) = node_over _ _ _ _ (λ P a. a) (λ h. tt) (both (init_falls around (k - 1) (j - 1) first) (both (optional_falls around _ _ test) (both (optional_falls around _ _ update) (stmt_falls around _ _ s))))
    stmt_falls around k j (ForIn t e s) = node_over _ _ _ _ (λ P a. a.1.1) (λ h. tt) (both (expr_falls around (k - 1) (j - 1) t) (both (expr_falls around _ _ e) (stmt_falls around _ _ s)))
    stmt_falls around k j (ForVarIn x e s) = node_over _ _ _ _ (λ P a. a.1) (λ h. tt) (both (expr_falls around (k - 1) (j - 1) e) (stmt_falls around _ _ s))
    stmt_falls around k j (Continue label end) = node_over _ _ _ _ (λ P a. tt) (λ h. tt) (nothing (k - 1))
    stmt_falls around k j (Break label end) = node_over _ _ _ _ (λ P a. tt) (λ h. tt) (nothing (k - 1))
    stmt_falls around k j (Return e end) = node_over _ _ _ _ (λ P a. tt) (λ h. tt) (optional_falls around (k - 1) (j - 1) e)
    stmt_falls around k j (Throw e end) = node_over _ _ _ _ (λ P a. tt) (λ h. tt) (expr_falls around (k - 1) (j - 1) e)
    stmt_falls around k j (Label x s) = let p = stmt_falls around (k - 1) (j - 1) s in node_over _ _ _ _ (λ P a. a) (right_before p) p
    stmt_falls around k j (Switch e list) = node_over _ _ _ _ (λ P a. a.1) (λ h. tt) (both (expr_falls around (k - 1) (j - 1) e) (clauses_falls around _ _ list))
    stmt_falls around k j (TryCatch b x c) = node_over _ _ _ _ (λ P a. a) (λ h. tt) (both (block_over (stmts_falls around _ _ b)) (block_over (stmts_falls ((text_in texts x ∷ []) ∷ around) _ _ c)))
    stmt_falls around k j (TryFinally b f) = node_over _ _ _ _ (λ P a. a) (λ h. tt) (both (block_over (stmts_falls around _ _ b)) (block_over (stmts_falls around _ _ f)))
    stmt_falls around k j (TryBoth b x c f) = node_over _ _ _ _ (λ P a. a) (λ h. tt) (both (block_over (stmts_falls around _ _ b)) (both (block_over (stmts_falls ((text_in texts x ∷ []) ∷ around) _ _ c)) (block_over (stmts_falls around _ _ f))))
    stmt_falls around k j (Within e b) = node_over _ _ _ _ (λ P a. a.1) (λ h. tt) (both (expr_falls around (k - 1) (j - 1) e) (block_over (stmts_falls around _ _ b)))

    stmts_falls : (around : Scopes) (k j : ℕ) (t : Stmts) → Falls k (stmts texts around k t).0 (stmts texts around k t).1 (stmts texts around j t).1
    stmts_falls around k j NoStmt = nothing k
    stmts_falls around k j (MoreStmts s rest) = both (stmt_falls around k j s) (stmts_falls around _ _ rest)

    clauses_falls : (around : Scopes) (k j : ℕ) (t : Clauses) → Falls k (clause_parts (clauses texts around k t).0) (clauses texts around k t).1 (clauses texts around j t).1
    clauses_falls around k j NoClause = nothing k
    clauses_falls around k j (Case e body rest) = both {ids = []} (only (λ P a. tt) (expr_falls around k j e)) (both (stmts_falls around _ _ body) (clauses_falls around _ _ rest))
    clauses_falls around k j (Default body rest) = both (stmts_falls around k j body) (clauses_falls around _ _ rest)

    pub elements_falls : (around : Scopes) (k j : ℕ) (t : Elements) → Falls k [] (elements texts around k t).1 (elements texts around j t).1
    elements_falls around k j NoElement = nothing k
    elements_falls around k j (Statement s rest) = only (λ P a. tt) (both (stmt_falls around k j s) (elements_falls around _ _ rest))
    elements_falls around k j (FunctionDecl x formals body rest) = only (λ P a. tt) (both (node_over _ _ _ _ (λ P a. tt) (λ h. tt) (elements_falls (within texts None formals body around) (k - 1) (j - 1) body)) (elements_falls around _ _ rest))

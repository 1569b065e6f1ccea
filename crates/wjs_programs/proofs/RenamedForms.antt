-- A well-formed tree stays so with other numbers for its texts.
use Rattle.std.specs.Prelude.{◌≡◌, ℕ, ◌+◌, ◌≤◌, ◌⊎◌, Bool, true, false}
use Rattle.std.proofs.Common.{subst, sym, ◌∙◌, inl, inr}
use Rattle.wjs_base.specs.declared.ids.TextId.{TextId}
use Rattle.wjs_tree.specs.Trees.{Expr, Optional, Arguments, Items, Properties, Variables, Init, Stmt, Stmts, Clauses, Elements, Name, Number, Text, This, ThisWorld, Null, Boolean, Paren, ArrayLit, ObjectLit, Function, Dot, At, Call, NewWith, NewBare, Postfix, Prefix, Binary, Cond, Assign, Comma, Absent, Present, NoArgument, Argument, NoItem, Hole, Item, LastItem, NoProperty, Property, LastProperty, NoVariable, Variable, NoInit, InitExpr, InitVar, Block, Var, Empty, ExprStmt, If, IfElse, DoWhile, While, For, ForIn, ForVarIn, Continue, Break, Return, Throw, Label, Switch, TryCatch, TryFinally, TryBoth, Within, NoStmt, MoreStmts, NoClause, Case, Default, NoElement, Statement, FunctionDecl}
use Rattle.wjs_tree.specs.Operators.{binary_level}
use Rattle.wjs_tree.specs.Levels.{level, is_target, is_bare}
use Rattle.wjs_tree.specs.Jumps.{outermost}
use Rattle.wjs_tree.specs.Formed.{AreSome, WellFormed, OptionalFormed, InitialiserFormed, ArgumentsFormed, ItemsFormed, PropertiesFormed, VariablesFormed, InitFormed, StmtFormed, StmtsFormed, ClausesFormed, ElementsFormed, ProgramFormed}
use Rattle.wjs_programs.proofs.Renaming.{renamed, optional_renamed, arguments_renamed, items_renamed, properties_renamed, variables_renamed, init_renamed, stmt_renamed, stmts_renamed, clauses_renamed, elements_renamed}
use Rattle.wjs_programs.proofs.RenamedLevels.{same_level, same_target, same_bare, same_start, same_open_if, same_program_height}
use Rattle.wjs_programs.proofs.RenamedJumps.{elements_jump}

module _ (r : TextId → TextId) (injective : (x y : TextId) → r x ≡ r y → x ≡ y) where
  binds : (k : ℕ) (e : Expr) → k ≤ level e → k ≤ level (renamed r e)
  binds k e h = subst (λ n. k ≤ n) (sym (same_level r e)) h

  target : (e : Expr) → is_target e ≡ true → is_target (renamed r e) ≡ true
  target e h = same_target r e ∙ h

  bare : (f : Expr) → (17 ≤ level f) ⊎ (is_bare f ≡ true) → (17 ≤ level (renamed r f)) ⊎ (is_bare (renamed r f) ≡ true)
  bare f (inl h) = inl (binds 17 f h)
  bare f (inr h) = inr (same_bare r f ∙ h)

  some : (vs : Variables) → AreSome vs → AreSome (variables_renamed r vs)
  some NoVariable h = h
  some (Variable x e rest) h = h

  mutual
    formed : (no_in : Bool) (t : Expr) → WellFormed no_in t → WellFormed no_in (renamed r t)
    formed no_in (Name x) h = h
    formed no_in (Number k) h = h
    formed no_in (Text x) h = h
    formed no_in This h = h
    formed no_in ThisWorld h = h
    formed no_in Null h = h
    formed no_in (Boolean b) h = h
    formed no_in (Paren e) h = formed false e h
    formed no_in (ArrayLit xs) h = items_formed xs h
    formed no_in (ObjectLit ps) h = properties_formed ps h
    formed no_in (Function name formals body) h = (elements_formed body h.0, elements_jump r injective (outermost true) body h.1)
    formed no_in (Dot e x) h = (binds 16 e h.0, formed no_in e h.1)
    formed no_in (At e i) h = (binds 16 e h.0, formed no_in e h.1, formed false i h.2)
    formed no_in (Call f xs) h = (binds 16 f h.0, formed no_in f h.1, arguments_formed xs h.2)
    formed no_in (NewWith f xs) h = (binds 17 f h.0, formed no_in f h.1, arguments_formed xs h.2)
    formed no_in (NewBare f) h = (bare f h.0, formed no_in f h.1)
    formed no_in (Postfix t op) h = (target t h.0, binds 15 t h.1, formed no_in t h.2)
    formed no_in (Prefix op e) h = (binds 13 e h.0, λ is. target e (h.1 is), formed no_in e h.2)
    formed no_in (Binary a op b) h = (h.0, binds (binary_level op) a h.1, binds (binary_level op + 1) b h.2, formed no_in a h.3, formed no_in b h.4)
    formed no_in (Cond c a b) h = (binds 3 c h.0, binds 1 a h.1, binds 1 b h.2, formed no_in c h.3, formed false a h.4, formed no_in b h.5)
    formed no_in (Assign t op e) h = (target t h.0, binds 15 t h.1, binds 1 e h.2, formed no_in t h.3, formed no_in e h.4)
    formed no_in (Comma a b) h = (binds 1 b h.0, formed no_in a h.1, formed no_in b h.2)

    optional_formed : (t : Optional) → OptionalFormed t → OptionalFormed (optional_renamed r t)
    optional_formed Absent h = h
    optional_formed (Present e) h = formed false e h

    initialiser_formed : (no_in : Bool) (t : Optional) → InitialiserFormed no_in t → InitialiserFormed no_in (optional_renamed r t)
    initialiser_formed no_in Absent h = h
    initialiser_formed no_in (Present e) h = (binds 1 e h.0, formed no_in e h.1)

    arguments_formed : (t : Arguments) → ArgumentsFormed t → ArgumentsFormed (arguments_renamed r t)
    arguments_formed NoArgument h = h
    arguments_formed (Argument e rest) h = (binds 1 e h.0, formed false e h.1, arguments_formed rest h.2)

    items_formed : (t : Items) → ItemsFormed t → ItemsFormed (items_renamed r t)
    items_formed NoItem h = h
    items_formed (Hole rest) h = items_formed rest h
    items_formed (Item e rest) h = (binds 1 e h.0, formed false e h.1, items_formed rest h.2)
    items_formed (LastItem e) h = (binds 1 e h.0, formed false e h.1)

    properties_formed : (t : Properties) → PropertiesFormed t → PropertiesFormed (properties_renamed r t)
    properties_formed NoProperty h = h
    properties_formed (Property key e rest) h = (binds 1 e h.0, formed false e h.1, properties_formed rest h.2)
    properties_formed (LastProperty key e) h = (binds 1 e h.0, formed false e h.1)

    variables_formed : (no_in : Bool) (t : Variables) → VariablesFormed no_in t → VariablesFormed no_in (variables_renamed r t)
    variables_formed no_in NoVariable h = h
    variables_formed no_in (Variable x e rest) h = (initialiser_formed no_in e h.0, variables_formed no_in rest h.1)

    init_formed : (t : Init) → InitFormed t → InitFormed (init_renamed r t)
    init_formed NoInit h = h
    init_formed (InitExpr e) h = formed true e h
    init_formed (InitVar vs) h = (some vs h.0, variables_formed true vs h.1)

    stmt_formed : (t : Stmt) → StmtFormed t → StmtFormed (stmt_renamed r t)
    stmt_formed (Block body) h = stmts_formed body h
    stmt_formed (Var vs end) h = (some vs h.0, variables_formed false vs h.1)
    stmt_formed Empty h = h
    stmt_formed (ExprStmt e end) h = (same_start r e ∙ h.0, formed false e h.1)
    stmt_formed (If e s) h = (formed false e h.0, stmt_formed s h.1)
    stmt_formed (IfElse e s u) h = (formed false e h.0, same_open_if r s ∙ h.1, stmt_formed s h.2, stmt_formed u h.3)
    stmt_formed (DoWhile s e end) h = (stmt_formed s h.0, formed false e h.1)
    stmt_formed (While e s) h = (formed false e h.0, stmt_formed s h.1)
    stmt_formed (For first test update s) h = (init_formed first h.0, optional_formed test h.1, optional_formed update h.2, stmt_formed s h.3)
    stmt_formed (ForIn t e s) h = (target t h.0, binds 15 t h.1, formed false t h.2, formed false e h.3, stmt_formed s h.4)
    stmt_formed (ForVarIn x e s) h = (formed false e h.0, stmt_formed s h.1)
    stmt_formed (Continue label end) h = h
    stmt_formed (Break label end) h = h
    stmt_formed (Return e end) h = optional_formed e h
    stmt_formed (Throw e end) h = formed false e h
    stmt_formed (Label x s) h = stmt_formed s h
    stmt_formed (Switch e list) h = (formed false e h.0, clauses_formed list h.1)
    stmt_formed (TryCatch b x c) h = (stmts_formed b h.0, stmts_formed c h.1)
    stmt_formed (TryFinally b f) h = (stmts_formed b h.0, stmts_formed f h.1)
    stmt_formed (TryBoth b x c f) h = (stmts_formed b h.0, stmts_formed c h.1, stmts_formed f h.2)
    stmt_formed (Within e b) h = (formed false e h.0, stmts_formed b h.1)

    stmts_formed : (t : Stmts) → StmtsFormed t → StmtsFormed (stmts_renamed r t)
    stmts_formed NoStmt h = h
    stmts_formed (MoreStmts s rest) h = (stmt_formed s h.0, stmts_formed rest h.1)

    clauses_formed : (t : Clauses) → ClausesFormed t → ClausesFormed (clauses_renamed r t)
    clauses_formed NoClause h = h
    clauses_formed (Case e body rest) h = (formed false e h.0, stmts_formed body h.1, clauses_formed rest h.2)
    clauses_formed (Default body rest) h = (stmts_formed body h.0, clauses_formed rest h.1)

    elements_formed : (t : Elements) → ElementsFormed t → ElementsFormed (elements_renamed r t)
    elements_formed NoElement h = h
    elements_formed (Statement s rest) h = (stmt_formed s h.0, elements_formed rest h.1)
    elements_formed (FunctionDecl x formals body rest) h = (elements_formed body h.0, elements_jump r injective (outermost true) body h.1, elements_formed rest h.2)

  pub program_formed : (body : Elements) → ProgramFormed body → ProgramFormed (elements_renamed r body)
  program_formed body h = record {
    formed = elements_formed body h.formed;
    jumps = elements_jump r injective (outermost false) body h.jumps;
    height = subst (λ n. n ≤ 200) (sym (same_program_height r body)) h.height;
  }

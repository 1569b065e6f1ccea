-- What holds of each text that a name or a string among the tokens gives holds of each text in a tree that they spell.
use Rattle.std.specs.Prelude.{ℕ, ◌+◌, List, [], ◌∷◌, Option, None, Some}
use Rattle.wjs_base.specs.declared.ids.TextId.{TextId}
use Rattle.wjs_tree.specs.declared.tokens.Tok.{Tok}
use Rattle.wjs_tree.specs.declared.tokens.Token.TheVariants as tokens
use Rattle.wjs_tree.specs.declared.node.Spelt.{Spelt}
use Rattle.wjs_tree.specs.declared.node.Spelt.TheVariants as spelt
use Rattle.wjs_tree.specs.declared.node.PropertyKey.{PropertyKey}
use Rattle.wjs_tree.specs.declared.node.PropertyKey.TheVariants as keys
use Rattle.wjs_tree.specs.Trees.{Expr, Optional, Arguments, Items, Properties, Variables, Init, Stmt, Stmts, Clauses, Elements, Name, Number, Text, This, ThisWorld, Null, Boolean, Paren, ArrayLit, ObjectLit, Function, Dot, At, Call, NewWith, NewBare, Postfix, Prefix, Binary, Cond, Assign, Comma, Absent, Present, NoArgument, Argument, NoItem, Hole, Item, LastItem, NoProperty, Property, LastProperty, NoVariable, Variable, NoInit, InitExpr, InitVar, Block, Var, Empty, ExprStmt, If, IfElse, DoWhile, While, For, ForIn, ForVarIn, Continue, Break, Return, Throw, Label, Switch, TryCatch, TryFinally, TryBoth, Within, NoStmt, MoreStmts, NoClause, Case, Default, NoElement, Statement, FunctionDecl}
use Rattle.wjs_tree.specs.Ends.{HasToken}
use Rattle.wjs_tree.specs.Spelling.{Stands, OptionalStands, ArgumentsStand, MoreArgumentsStand, ItemsStand, PropertiesStand, VariablesStand, MoreVariablesStand, InitialiserStands, InitStands, StmtStands, StmtsStand, ClausesStand, ElementsStand, NameStands, FormalsStand, MoreFormalsStand, LabelStands, spelt_token, property_token}
use Rattle.wjs_programs.proofs.Names.{OptionNames, ListNames, SpeltNames, KeyNames, Names, OptionalNames, ArgumentsNames, ItemsNames, PropertiesNames, VariablesNames, InitNames, StmtNames, StmtsNames, ClausesNames, ElementsNames}

module _ (toks : List Tok) (P : TextId → Type 0) (words : (i : ℕ) (x : TextId) → HasToken toks i (tokens.Word x) → P x) (texts : (i : ℕ) (x : TextId) → HasToken toks i (tokens.Text x) → P x) where
  spelt_names : (s : Spelt) (i : ℕ) → HasToken toks i (spelt_token s) → SpeltNames P s
  spelt_names (spelt.Word x) i h = words i x h
  spelt_names (spelt.Key k) i h = tt

  key_names : (key : PropertyKey) (i : ℕ) → HasToken toks i (property_token key) → KeyNames P key
  key_names (keys.Spelt s) i h = spelt_names s i h
  key_names (keys.Text x) i h = texts i x h
  key_names (keys.Number n) i h = tt

  name_names : (name : Option TextId) (i n : ℕ) → NameStands toks name i n → OptionNames P name
  name_names None i n h = tt
  name_names (Some x) i n h = words i x h.0

  label_names : (label : Option TextId) (i n : ℕ) → LabelStands toks label i n → OptionNames P label
  label_names None i n h = tt
  label_names (Some x) i n h = words i x h.0

  more_formals_names : (formals : List TextId) (i n : ℕ) → MoreFormalsStand toks formals i n → ListNames P formals
  more_formals_names [] i n h = tt
  more_formals_names (x ∷ xs) i n h = (words (i + 1) x h.1, more_formals_names xs (i + 2) n h.2)

  formals_names : (formals : List TextId) (i n : ℕ) → FormalsStand toks formals i n → ListNames P formals
  formals_names [] i n h = tt
  formals_names (x ∷ xs) i n h = (words i x h.0, more_formals_names xs (i + 1) n h.1)

  mutual
    expr_names : (t : Expr) (i n : ℕ) → Stands toks t i n → Names P t
    expr_names (Name x) i n h = words i x h.0
    expr_names (Number k) i n h = tt
    expr_names (Text x) i n h = texts i x h.0
    expr_names This i n h = tt
    expr_names ThisWorld i n h = tt
    expr_names Null i n h = tt
    expr_names (Boolean b) i n h = tt
    expr_names (Paren e) i n h = expr_names e (i + 1) h.0 h.2
    expr_names (ArrayLit xs) i n h = items_names xs (i + 1) h.0 h.2
    expr_names (ObjectLit ps) i n h = properties_names ps (i + 1) h.0 h.2
    expr_names (Function name formals body) i n h = (name_names name (i + 1) h.0 h.4, formals_names formals (h.0 + 1) h.1 h.6, stand_names body (h.1 + 2) h.2 h.9)
    expr_names (Dot e x) i n h = (expr_names e i h.0 h.1, spelt_names x (h.0 + 1) h.3)
    expr_names (At e j) i n h = (expr_names e i h.0 h.2, expr_names j (h.0 + 1) h.1 h.4)
    expr_names (Call f xs) i n h = (expr_names f i h.0 h.2, arguments_names xs (h.0 + 1) h.1 h.4)
    expr_names (NewWith f xs) i n h = (expr_names f (i + 1) h.0 h.3, arguments_names xs (h.0 + 1) h.1 h.5)
    expr_names (NewBare f) i n h = expr_names f (i + 1) n h.1
    expr_names (Postfix t op) i n h = expr_names t i h.0 h.1
    expr_names (Prefix op e) i n h = expr_names e (i + 1) n h.1
    expr_names (Binary a op b) i n h = (expr_names a i h.0 h.1, expr_names b (h.0 + 1) n h.3)
    expr_names (Cond c a b) i n h = (expr_names c i h.0 h.2, expr_names a (h.0 + 1) h.1 h.4, expr_names b (h.1 + 1) n h.6)
    expr_names (Assign t op e) i n h = (expr_names t i h.0 h.1, expr_names e (h.0 + 1) n h.3)
    expr_names (Comma a b) i n h = (expr_names a i h.0 h.1, expr_names b (h.0 + 1) n h.3)

    optional_names : (t : Optional) (i n : ℕ) → OptionalStands toks t i n → OptionalNames P t
    optional_names Absent i n h = tt
    optional_names (Present e) i n h = expr_names e i n h

    arguments_names : (t : Arguments) (i n : ℕ) → ArgumentsStand toks t i n → ArgumentsNames P t
    arguments_names NoArgument i n h = tt
    arguments_names (Argument e rest) i n h = (expr_names e i h.0 h.1, more_arguments_names rest h.0 n h.2)

    more_arguments_names : (t : Arguments) (i n : ℕ) → MoreArgumentsStand toks t i n → ArgumentsNames P t
    more_arguments_names NoArgument i n h = tt
    more_arguments_names (Argument e rest) i n h = (expr_names e (i + 1) h.0 h.2, more_arguments_names rest h.0 n h.3)

    items_names : (t : Items) (i n : ℕ) → ItemsStand toks t i n → ItemsNames P t
    items_names NoItem i n h = tt
    items_names (Hole rest) i n h = items_names rest (i + 1) n h.1
    items_names (Item e rest) i n h = (expr_names e i h.0 h.1, items_names rest (h.0 + 1) n h.3)
    items_names (LastItem e) i n h = expr_names e i n h

    properties_names : (t : Properties) (i n : ℕ) → PropertiesStand toks t i n → PropertiesNames P t
    properties_names NoProperty i n h = tt
    properties_names (Property key e rest) i n h = (key_names key i h.1, expr_names e (i + 2) h.0 h.3, properties_names rest (h.0 + 1) n h.5)
    properties_names (LastProperty key e) i n h = (key_names key i h.0, expr_names e (i + 2) n h.2)

    variables_names : (t : Variables) (i n : ℕ) → VariablesStand toks t i n → VariablesNames P t
    variables_names NoVariable i n h = tt
    variables_names (Variable x e rest) i n h = (words i x h.1, initialiser_names e (i + 1) h.0 h.2, more_variables_names rest h.0 n h.3)

    more_variables_names : (t : Variables) (i n : ℕ) → MoreVariablesStand toks t i n → VariablesNames P t
    more_variables_names NoVariable i n h = tt
    more_variables_names (Variable x e rest) i n h = (words (i + 1) x h.2, initialiser_names e (i + 2) h.0 h.3, more_variables_names rest h.0 n h.4)

    initialiser_names : (t : Optional) (i n : ℕ) → InitialiserStands toks t i n → OptionalNames P t
    initialiser_names Absent i n h = tt
    initialiser_names (Present e) i n h = expr_names e (i + 1) n h.1

    init_names : (t : Init) (i n : ℕ) → InitStands toks t i n → InitNames P t
    init_names NoInit i n h = tt
    init_names (InitExpr e) i n h = expr_names e i n h
    init_names (InitVar vs) i n h = variables_names vs (i + 1) n h.1

    stmt_names : (t : Stmt) (i n : ℕ) → StmtStands toks t i n → StmtNames P t
    stmt_names (Block body) i n h = stmts_names body (i + 1) h.0 h.2
    stmt_names (Var vs end) i n h = variables_names vs (i + 1) h.0 h.2
    stmt_names Empty i n h = tt
    stmt_names (ExprStmt e end) i n h = expr_names e i h.0 h.1
    stmt_names (If e s) i n h = (expr_names e (i + 2) h.0 h.3, stmt_names s (h.0 + 1) n h.5)
    stmt_names (IfElse e s u) i n h = (expr_names e (i + 2) h.0 h.4, stmt_names s (h.0 + 1) h.1 h.6, stmt_names u (h.1 + 1) n h.8)
    stmt_names (DoWhile s e end) i n h = (stmt_names s (i + 1) h.0 h.3, expr_names e (h.0 + 2) h.1 h.6)
    stmt_names (While e s) i n h = (expr_names e (i + 2) h.0 h.3, stmt_names s (h.0 + 1) n h.5)
    stmt_names (For first test update s) i n h = (init_names first (i + 2) h.0 h.5, optional_names test (h.0 + 1) h.1 h.7, optional_names update (h.1 + 1) h.2 h.9, stmt_names s (h.2 + 1) n h.11)
    stmt_names (ForIn t e s) i n h = (expr_names t (i + 2) h.0 h.4, expr_names e (h.0 + 1) h.1 h.6, stmt_names s (h.1 + 1) n h.8)
    stmt_names (ForVarIn x e s) i n h = (words (i + 3) x h.4, expr_names e (i + 5) h.0 h.6, stmt_names s (h.0 + 1) n h.8)
    stmt_names (Continue label end) i n h = label_names label (i + 1) h.0 h.2
    stmt_names (Break label end) i n h = label_names label (i + 1) h.0 h.2
    stmt_names (Return Absent end) i n h = tt
    stmt_names (Return (Present e) end) i n h = expr_names e (i + 1) h.0 h.3
    stmt_names (Throw e end) i n h = expr_names e (i + 1) h.0 h.3
    stmt_names (Label x s) i n h = (words i x h.0, stmt_names s (i + 2) n h.2)
    stmt_names (Switch e clauses) i n h = (expr_names e (i + 2) h.0 h.4, clauses_names clauses (h.0 + 2) h.1 h.7)
    stmt_names (TryCatch b x c) i n h = (stmts_names b (i + 2) h.0 h.4, words (h.0 + 3) x h.8, stmts_names c (h.0 + 6) h.1 h.11)
    stmt_names (TryFinally b f) i n h = (stmts_names b (i + 2) h.0 h.4, stmts_names f (h.0 + 3) h.1 h.8)
    stmt_names (TryBoth b x c f) i n h = (stmts_names b (i + 2) h.0 h.5, words (h.0 + 3) x h.9, stmts_names c (h.0 + 6) h.1 h.12, stmts_names f (h.1 + 3) h.2 h.16)
    stmt_names (Within e b) i n h = (expr_names e (i + 1) h.0 h.3, stmts_names b (h.0 + 1) h.1 h.5)

    stmts_names : (t : Stmts) (i n : ℕ) → StmtsStand toks t i n → StmtsNames P t
    stmts_names NoStmt i n h = tt
    stmts_names (MoreStmts s rest) i n h = (stmt_names s i h.0 h.1, stmts_names rest h.0 n h.2)

    clauses_names : (t : Clauses) (i n : ℕ) → ClausesStand toks t i n → ClausesNames P t
    clauses_names NoClause i n h = tt
    clauses_names (Case e body rest) i n h = (expr_names e (i + 1) h.0 h.3, stmts_names body (h.0 + 1) h.1 h.5, clauses_names rest h.1 n h.6)
    clauses_names (Default body rest) i n h = (stmts_names body (i + 2) h.0 h.3, clauses_names rest h.0 n h.4)

    pub stand_names : (t : Elements) (i n : ℕ) → ElementsStand toks t i n → ElementsNames P t
    stand_names NoElement i n h = tt
    stand_names (Statement s rest) i n h = (stmt_names s i h.0 h.1, stand_names rest h.0 n h.2)
    stand_names (FunctionDecl x formals body rest) i n h = (words (i + 1) x h.3, formals_names formals (i + 3) h.0 h.5, stand_names body (h.0 + 2) h.1 h.8, stand_names rest (h.1 + 1) n h.10)

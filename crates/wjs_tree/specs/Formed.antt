-- Well-formed trees: each part binds as tightly as its place wants (ECMA-262, 3rd edition, sections 11 to 14).
use Rattle.std.specs.Prelude.{◌≡◌, ◌+◌, ◌≤◌, ◌⊎◌, Bool, true, false}
use Rattle.wjs_tree.specs.Operators.{binary_level, is_update, IsAllowed}
use Rattle.wjs_tree.specs.Trees.{Expr, Optional, Arguments, Items, Properties, Variables, Init, Stmt, Stmts, Clauses, Elements, Name, Number, Text, This, ThisWorld, Null, Boolean, Paren, ArrayLit, ObjectLit, Function, Dot, At, Call, NewWith, NewBare, Postfix, Prefix, Binary, Cond, Assign, Comma, Absent, Present, NoArgument, Argument, NoItem, Hole, Item, LastItem, NoProperty, Property, LastProperty, NoVariable, Variable, NoInit, InitExpr, InitVar, Block, Var, Empty, ExprStmt, If, IfElse, DoWhile, While, For, ForIn, ForVarIn, Continue, Break, Return, Throw, Label, Switch, TryCatch, TryFinally, TryBoth, Within, NoStmt, MoreStmts, NoClause, Case, Default, NoElement, Statement, FunctionDecl}
use Rattle.wjs_tree.specs.Levels.{level, is_target, is_bare, starts_with_brace}
use Rattle.wjs_tree.specs.Height.{program_height}
use Rattle.wjs_tree.specs.Jumps.{outermost, ElementsJumpRight}

-- the statement ends in an `if` without `else`, so that an `else` behind it belongs to that (section 12.5)
abbrev pub is_open_if : Stmt → Bool
is_open_if (If e s) = true
is_open_if (IfElse e s u) = is_open_if u
is_open_if (While e s) = is_open_if s
is_open_if (For init test update s) = is_open_if s
is_open_if (ForIn t e s) = is_open_if s
is_open_if (ForVarIn x e s) = is_open_if s
is_open_if (Label x s) = is_open_if s
is_open_if _ = false

-- at least one variable
abbrev pub AreSome : Variables → Type 0
AreSome NoVariable = ⊥
AreSome (Variable x e rest) = Unit {0}

-- Each part binds as tightly as its place wants, and the body of each function is as asked.
-- Where the Bool is true, no operator `in` stands outside parentheses, brackets, braces, functions and the operand between
-- `?` and `:` (the grammar's suffix NoIn).
module _ (Asked : Elements → Type 0) where
  abbrev mutual
    pub FormedBy : Bool → Expr → Type 0
    FormedBy no_in (Paren e) = FormedBy false e
    FormedBy no_in (ArrayLit xs) = ItemsBy xs
    FormedBy no_in (ObjectLit ps) = PropertiesBy ps
    FormedBy no_in (Function name formals body) = ElementsBy body × Asked body
    FormedBy no_in (Dot e x) = (16 ≤ level e) × FormedBy no_in e
    FormedBy no_in (At e i) = (16 ≤ level e) × FormedBy no_in e × FormedBy false i
    FormedBy no_in (Call f xs) = (16 ≤ level f) × FormedBy no_in f × ArgumentsBy xs
    FormedBy no_in (NewWith f xs) = (17 ≤ level f) × FormedBy no_in f × ArgumentsBy xs
    FormedBy no_in (NewBare f) = ((17 ≤ level f) ⊎ (is_bare f ≡ true)) × FormedBy no_in f
    FormedBy no_in (Postfix t op) = (is_target t ≡ true) × (15 ≤ level t) × FormedBy no_in t
    FormedBy no_in (Prefix op e) = (13 ≤ level e) × (is_update op ≡ true → is_target e ≡ true) × FormedBy no_in e
    FormedBy no_in (Binary a op b) = IsAllowed no_in op × (binary_level op ≤ level a) × (binary_level op + 1 ≤ level b) × FormedBy no_in a × FormedBy no_in b
    FormedBy no_in (Cond c a b) = (3 ≤ level c) × (1 ≤ level a) × (1 ≤ level b) × FormedBy no_in c × FormedBy false a × FormedBy no_in b
    FormedBy no_in (Assign t op e) = (is_target t ≡ true) × (15 ≤ level t) × (1 ≤ level e) × FormedBy no_in t × FormedBy no_in e
    FormedBy no_in (Comma a b) = (1 ≤ level b) × FormedBy no_in a × FormedBy no_in b
    FormedBy no_in (Name x) = Unit {0}
    FormedBy no_in (Number n) = Unit {0}
    FormedBy no_in (Text x) = Unit {0}
    FormedBy no_in This = Unit {0}
    FormedBy no_in ThisWorld = Unit {0}
    FormedBy no_in Null = Unit {0}
    FormedBy no_in (Boolean b) = Unit {0}

    pub OptionalBy : Optional → Type 0
    OptionalBy Absent = Unit {0}
    OptionalBy (Present e) = FormedBy false e

    -- an initialiser is an assignment expression
    pub InitialiserBy : Bool → Optional → Type 0
    InitialiserBy no_in Absent = Unit {0}
    InitialiserBy no_in (Present e) = (1 ≤ level e) × FormedBy no_in e

    -- arguments, items and values are assignment expressions
    pub ArgumentsBy : Arguments → Type 0
    ArgumentsBy NoArgument = Unit {0}
    ArgumentsBy (Argument e rest) = (1 ≤ level e) × FormedBy false e × ArgumentsBy rest

    pub ItemsBy : Items → Type 0
    ItemsBy NoItem = Unit {0}
    ItemsBy (Hole rest) = ItemsBy rest
    ItemsBy (Item e rest) = (1 ≤ level e) × FormedBy false e × ItemsBy rest
    ItemsBy (LastItem e) = (1 ≤ level e) × FormedBy false e

    pub PropertiesBy : Properties → Type 0
    PropertiesBy NoProperty = Unit {0}
    PropertiesBy (Property key e rest) = (1 ≤ level e) × FormedBy false e × PropertiesBy rest
    PropertiesBy (LastProperty key e) = (1 ≤ level e) × FormedBy false e

    pub VariablesBy : Bool → Variables → Type 0
    VariablesBy no_in NoVariable = Unit {0}
    VariablesBy no_in (Variable x e rest) = InitialiserBy no_in e × VariablesBy no_in rest

    pub InitBy : Init → Type 0
    InitBy NoInit = Unit {0}
    InitBy (InitExpr e) = FormedBy true e
    InitBy (InitVar vs) = AreSome vs × VariablesBy true vs

    pub StmtBy : Stmt → Type 0
    StmtBy (Block body) = StmtsBy body
    StmtBy (Var vs end) = AreSome vs × VariablesBy false vs
    StmtBy Empty = Unit {0}
    StmtBy (ExprStmt e end) = (starts_with_brace e ≡ false) × FormedBy false e
    StmtBy (If e s) = FormedBy false e × StmtBy s
    StmtBy (IfElse e s u) = FormedBy false e × (is_open_if s ≡ false) × StmtBy s × StmtBy u
    StmtBy (DoWhile s e end) = StmtBy s × FormedBy false e
    StmtBy (While e s) = FormedBy false e × StmtBy s
    StmtBy (For init test update s) = InitBy init × OptionalBy test × OptionalBy update × StmtBy s
    StmtBy (ForIn t e s) = (is_target t ≡ true) × (15 ≤ level t) × FormedBy false t × FormedBy false e × StmtBy s
    StmtBy (ForVarIn x e s) = FormedBy false e × StmtBy s
    StmtBy (Continue label end) = Unit {0}
    StmtBy (Break label end) = Unit {0}
    StmtBy (Return e end) = OptionalBy e
    StmtBy (Throw e end) = FormedBy false e
    StmtBy (Label x s) = StmtBy s
    StmtBy (Switch e clauses) = FormedBy false e × ClausesBy clauses
    StmtBy (TryCatch b x c) = StmtsBy b × StmtsBy c
    StmtBy (TryFinally b f) = StmtsBy b × StmtsBy f
    StmtBy (TryBoth b x c f) = StmtsBy b × StmtsBy c × StmtsBy f
    StmtBy (Within e b) = FormedBy false e × StmtsBy b

    pub StmtsBy : Stmts → Type 0
    StmtsBy NoStmt = Unit {0}
    StmtsBy (MoreStmts s rest) = StmtBy s × StmtsBy rest

    pub ClausesBy : Clauses → Type 0
    ClausesBy NoClause = Unit {0}
    ClausesBy (Case e body rest) = FormedBy false e × StmtsBy body × ClausesBy rest
    ClausesBy (Default body rest) = StmtsBy body × ClausesBy rest

    pub ElementsBy : Elements → Type 0
    ElementsBy NoElement = Unit {0}
    ElementsBy (Statement s rest) = StmtBy s × ElementsBy rest
    ElementsBy (FunctionDecl x formals body rest) = ElementsBy body × Asked body × ElementsBy rest

-- well-formed: the jumps of a function's body go where they may
abbrev pub WellFormed : Bool → Expr → Type 0
WellFormed = FormedBy (ElementsJumpRight (outermost true))

abbrev pub OptionalFormed : Optional → Type 0
OptionalFormed = OptionalBy (ElementsJumpRight (outermost true))

abbrev pub InitialiserFormed : Bool → Optional → Type 0
InitialiserFormed = InitialiserBy (ElementsJumpRight (outermost true))

abbrev pub ArgumentsFormed : Arguments → Type 0
ArgumentsFormed = ArgumentsBy (ElementsJumpRight (outermost true))

abbrev pub ItemsFormed : Items → Type 0
ItemsFormed = ItemsBy (ElementsJumpRight (outermost true))

abbrev pub PropertiesFormed : Properties → Type 0
PropertiesFormed = PropertiesBy (ElementsJumpRight (outermost true))

abbrev pub VariablesFormed : Bool → Variables → Type 0
VariablesFormed = VariablesBy (ElementsJumpRight (outermost true))

abbrev pub InitFormed : Init → Type 0
InitFormed = InitBy (ElementsJumpRight (outermost true))

abbrev pub StmtFormed : Stmt → Type 0
StmtFormed = StmtBy (ElementsJumpRight (outermost true))

abbrev pub StmtsFormed : Stmts → Type 0
StmtsFormed = StmtsBy (ElementsJumpRight (outermost true))

abbrev pub ClausesFormed : Clauses → Type 0
ClausesFormed = ClausesBy (ElementsJumpRight (outermost true))

abbrev pub ElementsFormed : Elements → Type 0
ElementsFormed = ElementsBy (ElementsJumpRight (outermost true))

-- shaped: nothing is asked of where jumps go
abbrev pub Shaped : Bool → Expr → Type 0
Shaped = FormedBy (λ body. Unit {0})

abbrev pub OptionalShaped : Optional → Type 0
OptionalShaped = OptionalBy (λ body. Unit {0})

abbrev pub InitialiserShaped : Bool → Optional → Type 0
InitialiserShaped = InitialiserBy (λ body. Unit {0})

abbrev pub ArgumentsShaped : Arguments → Type 0
ArgumentsShaped = ArgumentsBy (λ body. Unit {0})

abbrev pub ItemsShaped : Items → Type 0
ItemsShaped = ItemsBy (λ body. Unit {0})

abbrev pub PropertiesShaped : Properties → Type 0
PropertiesShaped = PropertiesBy (λ body. Unit {0})

abbrev pub VariablesShaped : Bool → Variables → Type 0
VariablesShaped = VariablesBy (λ body. Unit {0})

abbrev pub InitShaped : Init → Type 0
InitShaped = InitBy (λ body. Unit {0})

abbrev pub StmtShaped : Stmt → Type 0
StmtShaped = StmtBy (λ body. Unit {0})

abbrev pub StmtsShaped : Stmts → Type 0
StmtsShaped = StmtsBy (λ body. Unit {0})

abbrev pub ClausesShaped : Clauses → Type 0
ClausesShaped = ClausesBy (λ body. Unit {0})

abbrev pub ElementsShaped : Elements → Type 0
ElementsShaped = ElementsBy (λ body. Unit {0})

-- the elements of a well-formed program
pub record ProgramFormed (body : Elements) : Type 0 where
  pub formed : ElementsFormed body
  pub jumps : ElementsJumpRight (outermost false) body
  pub height : program_height body ≤ 200

-- What holds of each text that stands in a tree.
use Rattle.std.specs.Prelude.{List, [], ◌∷◌, Option, None, Some}
use Rattle.wjs_base.specs.declared.ids.TextId.{TextId}
use Rattle.wjs_tree.specs.declared.node.Spelt.{Spelt}
use Rattle.wjs_tree.specs.declared.node.Spelt.TheVariants as spelt
use Rattle.wjs_tree.specs.declared.node.PropertyKey.{PropertyKey}
use Rattle.wjs_tree.specs.declared.node.PropertyKey.TheVariants as keys
use Rattle.wjs_tree.specs.Trees.{Expr, Optional, Arguments, Items, Properties, Variables, Init, Stmt, Stmts, Clauses, Elements, Name, Number, Text, This, ThisWorld, Null, Boolean, Paren, ArrayLit, ObjectLit, Function, Dot, At, Call, NewWith, NewBare, Postfix, Prefix, Binary, Cond, Assign, Comma, Absent, Present, NoArgument, Argument, NoItem, Hole, Item, LastItem, NoProperty, Property, LastProperty, NoVariable, Variable, NoInit, InitExpr, InitVar, Block, Var, Empty, ExprStmt, If, IfElse, DoWhile, While, For, ForIn, ForVarIn, Continue, Break, Return, Throw, Label, Switch, TryCatch, TryFinally, TryBoth, Within, NoStmt, MoreStmts, NoClause, Case, Default, NoElement, Statement, FunctionDecl}

module _ (P : TextId → Type 0) where
  abbrev pub OptionNames : Option TextId → Type 0
  OptionNames None = Unit {0}
  OptionNames (Some x) = P x

  abbrev pub ListNames : List TextId → Type 0
  ListNames [] = Unit {0}
  ListNames (x ∷ xs) = P x × ListNames xs

  abbrev pub SpeltNames : Spelt → Type 0
  SpeltNames (spelt.Word x) = P x
  SpeltNames (spelt.Key k) = Unit {0}

  abbrev pub KeyNames : PropertyKey → Type 0
  KeyNames (keys.Spelt s) = SpeltNames s
  KeyNames (keys.Text x) = P x
  KeyNames (keys.Number n) = Unit {0}

  abbrev mutual
    pub Names : Expr → Type 0
    Names (Name x) = P x
    Names (Number k) = Unit {0}
    Names (Text x) = P x
    Names This = Unit {0}
    Names ThisWorld = Unit {0}
    Names Null = Unit {0}
    Names (Boolean b) = Unit {0}
    Names (Paren e) = Names e
    Names (ArrayLit xs) = ItemsNames xs
    Names (ObjectLit ps) = PropertiesNames ps
    Names (Function name formals body) = OptionNames name × ListNames formals × ElementsNames body
    Names (Dot e x) = Names e × SpeltNames x
    Names (At e i) = Names e × Names i
    Names (Call f xs) = Names f × ArgumentsNames xs
    Names (NewWith f xs) = Names f × ArgumentsNames xs
    Names (NewBare f) = Names f
    Names (Postfix t op) = Names t
    Names (Prefix op e) = Names e
    Names (Binary a op b) = Names a × Names b
    Names (Cond c a b) = Names c × Names a × Names b
    Names (Assign t op e) = Names t × Names e
    Names (Comma a b) = Names a × Names b

    pub OptionalNames : Optional → Type 0
    OptionalNames Absent = Unit {0}
    OptionalNames (Present e) = Names e

    pub ArgumentsNames : Arguments → Type 0
    ArgumentsNames NoArgument = Unit {0}
    ArgumentsNames (Argument e rest) = Names e × ArgumentsNames rest

    pub ItemsNames : Items → Type 0
    ItemsNames NoItem = Unit {0}
    ItemsNames (Hole rest) = ItemsNames rest
    ItemsNames (Item e rest) = Names e × ItemsNames rest
    ItemsNames (LastItem e) = Names e

    pub PropertiesNames : Properties → Type 0
    PropertiesNames NoProperty = Unit {0}
    PropertiesNames (Property key e rest) = KeyNames key × Names e × PropertiesNames rest
    PropertiesNames (LastProperty key e) = KeyNames key × Names e

    pub VariablesNames : Variables → Type 0
    VariablesNames NoVariable = Unit {0}
    VariablesNames (Variable x e rest) = P x × OptionalNames e × VariablesNames rest

    pub InitNames : Init → Type 0
    InitNames NoInit = Unit {0}
    InitNames (InitExpr e) = Names e
    InitNames (InitVar vs) = VariablesNames vs

    pub StmtNames : Stmt → Type 0
    StmtNames (Block body) = StmtsNames body
    StmtNames (Var vs end) = VariablesNames vs
    StmtNames Empty = Unit {0}
    StmtNames (ExprStmt e end) = Names e
    StmtNames (If e s) = Names e × StmtNames s
    StmtNames (IfElse e s u) = Names e × StmtNames s × StmtNames u
    StmtNames (DoWhile s e end) = StmtNames s × Names e
    StmtNames (While e s) = Names e × StmtNames s
    StmtNames (For first test update s) = InitNames first × OptionalNames test × OptionalNames update × StmtNames s
    StmtNames (ForIn t e s) = Names t × Names e × StmtNames s
    StmtNames (ForVarIn x e s) = P x × Names e × StmtNames s
    StmtNames (Continue label end) = OptionNames label
    StmtNames (Break label end) = OptionNames label
    StmtNames (Return e end) = OptionalNames e
    StmtNames (Throw e end) = Names e
    StmtNames (Label x s) = P x × StmtNames s
    StmtNames (Switch e list) = Names e × ClausesNames list
    StmtNames (TryCatch b x c) = StmtsNames b × P x × StmtsNames c
    StmtNames (TryFinally b f) = StmtsNames b × StmtsNames f
    StmtNames (TryBoth b x c f) = StmtsNames b × P x × StmtsNames c × StmtsNames f
    StmtNames (Within e b) = Names e × StmtsNames b

    pub StmtsNames : Stmts → Type 0
    StmtsNames NoStmt = Unit {0}
    StmtsNames (MoreStmts s rest) = StmtNames s × StmtsNames rest

    pub ClausesNames : Clauses → Type 0
    ClausesNames NoClause = Unit {0}
    ClausesNames (Case e body rest) = Names e × StmtsNames body × ClausesNames rest
    ClausesNames (Default body rest) = StmtsNames body × ClausesNames rest

    pub ElementsNames : Elements → Type 0
    ElementsNames NoElement = Unit {0}
    ElementsNames (Statement s rest) = StmtNames s × ElementsNames rest
    ElementsNames (FunctionDecl x formals body rest) = P x × ListNames formals × ElementsNames body × ElementsNames rest

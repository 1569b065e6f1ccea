-- Tokens and trees with other numbers for their texts.
use Rattle.std.specs.Prelude.{List, map as each, Option}
use Rattle.std.specs.Option.{option_map}
use Rattle.wjs_base.specs.declared.ids.TextId.{TextId}
use Rattle.wjs_tree.specs.declared.tokens.Tok.{Tok}
use Rattle.wjs_tree.specs.declared.tokens.Token.{Token}
use Rattle.wjs_tree.specs.declared.tokens.Token.TheVariants as tokens
use Rattle.wjs_tree.specs.declared.node.Spelt.{Spelt}
use Rattle.wjs_tree.specs.declared.node.Spelt.TheVariants as spelt
use Rattle.wjs_tree.specs.declared.node.PropertyKey.{PropertyKey}
use Rattle.wjs_tree.specs.declared.node.PropertyKey.TheVariants as keys
use Rattle.wjs_tree.specs.Trees.{Expr, Optional, Arguments, Items, Properties, Variables, Init, Stmt, Stmts, Clauses, Elements, Name, Number, Text, This, ThisWorld, Null, Boolean, Paren, ArrayLit, ObjectLit, Function, Dot, At, Call, NewWith, NewBare, Postfix, Prefix, Binary, Cond, Assign, Comma, Absent, Present, NoArgument, Argument, NoItem, Hole, Item, LastItem, NoProperty, Property, LastProperty, NoVariable, Variable, NoInit, InitExpr, InitVar, Block, Var, Empty, ExprStmt, If, IfElse, DoWhile, While, For, ForIn, ForVarIn, Continue, Break, Return, Throw, Label, Switch, TryCatch, TryFinally, TryBoth, Within, NoStmt, MoreStmts, NoClause, Case, Default, NoElement, Statement, FunctionDecl}

module _ (r : TextId → TextId) where
  abbrev pub token_renamed : Token → Token
  token_renamed (tokens.Word x) = tokens.Word (r x)
  token_renamed (tokens.Key k) = tokens.Key k
  token_renamed (tokens.Sign s) = tokens.Sign s
  token_renamed (tokens.Number n) = tokens.Number n
  token_renamed (tokens.Text x) = tokens.Text (r x)

  abbrev pub tok_renamed : Tok → Tok
  tok_renamed t = record { token = token_renamed t.token; byte = t.byte; line = t.line; after_line = t.after_line }

  abbrev pub toks_renamed : List Tok → List Tok
  toks_renamed toks = each tok_renamed toks

  abbrev pub name_renamed : Option TextId → Option TextId
  name_renamed name = option_map r name

  abbrev pub names_renamed : List TextId → List TextId
  names_renamed names = each r names

  abbrev pub spelt_renamed : Spelt → Spelt
  spelt_renamed (spelt.Word x) = spelt.Word (r x)
  spelt_renamed (spelt.Key k) = spelt.Key k

  abbrev pub key_renamed : PropertyKey → PropertyKey
  key_renamed (keys.Spelt s) = keys.Spelt (spelt_renamed s)
  key_renamed (keys.Text x) = keys.Text (r x)
  key_renamed (keys.Number n) = keys.Number n

  abbrev mutual
    pub renamed : Expr → Expr
    renamed (Name x) = Name (r x)
    renamed (Number k) = Number k
    renamed (Text x) = Text (r x)
    renamed This = This
    renamed ThisWorld = ThisWorld
    renamed Null = Null
    renamed (Boolean b) = Boolean b
    renamed (Paren e) = Paren (renamed e)
    renamed (ArrayLit xs) = ArrayLit (items_renamed xs)
    renamed (ObjectLit ps) = ObjectLit (properties_renamed ps)
    renamed (Function name formals body) = Function (name_renamed name) (names_renamed formals) (elements_renamed body)
    renamed (Dot e x) = Dot (renamed e) (spelt_renamed x)
    renamed (At e i) = At (renamed e) (renamed i)
    renamed (Call f xs) = Call (renamed f) (arguments_renamed xs)
    renamed (NewWith f xs) = NewWith (renamed f) (arguments_renamed xs)
    renamed (NewBare f) = NewBare (renamed f)
    renamed (Postfix t op) = Postfix (renamed t) op
    renamed (Prefix op e) = Prefix op (renamed e)
    renamed (Binary a op b) = Binary (renamed a) op (renamed b)
    renamed (Cond c a b) = Cond (renamed c) (renamed a) (renamed b)
    renamed (Assign t op e) = Assign (renamed t) op (renamed e)
    renamed (Comma a b) = Comma (renamed a) (renamed b)

    pub optional_renamed : Optional → Optional
    optional_renamed Absent = Absent
    optional_renamed (Present e) = Present (renamed e)

    pub arguments_renamed : Arguments → Arguments
    arguments_renamed NoArgument = NoArgument
    arguments_renamed (Argument e rest) = Argument (renamed e) (arguments_renamed rest)

    pub items_renamed : Items → Items
    items_renamed NoItem = NoItem
    items_renamed (Hole rest) = Hole (items_renamed rest)
    items_renamed (Item e rest) = Item (renamed e) (items_renamed rest)
    items_renamed (LastItem e) = LastItem (renamed e)

    pub properties_renamed : Properties → Properties
    properties_renamed NoProperty = NoProperty
    properties_renamed (Property key e rest) = Property (key_renamed key) (renamed e) (properties_renamed rest)
    properties_renamed (LastProperty key e) = LastProperty (key_renamed key) (renamed e)

    pub variables_renamed : Variables → Variables
    variables_renamed NoVariable = NoVariable
    variables_renamed (Variable x e rest) = Variable (r x) (optional_renamed e) (variables_renamed rest)

    pub init_renamed : Init → Init
    init_renamed NoInit = NoInit
    init_renamed (InitExpr e) = InitExpr (renamed e)
    init_renamed (InitVar vs) = InitVar (variables_renamed vs)

    pub stmt_renamed : Stmt → Stmt
    stmt_renamed (Block body) = Block (stmts_renamed body)
    stmt_renamed (Var vs end) = Var (variables_renamed vs) end
    stmt_renamed Empty = Empty
    stmt_renamed (ExprStmt e end) = ExprStmt (renamed e) end
    stmt_renamed (If e s) = If (renamed e) (stmt_renamed s)
    stmt_renamed (IfElse e s u) = IfElse (renamed e) (stmt_renamed s) (stmt_renamed u)
    stmt_renamed (DoWhile s e end) = DoWhile (stmt_renamed s) (renamed e) end
    stmt_renamed (While e s) = While (renamed e) (stmt_renamed s)
    stmt_renamed (For first test update s) = For (init_renamed first) (optional_renamed test) (optional_renamed update) (stmt_renamed s)
    stmt_renamed (ForIn t e s) = ForIn (renamed t) (renamed e) (stmt_renamed s)
    stmt_renamed (ForVarIn x e s) = ForVarIn (r x) (renamed e) (stmt_renamed s)
    stmt_renamed (Continue label end) = Continue (name_renamed label) end
    stmt_renamed (Break label end) = Break (name_renamed label) end
    stmt_renamed (Return e end) = Return (optional_renamed e) end
    stmt_renamed (Throw e end) = Throw (renamed e) end
    stmt_renamed (Label x s) = Label (r x) (stmt_renamed s)
    stmt_renamed (Switch e list) = Switch (renamed e) (clauses_renamed list)
    stmt_renamed (TryCatch b x c) = TryCatch (stmts_renamed b) (r x) (stmts_renamed c)
    stmt_renamed (TryFinally b f) = TryFinally (stmts_renamed b) (stmts_renamed f)
    stmt_renamed (TryBoth b x c f) = TryBoth (stmts_renamed b) (r x) (stmts_renamed c) (stmts_renamed f)
    stmt_renamed (Within e b) = Within (renamed e) (stmts_renamed b)

    pub stmts_renamed : Stmts → Stmts
    stmts_renamed NoStmt = NoStmt
    stmts_renamed (MoreStmts s rest) = MoreStmts (stmt_renamed s) (stmts_renamed rest)

    pub clauses_renamed : Clauses → Clauses
    clauses_renamed NoClause = NoClause
    clauses_renamed (Case e body rest) = Case (renamed e) (stmts_renamed body) (clauses_renamed rest)
    clauses_renamed (Default body rest) = Default (stmts_renamed body) (clauses_renamed rest)

    pub elements_renamed : Elements → Elements
    elements_renamed NoElement = NoElement
    elements_renamed (Statement s rest) = Statement (stmt_renamed s) (elements_renamed rest)
    elements_renamed (FunctionDecl x formals body rest) = FunctionDecl (r x) (names_renamed formals) (elements_renamed body) (elements_renamed rest)

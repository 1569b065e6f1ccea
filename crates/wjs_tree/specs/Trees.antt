-- Trees by forms and parts (ECMA-262, 3rd edition, sections 11 to 14).
use Rattle.std.specs.Prelude.{Bool, List, Option}
use Rattle.wjs_base.specs.declared.ids.TextId.{TextId}
use Rattle.wjs_base.specs.declared.number.Whole.{Whole}
use Rattle.wjs_tree.specs.declared.node.End.{End}
use Rattle.wjs_tree.specs.declared.node.Spelt.{Spelt}
use Rattle.wjs_tree.specs.declared.node.PropertyKey.{PropertyKey}
use Rattle.wjs_tree.specs.declared.operators.UpdateOperator.{UpdateOperator}
use Rattle.wjs_tree.specs.declared.operators.PrefixOperator.{PrefixOperator}
use Rattle.wjs_tree.specs.declared.operators.BinaryOperator.{BinaryOperator}
use Rattle.wjs_tree.specs.declared.operators.AssignOperator.{AssignOperator}

mutual
  -- an expression (section 11)
  pub data Expr : Type 0 where
    Name : TextId → Expr
    Number : Whole → Expr
    Text : TextId → Expr
    This : Expr
    ThisWorld : Expr
    Null : Expr
    Boolean : Bool → Expr
    Paren : Expr → Expr
    ArrayLit : Items → Expr
    ObjectLit : Properties → Expr
    -- the name, the formals and the body
    Function : Option TextId → List TextId → Elements → Expr
    Dot : Expr → Spelt → Expr
    At : Expr → Expr → Expr
    Call : Expr → Arguments → Expr
    NewWith : Expr → Arguments → Expr
    NewBare : Expr → Expr
    Postfix : Expr → UpdateOperator → Expr
    Prefix : PrefixOperator → Expr → Expr
    Binary : Expr → BinaryOperator → Expr → Expr
    Cond : Expr → Expr → Expr → Expr
    Assign : Expr → AssignOperator → Expr → Expr
    Comma : Expr → Expr → Expr

  -- an expression or nothing
  pub data Optional : Type 0 where
    Absent : Optional
    Present : Expr → Optional

  -- arguments (section 11.2.4)
  pub data Arguments : Type 0 where
    NoArgument : Arguments
    Argument : Expr → Arguments → Arguments

  -- items of an array literal (section 11.1.4): a hole has a comma behind it, and so has an expression unless it is the last
  pub data Items : Type 0 where
    NoItem : Items
    Hole : Items → Items
    Item : Expr → Items → Items
    LastItem : Expr → Items

  -- properties of an object literal (section 11.1.5): each has a comma behind it, but the last need not (5th edition)
  pub data Properties : Type 0 where
    NoProperty : Properties
    Property : PropertyKey → Expr → Properties → Properties
    LastProperty : PropertyKey → Expr → Properties

  -- variables with their initialisers (section 12.2)
  pub data Variables : Type 0 where
    NoVariable : Variables
    Variable : TextId → Optional → Variables → Variables

  -- what stands first in the header of a `for` (section 12.6.3)
  pub data Init : Type 0 where
    NoInit : Init
    InitExpr : Expr → Init
    InitVar : Variables → Init

  -- a statement (section 12); `in e { }` runs its block in a world
  pub data Stmt : Type 0 where
    Block : Stmts → Stmt
    Var : Variables → End → Stmt
    Empty : Stmt
    ExprStmt : Expr → End → Stmt
    If : Expr → Stmt → Stmt
    IfElse : Expr → Stmt → Stmt → Stmt
    DoWhile : Stmt → Expr → End → Stmt
    While : Expr → Stmt → Stmt
    For : Init → Optional → Optional → Stmt → Stmt
    ForIn : Expr → Expr → Stmt → Stmt
    ForVarIn : TextId → Expr → Stmt → Stmt
    Continue : Option TextId → End → Stmt
    Break : Option TextId → End → Stmt
    Return : Optional → End → Stmt
    Throw : Expr → End → Stmt
    Label : TextId → Stmt → Stmt
    Switch : Expr → Clauses → Stmt
    TryCatch : Stmts → TextId → Stmts → Stmt
    TryFinally : Stmts → Stmts → Stmt
    TryBoth : Stmts → TextId → Stmts → Stmts → Stmt
    Within : Expr → Stmts → Stmt

  -- the statements of a block or a clause
  pub data Stmts : Type 0 where
    NoStmt : Stmts
    MoreStmts : Stmt → Stmts → Stmts

  -- the clauses of a `switch` (section 12.11)
  pub data Clauses : Type 0 where
    NoClause : Clauses
    Case : Expr → Stmts → Clauses → Clauses
    Default : Stmts → Clauses → Clauses

  -- the elements of a program or a function (section 14): statements, and functions with their names, formals and bodies
  pub data Elements : Type 0 where
    NoElement : Elements
    Statement : Stmt → Elements → Elements
    FunctionDecl : TextId → List TextId → Elements → Elements → Elements

-- What a body declares (ECMA-262, 3rd edition, sections 10.1.3, 12.2 and 13): its formals, its functions and its variables.
use Rattle.std.specs.Prelude.{ℕ, Bool, true, false, if◌then◌else◌, List, [], ◌∷◌, ◌++◌, filter, nat_eq, Option, Some, slice_get}
use Rattle.std.specs.List.{list_any}
use Rattle.wjs_base.specs.declared.ids.TextId.{TextId}
use Rattle.wjs_base.specs.declared.ids.NodeId.{NodeId}
use Rattle.wjs_tree.specs.declared.node.Node.{Node}
use Rattle.wjs_tree.specs.declared.node.Node.TheVariants as nodes
use Rattle.wjs_tree.specs.Trees.{Variables, Init, Stmt, Stmts, Clauses, Elements, NoVariable, Variable, NoInit, InitExpr, InitVar, Block, Var, If, IfElse, DoWhile, While, For, ForIn, ForVarIn, Label, Switch, TryCatch, TryFinally, TryBoth, Within, NoStmt, MoreStmts, NoClause, Case, Default, NoElement, Statement, FunctionDecl}

abbrev pub variable_names : Variables → List TextId
variable_names NoVariable = []
variable_names (Variable x e rest) = x ∷ variable_names rest

abbrev pub init_names : Init → List TextId
init_names NoInit = []
init_names (InitExpr e) = []
init_names (InitVar vs) = variable_names vs

-- The names that a statement declares by `var`, as often as they stand there (section 12.2). An expression declares none:
-- a function in it has a body of its own.
abbrev mutual
  pub names_declared : Stmt → List TextId
  names_declared (Block body) = all_declared body
  names_declared (Var vs end) = variable_names vs
  names_declared (If e s) = names_declared s
  names_declared (IfElse e s u) = names_declared s ++ names_declared u
  names_declared (DoWhile s e end) = names_declared s
  names_declared (While e s) = names_declared s
  names_declared (For init test update s) = init_names init ++ names_declared s
  names_declared (ForIn t e s) = names_declared s
  names_declared (ForVarIn x e s) = x ∷ names_declared s
  names_declared (Label x s) = names_declared s
  names_declared (Switch e clauses) = clauses_declared clauses
  names_declared (TryCatch b x c) = all_declared b ++ all_declared c
  names_declared (TryFinally b f) = all_declared b ++ all_declared f
  names_declared (TryBoth b x c f) = all_declared b ++ (all_declared c ++ all_declared f)
  names_declared (Within e b) = all_declared b
  names_declared _ = []

  pub all_declared : Stmts → List TextId
  all_declared NoStmt = []
  all_declared (MoreStmts s rest) = names_declared s ++ all_declared rest

  pub clauses_declared : Clauses → List TextId
  clauses_declared NoClause = []
  clauses_declared (Case e body rest) = all_declared body ++ clauses_declared rest
  clauses_declared (Default body rest) = all_declared body ++ clauses_declared rest

-- those of the elements of one body; a function among them has a body of its own
abbrev pub elements_declared : Elements → List TextId
elements_declared NoElement = []
elements_declared (Statement s rest) = names_declared s ++ elements_declared rest
elements_declared (FunctionDecl x formals body rest) = elements_declared rest

abbrev pub name_of : ℕ → TextId
name_of k = record { 0 = k }

-- the name put last, unless it is there
abbrev pub with_name : List TextId → TextId → List TextId
with_name xs x = if list_any (λ (y : TextId). nat_eq x.0 y.0) xs then xs else xs ++ x ∷ []

-- each name of the second list once, in order of first occurrence, behind those that are there
abbrev pub with_names : List TextId → List TextId → List TextId
with_names xs [] = xs
with_names xs (x ∷ more) = with_names (with_name xs x) more

-- a body's variables: the names of its `var`s, each once, in order of first occurrence (section 10.1.3)
abbrev pub variables : Elements → List TextId
variables body = with_names [] (elements_declared body)

-- ---- the nodes of a body (section 13): a script, or a function

abbrev pub is_body : Node → Bool
is_body (nodes.Program list) = true
is_body (nodes.Function name formals list) = true
is_body (nodes.FunctionDecl x formals list) = true
is_body _ = false

-- its formals, of which a script has none
abbrev pub formals_of : Node → List TextId
formals_of (nodes.Function name formals list) = formals
formals_of (nodes.FunctionDecl x formals list) = formals
formals_of _ = []

-- its elements
abbrev pub elements_of : Node → List NodeId
elements_of (nodes.Program list) = list
elements_of (nodes.Function name formals list) = list
elements_of (nodes.FunctionDecl x formals list) = list
elements_of _ = []

abbrev pub is_declaration : Option Node → Bool
is_declaration (Some (nodes.FunctionDecl x formals list)) = true
is_declaration _ = false

-- those of the nodes that declare functions, in order
abbrev pub functions_among : List Node → List NodeId → List NodeId
functions_among ns list = filter (λ (i : NodeId). is_declaration (slice_get ns i.0)) list

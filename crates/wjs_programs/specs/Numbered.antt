-- The tree of a program by content. Its body has the greatest number, and from there down each node stands before its parts,
-- in the order in which they are spelled.
use Rattle.std.specs.Prelude.{ℕ, ◌-◌, List, [], ◌∷◌, ◌++◌, map as each, length, reverse, Option, None, Some}
use Rattle.wjs_base.specs.declared.ids.TextId.{TextId}
use Rattle.wjs_base.specs.Text.{Table}
use Rattle.wjs_tree.specs.Trees.{Expr, Optional, Arguments, Items, Properties, Variables, Init, Stmt, Stmts, Clauses, Elements, Name, Number, Text, This, ThisWorld, Null, Boolean, Paren, ArrayLit, ObjectLit, Function, Dot, At, Call, NewWith, NewBare, Postfix, Prefix, Binary, Cond, Assign, Comma, Absent, Present, NoArgument, Argument, NoItem, Hole, Item, LastItem, NoProperty, Property, LastProperty, NoVariable, Variable, NoInit, InitExpr, InitVar, Block, Var, Empty, ExprStmt, If, IfElse, DoWhile, While, For, ForIn, ForVarIn, Continue, Break, Return, Throw, Label, Switch, TryCatch, TryFinally, TryBoth, Within, NoStmt, MoreStmts, NoClause, Case, Default, NoElement, Statement, FunctionDecl}
use Rattle.wjs_scope.specs.Declarations.{variable_names, init_names, elements_declared}
use Rattle.wjs_scope.specs.Places.{arguments_text}
use Rattle.wjs_scope.specs.Contents.{resolve_text}
use Rattle.wjs_by_content.specs.Values.{Text as Units, same_text}
use Rattle.wjs_by_content.specs.Tables.{text_in}
use Rattle.wjs_meaning.specs.Trees.{Key, Node, Place, Tree}
use Rattle.wjs_meaning.specs.Trees as node
use Rattle.wjs_meaning.specs.Reading.{spelt_in, key_in, label_in}
use Rattle.wjs_model.specs.Units.{place_in}

-- the scopes around a node, the nearest first, each by its names
abbrev pub Scopes : Type 0
Scopes = List (List Units)

-- a node with the places of its own names
pub record Entry : Type 0 where
  pub node : Node
  pub places : List Place

-- a node that has no names of its own, before its parts
abbrev pub plain : Node → List Entry → List Entry
plain n parts = record { node = n; places = [] } ∷ parts

-- a block before its statements
abbrev pub block : List ℕ × List Entry → List Entry
block l = plain (node.Block l.0) l.1

-- the first number below those of the nodes that begin at k
abbrev pub below : ℕ → List Entry → ℕ
below k entries = k - length entries

-- the functions that are declared among elements (ECMA-262, 3rd edition, section 13)
abbrev pub functions_declared : Elements → List TextId
functions_declared NoElement = []
functions_declared (Statement s rest) = functions_declared rest
functions_declared (FunctionDecl x formals body rest) = x ∷ functions_declared rest

module _ (texts : Table) where
  abbrev pub texts_in : List TextId → List Units
  texts_in names = each (text_in texts) names

  -- the names of a function's scope (sections 10.1.3 and 10.1.8): `arguments`, the formals, the functions and the variables
  abbrev pub names_within : List TextId → Elements → List Units
  names_within formals body = arguments_text ∷ texts_in (formals ++ (functions_declared body ++ elements_declared body))

  -- the scopes in a function's body; a function expression's name has a scope of its own (section 13)
  abbrev pub within : Option TextId → List TextId → Elements → Scopes → Scopes
  within None formals body around = names_within formals body ∷ around
  within (Some x) formals body around = names_within formals body ∷ (text_in texts x ∷ []) ∷ around

  -- where names are found (section 10.1.4)
  abbrev pub places_of : Scopes → List TextId → List Place
  places_of around names = each (λ x. place_in (resolve_text same_text around (text_in texts x))) names

  -- The nodes of a tree among scopes, of which the first has the number k; of a list of trees also the numbers of each.
  abbrev mutual
    pub expr : Scopes → ℕ → Expr → List Entry
    expr around k (Name x) = record { node = node.Name (text_in texts x); places = places_of around (x ∷ []) } ∷ []
    expr around k (Number n) = plain (node.NumberLit n.number) []
    expr around k (Text x) = plain (node.TextLit (text_in texts x)) []
    expr around k This = plain node.This []
    expr around k ThisWorld = plain node.ThisWorld []
    expr around k Null = plain node.NullLit []
    expr around k (Boolean b) = plain (node.BoolLit b) []
    expr around k (Paren e) = plain (node.Paren (k - 1)) (expr around (k - 1) e)
    expr around k (ArrayLit xs) = let l = items around (k - 1) xs in plain (node.ArrayLit l.0) l.1
    expr around k (ObjectLit ps) = let l = properties around (k - 1) ps in plain (node.ObjectLit l.0) l.1
    expr around k (Function name formals body) = let l = elements (within name formals body around) (k - 1) body in plain (node.Function (label_in texts name) (texts_in formals) l.0) l.1
    expr around k (Dot e x) = plain (node.Dot (k - 1) (spelt_in texts x)) (expr around (k - 1) e)
    expr around k (At e i) = let l = expr around (k - 1) e in let b = below (k - 1) l in plain (node.At (k - 1) b) (l ++ expr around b i)
    expr around k (Call f xs) = let l = expr around (k - 1) f in let r = arguments around (below (k - 1) l) xs in plain (node.Call (k - 1) r.0) (l ++ r.1)
    expr around k (NewWith f xs) = let l = expr around (k - 1) f in let r = arguments around (below (k - 1) l) xs in plain (node.NewWith (k - 1) r.0) (l ++ r.1)
    expr around k (NewBare f) = plain (node.NewBare (k - 1)) (expr around (k - 1) f)
    expr around k (Postfix t op) = plain (node.Postfix (k - 1) op) (expr around (k - 1) t)
    expr around k (Prefix op e) = plain (node.Prefix op (k - 1)) (expr around (k - 1) e)
    expr around k (Binary a op b) = let l = expr around (k - 1) a in let r = below (k - 1) l in plain (node.Binary (k - 1) op r) (l ++ expr around r b)
    expr around k (Cond c a b) =
        let l = expr around (k - 1) c in
        let m = below (k - 1) l in
        let s = expr around m a in
        let n = below m s in
        plain (node.Cond (k - 1) m n) (l ++ (s ++ expr around n b))
    expr around k (Assign t op e) = let l = expr around (k - 1) t in let r = below (k - 1) l in plain (node.Assign (k - 1) op r) (l ++ expr around r e)
    expr around k (Comma a b) = let l = expr around (k - 1) a in let r = below (k - 1) l in plain (node.Comma (k - 1) r) (l ++ expr around r b)

    pub optional : Scopes → ℕ → Optional → Option ℕ × List Entry
    optional around k Absent = (None, [])
    optional around k (Present e) = (Some k, expr around k e)

    pub arguments : Scopes → ℕ → Arguments → List ℕ × List Entry
    arguments around k NoArgument = ([], [])
    arguments around k (Argument e rest) = let l = expr around k e in let r = arguments around (below k l) rest in (k ∷ r.0, l ++ r.1)

    pub items : Scopes → ℕ → Items → List (Option ℕ) × List Entry
    items around k NoItem = ([], [])
    items around k (Hole rest) = let r = items around k rest in (None ∷ r.0, r.1)
    items around k (Item e rest) = let l = expr around k e in let r = items around (below k l) rest in (Some k ∷ r.0, l ++ r.1)
    items around k (LastItem e) = (Some k ∷ [], expr around k e)

    pub properties : Scopes → ℕ → Properties → List (Key × ℕ) × List Entry
    properties around k NoProperty = ([], [])
    properties around k (Property key e rest) = let l = expr around k e in let r = properties around (below k l) rest in ((key_in texts key, k) ∷ r.0, l ++ r.1)
    properties around k (LastProperty key e) = ((key_in texts key, k) ∷ [], expr around k e)

    pub variables : Scopes → ℕ → Variables → List (Units × Option ℕ) × List Entry
    variables around k NoVariable = ([], [])
    variables around k (Variable x e rest) = let l = optional around k e in let r = variables around (below k l.1) rest in ((text_in texts x, l.0) ∷ r.0, l.1 ++ r.1)

    pub init : Scopes → ℕ → Init → node.Init × List Entry
    init around k NoInit = (node.NoInit, [])
    init around k (InitExpr e) = (node.InitExpr k, expr around k e)
    init around k (InitVar vs) = let l = variables around k vs in (node.InitVar l.0, l.1)

    pub stmt : Scopes → ℕ → Stmt → List Entry
    stmt around k (Block body) = block (stmts around (k - 1) body)
    stmt around k (Var vs end) = let l = variables around (k - 1) vs in record { node = node.Var l.0; places = places_of around (variable_names vs) } ∷ l.1
    stmt around k Empty = plain node.Empty []
    stmt around k (ExprStmt e end) = plain (node.Expr (k - 1)) (expr around (k - 1) e)
    stmt around k (If e s) = let l = expr around (k - 1) e in let r = below (k - 1) l in plain (node.If (k - 1) r None) (l ++ stmt around r s)
    stmt around k (IfElse e s u) =
        let l = expr around (k - 1) e in
        let m = below (k - 1) l in
        let t = stmt around m s in
        let n = below m t in
        plain (node.If (k - 1) m (Some n)) (l ++ (t ++ stmt around n u))
    stmt around k (DoWhile s e end) = let l = stmt around (k - 1) s in let r = below (k - 1) l in plain (node.DoWhile (k - 1) r) (l ++ expr around r e)
    stmt around k (While e s) = let l = expr around (k - 1) e in let r = below (k - 1) l in plain (node.While (k - 1) r) (l ++ stmt around r s)
    stmt around k (For first test update s) =
        let i = init around (k - 1) first in
        let a = below (k - 1) i.1 in
        let t = optional around a test in
        let b = below a t.1 in
        let u = optional around b update in
        let c = below b u.1 in
        record { node = node.For i.0 t.0 u.0 c; places = places_of around (init_names first) } ∷ (i.1 ++ (t.1 ++ (u.1 ++ stmt around c s)))
    stmt around k (ForIn t e s) =
        let l = expr around (k - 1) t in
        let m = below (k - 1) l in
        let v = expr around m e in
        let n = below m v in
        plain (node.ForIn (k - 1) m n) (l ++ (v ++ stmt around n s))
    stmt around k (ForVarIn x e s) =
        let l = expr around (k - 1) e in
        let r = below (k - 1) l in
        record { node = node.ForVarIn (text_in texts x) (k - 1) r; places = places_of around (x ∷ []) } ∷ (l ++ stmt around r s)
    stmt around k (Continue label end) = plain (node.Continue (label_in texts label)) []
    stmt around k (Break label end) = plain (node.Break (label_in texts label)) []
    stmt around k (Return e end) = let l = optional around (k - 1) e in plain (node.Return l.0) l.1
    stmt around k (Throw e end) = plain (node.Throw (k - 1)) (expr around (k - 1) e)
    stmt around k (Label x s) = plain (node.Label (text_in texts x) (k - 1)) (stmt around (k - 1) s)
    stmt around k (Switch e list) = let l = expr around (k - 1) e in let r = clauses around (below (k - 1) l) list in plain (node.Switch (k - 1) r.0) (l ++ r.1)
    stmt around k (TryCatch b x c) =
        let l = block (stmts around (k - 1 - 1) b) in
        let q = below (k - 1) l in
        plain (node.Try (k - 1) (Some (text_in texts x, q)) None) (l ++ block (stmts ((text_in texts x ∷ []) ∷ around) (q - 1) c))
    stmt around k (TryFinally b f) = let l = block (stmts around (k - 1 - 1) b) in let q = below (k - 1) l in plain (node.Try (k - 1) None (Some q)) (l ++ block (stmts around (q - 1) f))
    stmt around k (TryBoth b x c f) =
        let l = block (stmts around (k - 1 - 1) b) in
        let q = below (k - 1) l in
        let h = block (stmts ((text_in texts x ∷ []) ∷ around) (q - 1) c) in
        let r = below q h in
        plain (node.Try (k - 1) (Some (text_in texts x, q)) (Some r)) (l ++ (h ++ block (stmts around (r - 1) f)))
    stmt around k (Within e b) = let l = expr around (k - 1) e in let p = below (k - 1) l in plain (node.Within (k - 1) p) (l ++ block (stmts around (p - 1) b))

    pub stmts : Scopes → ℕ → Stmts → List ℕ × List Entry
    stmts around k NoStmt = ([], [])
    stmts around k (MoreStmts s rest) = let l = stmt around k s in let r = stmts around (below k l) rest in (k ∷ r.0, l ++ r.1)

    pub clauses : Scopes → ℕ → Clauses → List (Option ℕ × List ℕ) × List Entry
    clauses around k NoClause = ([], [])
    clauses around k (Case e body rest) =
        let l = expr around k e in
        let b = stmts around (below k l) body in
        let r = clauses around (below (below k l) b.1) rest in
        ((Some k, b.0) ∷ r.0, l ++ (b.1 ++ r.1))
    clauses around k (Default body rest) = let b = stmts around k body in let r = clauses around (below k b.1) rest in ((None, b.0) ∷ r.0, b.1 ++ r.1)

    pub elements : Scopes → ℕ → Elements → List ℕ × List Entry
    elements around k NoElement = ([], [])
    elements around k (Statement s rest) = let l = stmt around k s in let r = elements around (below k l) rest in (k ∷ r.0, l ++ r.1)
    elements around k (FunctionDecl x formals body rest) =
        let b = elements (within None formals body around) (k - 1) body in
        let l = plain (node.FunctionDecl (text_in texts x) (texts_in formals) b.0) b.1 in
        let r = elements around (below k l) rest in
        (k ∷ r.0, l ++ r.1)

  -- how many nodes elements are made of, wherever their numbers begin
  abbrev pub count : Elements → ℕ
  count program = length (elements [] 0 program).1

  -- the tree of a program
  abbrev pub tree_of : Elements → Tree
  tree_of program =
      let n = count program in
      let l = elements [] (n - 1) program in
      let entries = plain (node.Program l.0) l.1 in
      record { nodes = reverse (each (λ (e : Entry). e.node) entries); body = n; places = reverse (each (λ (e : Entry). e.places) entries) }

-- The names that are declared in a body: they are in the table, and the nodes have the same.
use Rattle.std.specs.Prelude.{◌≡◌, ℕ, List, [], ◌∷◌, ◌++◌, All, slice_get}
use Rattle.std.proofs.Common.{ap, subst, ◌∙◌, get_or}
use Rattle.std.proofs.lemmas.List.Elements.{All-nil, All-cons, All-append}
use Rattle.std.proofs.lemmas.Option.{slice_get_within, slice_get-get_or, get_or_from_slice_get}
use Rattle.wjs_base.specs.declared.ids.TextId.{TextId}
use Rattle.wjs_base.specs.Text.{Table, Has as HasText}
use Rattle.wjs_base.specs.declared.ids.NodeId.{NodeId}
use Rattle.wjs_tree.specs.declared.node.Node.{Node}
use Rattle.wjs_tree.specs.declared.node.Declarator.{Declarator}
use Rattle.wjs_tree.specs.declared.node.ForInit.{ForInit}
use Rattle.wjs_tree.specs.declared.node.Clause.{Clause}
use Rattle.wjs_tree.specs.Trees.{Variables, Init, Stmt, Stmts, Clauses, Elements, NoVariable, Variable, NoInit, InitExpr, InitVar, Block, Var, Empty, ExprStmt, If, IfElse, DoWhile, While, For, ForIn, ForVarIn, Continue, Break, Return, Throw, Label, Switch, TryCatch, TryFinally, TryBoth, Within, NoStmt, MoreStmts, NoClause, Case, Default, NoElement, Statement, FunctionDecl}
use Rattle.wjs_tree.specs.Shows.{Has, VariablesShow, InitShows, StmtShows, StmtsShow, ClausesShow, ElementsShow}
use Rattle.wjs_scope.specs.Declarations.{variable_names, init_names, names_declared, all_declared, clauses_declared, elements_declared}
use Rattle.wjs_scope.specs.Scopes.{declared_name, function_names}
use Rattle.wjs_scope.specs.Places.{KnowsPlaced, declarator_names, init_declares, placed_names}
use Rattle.wjs_model.specs.Texts.{KnowsNode}
use Rattle.wjs_model.proofs.Placed.{nodes_placed}
use Rattle.wjs_programs.specs.Numbered.{functions_declared}

module _ (ns : List Node) where
  pub names_shown : (t : Variables) (list : List Declarator) (used : List ℕ) → VariablesShow ns t list used → declarator_names list ≡ variable_names t
  names_shown NoVariable list used h = ap declarator_names h.0
  names_shown (Variable x e rest) list used h = ap declarator_names h.4 ∙ ap (λ (z : List TextId). x ∷ z) (names_shown rest h.1 h.3 h.7)

  pub init_shown : (t : Init) (init : ForInit) (used : List ℕ) → InitShows ns t init used → init_declares init ≡ init_names t
  init_shown NoInit init used h = ap init_declares h.0
  init_shown (InitExpr e) init used h = ap init_declares h.1
  init_shown (InitVar vs) init used h = ap init_declares h.1 ∙ names_shown vs h.0 used h.2

  -- ---- functions

  no_function : (t : Stmt) (i : NodeId) (used : List ℕ) → StmtShows ns t i used → declared_name (slice_get ns i.0) ≡ []
  no_function (Block body) i used h = ap declared_name h.2
  no_function (Var vs end) i used h = ap declared_name h.2
  no_function Empty i used h = ap declared_name h.0
  no_function (ExprStmt e end) i used h = ap declared_name h.2
  no_function (If e s) i used h = ap declared_name h.4
  no_function (IfElse e s u) i used h = ap declared_name h.6
  no_function (DoWhile s e end) i used h = ap declared_name h.4
  no_function (While e s) i used h = ap declared_name h.4
  no_function (For init test update s) i used h = ap declared_name h.8
  no_function (ForIn t e s) i used h = ap declared_name h.6
  no_function (ForVarIn x e s) i used h = ap declared_name h.4
  no_function (Continue label end) i used h = ap declared_name h.0
  no_function (Break label end) i used h = ap declared_name h.0
  no_function (Return e end) i used h = ap declared_name h.2
  no_function (Throw e end) i used h = ap declared_name h.2
  no_function (Label x s) i used h = ap declared_name h.2
  no_function (Switch e list) i used h = ap declared_name h.4
  no_function (TryCatch b x c) i used h = ap declared_name h.6
  no_function (TryFinally b f) i used h = ap declared_name h.6
  no_function (TryBoth b x c f) i used h = ap declared_name h.9
  no_function (Within e b) i used h = ap declared_name h.5

  pub functions_shown : (t : Elements) (list : List NodeId) (used : List ℕ) → ElementsShow ns t list used → function_names ns list ≡ functions_declared t
  functions_shown NoElement list used h = ap (function_names ns) h.0
  functions_shown (Statement s rest) list used h = ap (function_names ns) h.4 ∙ ap (λ (z : List TextId). z ++ function_names ns h.1) (no_function s h.0 h.2 h.6) ∙ functions_shown rest h.1 h.3 h.7
  functions_shown (FunctionDecl x formals body rest) list used h =
      ap (function_names ns) h.5 ∙ ap (λ z. declared_name z ++ function_names ns h.2) h.7 ∙ ap (λ (z : List TextId). x ∷ z) (functions_shown rest h.2 h.4 h.9)

-- ---- what the table knows

abbrev pub AreKnown : Table → List TextId → Type 0
AreKnown texts names = All (HasText texts) names

none : (texts : Table) → AreKnown texts []
none texts = All-nil (HasText texts)

both : (texts : Table) (xs ys : List TextId) → AreKnown texts xs → AreKnown texts ys → AreKnown texts (xs ++ ys)
both texts xs ys a b = All-append (HasText texts) xs ys a b

-- the names of `var`s, where the table has the names that have places
module _ (texts : Table) (ns : List Node) (placed : KnowsPlaced texts ns) where
  of_node : (i : NodeId) (n : Node) → Has ns i n → AreKnown texts (placed_names n)
  of_node i n has = λ k d lt. placed i n k (get_or (placed_names n) k d) has (slice_get-get_or (placed_names n) k d lt)

  of_variables : (t : Variables) (list : List Declarator) (used : List ℕ) → VariablesShow ns t list used → AreKnown texts (declarator_names list) → AreKnown texts (variable_names t)
  of_variables t list used h known = subst (AreKnown texts) (names_shown ns t list used h) known

  of_init : (t : Init) (init : ForInit) (used : List ℕ) → InitShows ns t init used → AreKnown texts (init_declares init) → AreKnown texts (init_names t)
  of_init t init used h known = subst (AreKnown texts) (init_shown ns t init used h) known

  mutual
    stmt_known : (t : Stmt) (i : NodeId) (used : List ℕ) → StmtShows ns t i used → AreKnown texts (names_declared t)
    stmt_known (Block body) i used h = stmts_known body h.0 h.1 h.4
    stmt_known (Var vs end) i used h = of_variables vs h.0 h.1 h.4 (of_node i _ h.2)
    stmt_known Empty i used h = none texts
    stmt_known (ExprStmt e end) i used h = none texts
    stmt_known (If e s) i used h = stmt_known s h.1 h.3 h.7
    stmt_known (IfElse e s u) i used h = both texts (names_declared s) (names_declared u) (stmt_known s h.1 h.4 h.9) (stmt_known u h.2 h.5 h.10)
    stmt_known (DoWhile s e end) i used h = stmt_known s h.0 h.2 h.6
    stmt_known (While e s) i used h = stmt_known s h.1 h.3 h.7
    stmt_known (For init test update s) i used h = both texts (init_names init) (names_declared s) (of_init init h.0 h.4 h.10 (of_node i _ h.8)) (stmt_known s h.3 h.7 h.13)
    stmt_known (ForIn t e s) i used h = stmt_known s h.2 h.5 h.10
    stmt_known (ForVarIn x e s) i used h = both texts (x ∷ []) (names_declared s) (of_node i _ h.4) (stmt_known s h.1 h.3 h.7)
    stmt_known (Continue label end) i used h = none texts
    stmt_known (Break label end) i used h = none texts
    stmt_known (Return e end) i used h = none texts
    stmt_known (Throw e end) i used h = none texts
    stmt_known (Label x s) i used h = stmt_known s h.0 h.1 h.4
    stmt_known (Switch e list) i used h = clauses_known list h.1 h.3 h.7
    stmt_known (TryCatch b x c) i used h = both texts (all_declared b) (all_declared c) (stmts_known b h.2 h.4 h.9) (stmts_known c h.3 h.5 h.11)
    stmt_known (TryFinally b f) i used h = both texts (all_declared b) (all_declared f) (stmts_known b h.2 h.4 h.9) (stmts_known f h.3 h.5 h.11)
    stmt_known (TryBoth b x c f) i used h =
        both texts (all_declared b) (all_declared c ++ all_declared f) (stmts_known b h.3 h.6 h.12) (both texts (all_declared c) (all_declared f) (stmts_known c h.4 h.7 h.14) (stmts_known f h.5 h.8 h.16))
    stmt_known (Within e b) i used h = stmts_known b h.2 h.4 h.9

    stmts_known : (t : Stmts) (list : List NodeId) (used : List ℕ) → StmtsShow ns t list used → AreKnown texts (all_declared t)
    stmts_known NoStmt list used h = none texts
    stmts_known (MoreStmts s rest) list used h = both texts (names_declared s) (all_declared rest) (stmt_known s h.0 h.2 h.6) (stmts_known rest h.1 h.3 h.7)

    clauses_known : (t : Clauses) (list : List Clause) (used : List ℕ) → ClausesShow ns t list used → AreKnown texts (clauses_declared t)
    clauses_known NoClause list used h = none texts
    clauses_known (Case e body rest) list used h = both texts (all_declared body) (clauses_declared rest) (stmts_known body h.1 h.4 h.9) (clauses_known rest h.2 h.5 h.10)
    clauses_known (Default body rest) list used h = both texts (all_declared body) (clauses_declared rest) (stmts_known body h.0 h.2 h.6) (clauses_known rest h.1 h.3 h.7)

  pub elements_known : (t : Elements) (list : List NodeId) (used : List ℕ) → ElementsShow ns t list used → AreKnown texts (elements_declared t)
  elements_known NoElement list used h = none texts
  elements_known (Statement s rest) list used h = both texts (names_declared s) (elements_declared rest) (stmt_known s h.0 h.2 h.6) (elements_known rest h.1 h.3 h.7)
  elements_known (FunctionDecl x formals body rest) list used h = elements_known rest h.2 h.4 h.9

-- the names of a function's scope, where the table has the texts of the nodes
module _ (texts : Table) (ns : List Node) (knows : All (KnowsNode texts) ns) where
  pub node_known : (i : NodeId) (n : Node) → Has ns i n → KnowsNode texts n
  node_known i n has = subst (KnowsNode texts) (get_or_from_slice_get ns i.0 n n has) (knows i.0 n (slice_get_within ns i.0 n has))

  functions_known : (t : Elements) (list : List NodeId) (used : List ℕ) → ElementsShow ns t list used → AreKnown texts (functions_declared t)
  functions_known NoElement list used h = none texts
  functions_known (Statement s rest) list used h = functions_known rest h.1 h.3 h.7
  functions_known (FunctionDecl x formals body rest) list used h = All-cons (HasText texts) x (functions_declared rest) (node_known h.0 _ h.7).0 (functions_known rest h.2 h.4 h.9)

  pub names_known : (formals : List TextId) (t : Elements) (list : List NodeId) (used : List ℕ) → AreKnown texts formals → ElementsShow ns t list used → AreKnown texts (formals ++ (functions_declared t ++ elements_declared t))
  names_known formals t list used known h =
      both texts formals (functions_declared t ++ elements_declared t) known (both texts (functions_declared t) (elements_declared t) (functions_known t list used h) (elements_known texts ns (nodes_placed texts ns knows) t list used h))

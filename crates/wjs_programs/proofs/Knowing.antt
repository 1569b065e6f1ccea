-- The texts of the nodes that stand for a tree are those of the tree.
use Rattle.std.specs.Prelude.{◌≡◌, ℕ, suc, zero, ◌<◌, List, [], ◌∷◌, ◌++◌, length, slice_get, Option, None, Some, All}
use Rattle.std.proofs.Common.{refl, sym, subst, below_more, arith}
use Rattle.std.proofs.lemmas.List.Elements.{All-nil, All-cons, All-append, All-head, All-tail}
use Rattle.std.proofs.lemmas.Option.{get_or_from_slice_get}
use Rattle.wjs_base.specs.declared.ids.TextId.{TextId}
use Rattle.wjs_base.specs.Text.{Table, Has as IsThere}
use Rattle.wjs_base.specs.declared.ids.NodeId.{NodeId}
use Rattle.wjs_tree.specs.declared.node.Node.{Node}
use Rattle.wjs_tree.specs.declared.node.Node.TheVariants as nodes
use Rattle.wjs_tree.specs.declared.node.Property.{Property as Pair}
use Rattle.wjs_tree.specs.declared.node.Declarator.{Declarator}
use Rattle.wjs_tree.specs.declared.node.ForInit.{ForInit}
use Rattle.wjs_tree.specs.declared.node.Clause.{Clause}
use Rattle.wjs_tree.specs.declared.node.Spelt.{Spelt}
use Rattle.wjs_tree.specs.declared.node.Spelt.TheVariants as spelt
use Rattle.wjs_tree.specs.declared.node.PropertyKey.{PropertyKey}
use Rattle.wjs_tree.specs.declared.node.PropertyKey.TheVariants as keys
use Rattle.wjs_tree.specs.Trees.{Expr, Optional, Arguments, Items, Properties, Variables, Init, Stmt, Stmts, Clauses, Elements, Name, Number, Text, This, ThisWorld, Null, Boolean, Paren, ArrayLit, ObjectLit, Function, Dot, At, Call, NewWith, NewBare, Postfix, Prefix, Binary, Cond, Assign, Comma, Absent, Present, NoArgument, Argument, NoItem, Hole, Item, LastItem, NoProperty, Property, LastProperty, NoVariable, Variable, NoInit, InitExpr, InitVar, Block, Var, Empty, ExprStmt, If, IfElse, DoWhile, While, For, ForIn, ForVarIn, Continue, Break, Return, Throw, Label, Switch, TryCatch, TryFinally, TryBoth, Within, NoStmt, MoreStmts, NoClause, Case, Default, NoElement, Statement, FunctionDecl}
use Rattle.wjs_tree.specs.Shows.{Has, Shows, OptionalShows, ArgumentsShow, ItemsShow, PropertiesShow, VariablesShow, InitShows, StmtShows, StmtsShow, ClausesShow, ElementsShow, has_tail, has_comma}
use Rattle.wjs_order.specs.Order.{falling, IsNumbered}
use Rattle.wjs_model.specs.Texts.{HasText, KnowsSpelt, KnowsKey, KnowsInit, KnowsNode}
use Rattle.wjs_programs.specs.Laws.{NodesAreKnown}
use Rattle.wjs_programs.proofs.Tokens.{texts_are_there}
use Rattle.wjs_programs.proofs.Names.{OptionNames, ListNames, SpeltNames, KeyNames, Names, OptionalNames, ArgumentsNames, ItemsNames, PropertiesNames, VariablesNames, InitNames, StmtNames, StmtsNames, ClausesNames, ElementsNames}

module _ (t : Table) (ns : List Node) where
  -- the number is that of a node whose texts are in the table
  abbrev pub IsKnown : ℕ → Type 0
  IsKnown n = (node : Node) × (slice_get ns n ≡ Some node) × KnowsNode t node

  -- ---- what stands in a node itself

  option_known : (x : Option TextId) → OptionNames (IsThere t) x → HasText t x
  option_known None k = tt
  option_known (Some x) k = k

  spelt_known : (s : Spelt) → SpeltNames (IsThere t) s → KnowsSpelt t s
  spelt_known (spelt.Word x) k = k
  spelt_known (spelt.Key key) k = tt

  key_known : (key : PropertyKey) → KeyNames (IsThere t) key → KnowsKey t key
  key_known (keys.Spelt s) k = spelt_known s k
  key_known (keys.Text x) k = k
  key_known (keys.Number n) k = tt

  list_known : (xs : List TextId) → ListNames (IsThere t) xs → All (IsThere t) xs
  list_known [] k = All-nil (IsThere t)
  list_known (x ∷ xs) k = All-cons (IsThere t) x xs k.0 (list_known xs k.1)

  abbrev KnowsPair : Pair → Type 0
  KnowsPair p = KnowsKey t p.key

  properties_known : (ps : Properties) (list : List Pair) (used : List ℕ) → PropertiesShow ns ps list used → PropertiesNames (IsThere t) ps → All KnowsPair list
  properties_known NoProperty list used h k = subst (All KnowsPair) (sym h.0) (All-nil KnowsPair)
  properties_known (Property key e rest) list used h k =
      subst (All KnowsPair) (sym h.4) (All-cons KnowsPair (record { key = key; value = h.0 }) h.1 (key_known key k.0) (properties_known rest h.1 h.3 h.7 k.2))
  properties_known (LastProperty key e) list used h k =
      subst (All KnowsPair) (sym h.1) (All-cons KnowsPair (record { key = key; value = h.0 }) [] (key_known key k.0) (All-nil KnowsPair))

  abbrev KnowsDeclarator : Declarator → Type 0
  KnowsDeclarator d = IsThere t d.name

  variables_known : (vs : Variables) (list : List Declarator) (used : List ℕ) → VariablesShow ns vs list used → VariablesNames (IsThere t) vs → All KnowsDeclarator list
  variables_known NoVariable list used h k = subst (All KnowsDeclarator) (sym h.0) (All-nil KnowsDeclarator)
  variables_known (Variable x e rest) list used h k =
      subst (All KnowsDeclarator) (sym h.4) (All-cons KnowsDeclarator (record { name = x; value = h.0 }) h.1 k.0 (variables_known rest h.1 h.3 h.7 k.2))

  init_known : (first : Init) (f : ForInit) (used : List ℕ) → InitShows ns first f used → InitNames (IsThere t) first → KnowsInit t f
  init_known NoInit f used h k = subst (KnowsInit t) (sym h.0) tt
  init_known (InitExpr e) f used h k = subst (KnowsInit t) (sym h.1) tt
  init_known (InitVar vs) f used h k = subst (KnowsInit t) (sym h.1) (variables_known vs h.0 used h.2 k)

  -- ---- the nodes that a tree is made of

  -- a node before those that its parts are made of
  form : (i : NodeId) (node : Node) (us used : List ℕ) → Has ns i node → used ≡ i.0 ∷ us → KnowsNode t node → All IsKnown us → All IsKnown used
  form i node us used has is known rest = subst (All IsKnown) (sym is) (All-cons IsKnown i.0 us (node, has, known) rest)

  leaf : (i : NodeId) (node : Node) (used : List ℕ) → Has ns i node → used ≡ i.0 ∷ [] → KnowsNode t node → All IsKnown used
  leaf i node used has is known = form i node [] used has is known (All-nil IsKnown)

  both : (us vs : List ℕ) → All IsKnown us → All IsKnown vs → All IsKnown (us ++ vs)
  both us vs a b = All-append IsKnown us vs a b

  joined : (us vs used : List ℕ) → used ≡ us ++ vs → All IsKnown us → All IsKnown vs → All IsKnown used
  joined us vs used is a b = subst (All IsKnown) (sym is) (both us vs a b)

  none : (used : List ℕ) → used ≡ [] → All IsKnown used
  none used is = subst (All IsKnown) (sym is) (All-nil IsKnown)

  block : (p : NodeId) (list : List NodeId) (us : List ℕ) → Has ns p (nodes.Block list) → All IsKnown us → All IsKnown (p.0 ∷ us)
  block p list us has rest = All-cons IsKnown p.0 us (nodes.Block list, has, tt) rest

  mutual
    expr_known : (e : Expr) (i : NodeId) (used : List ℕ) → Shows ns e i used → Names (IsThere t) e → All IsKnown used
    expr_known (Name x) i used h k = leaf i (nodes.Name x) used h.0 h.1 k
    expr_known (Number n) i used h k = leaf i (nodes.Number n) used h.0 h.1 tt
    expr_known (Text x) i used h k = leaf i (nodes.Text x) used h.0 h.1 k
    expr_known This i used h k = leaf i nodes.This used h.0 h.1 tt
    expr_known ThisWorld i used h k = leaf i nodes.ThisWorld used h.0 h.1 tt
    expr_known Null i used h k = leaf i nodes.Null used h.0 h.1 tt
    expr_known (Boolean b) i used h k = leaf i (nodes.Bool b) used h.0 h.1 tt
    expr_known (Paren e) i used h k = form i (nodes.Paren h.0) h.1 used h.2 h.3 tt (expr_known e h.0 h.1 h.4 k)
    expr_known (ArrayLit xs) i used h k = form i (nodes.ArrayLit h.0 (has_tail xs)) h.1 used h.2 h.3 tt (items_known xs h.0 h.1 h.4 k)
    expr_known (ObjectLit ps) i used h k = form i (nodes.ObjectLit h.0 (has_comma ps)) h.1 used h.2 h.3 (properties_known ps h.0 h.1 h.4 k) (values_known ps h.0 h.1 h.4 k)
    expr_known (Function name formals body) i used h k =
        form i (nodes.Function name formals h.0) h.1 used h.2 h.3 (option_known name k.0, list_known formals k.1) (elements_known body h.0 h.1 h.4 k.2)
    expr_known (Dot e x) i used h k = form i (nodes.Dot h.0 x) h.1 used h.2 h.3 (spelt_known x k.1) (expr_known e h.0 h.1 h.4 k.0)
    expr_known (At e j) i used h k = form i (nodes.At h.0 h.1) (h.2 ++ h.3) used h.4 h.5 tt (both h.2 h.3 (expr_known e h.0 h.2 h.6 k.0) (expr_known j h.1 h.3 h.7 k.1))
    expr_known (Call f xs) i used h k = form i (nodes.Call h.0 h.1) (h.2 ++ h.3) used h.4 h.5 tt (both h.2 h.3 (expr_known f h.0 h.2 h.6 k.0) (arguments_known xs h.1 h.3 h.7 k.1))
    expr_known (NewWith f xs) i used h k = form i (nodes.NewWith h.0 h.1) (h.2 ++ h.3) used h.4 h.5 tt (both h.2 h.3 (expr_known f h.0 h.2 h.6 k.0) (arguments_known xs h.1 h.3 h.7 k.1))
    expr_known (NewBare f) i used h k = form i (nodes.NewBare h.0) h.1 used h.2 h.3 tt (expr_known f h.0 h.1 h.4 k)
    expr_known (Postfix e op) i used h k = form i (nodes.Postfix h.0 op) h.1 used h.2 h.3 tt (expr_known e h.0 h.1 h.4 k)
    expr_known (Prefix op e) i used h k = form i (nodes.Prefix op h.0) h.1 used h.2 h.3 tt (expr_known e h.0 h.1 h.4 k)
    expr_known (Binary l op r) i used h k = form i (nodes.Binary h.0 op h.1) (h.2 ++ h.3) used h.4 h.5 tt (both h.2 h.3 (expr_known l h.0 h.2 h.6 k.0) (expr_known r h.1 h.3 h.7 k.1))
    expr_known (Cond c x y) i used h k =
        form i (nodes.Cond h.0 h.1 h.2) (h.3 ++ (h.4 ++ h.5)) used h.6 h.7 tt
        (both h.3 (h.4 ++ h.5) (expr_known c h.0 h.3 h.8 k.0) (both h.4 h.5 (expr_known x h.1 h.4 h.9 k.1) (expr_known y h.2 h.5 h.10 k.2)))
    expr_known (Assign l op r) i used h k = form i (nodes.Assign h.0 op h.1) (h.2 ++ h.3) used h.4 h.5 tt (both h.2 h.3 (expr_known l h.0 h.2 h.6 k.0) (expr_known r h.1 h.3 h.7 k.1))
    expr_known (Comma l r) i used h k = form i (nodes.Comma h.0 h.1) (h.2 ++ h.3) used h.4 h.5 tt (both h.2 h.3 (expr_known l h.0 h.2 h.6 k.0) (expr_known r h.1 h.3 h.7 k.1))

    optional_known : (e : Optional) (o : Option NodeId) (used : List ℕ) → OptionalShows ns e o used → OptionalNames (IsThere t) e → All IsKnown used
    optional_known Absent o used h k = none used h.1
    optional_known (Present e) o used h k = expr_known e h.0 used h.2 k

    arguments_known : (xs : Arguments) (list : List NodeId) (used : List ℕ) → ArgumentsShow ns xs list used → ArgumentsNames (IsThere t) xs → All IsKnown used
    arguments_known NoArgument list used h k = none used h.1
    arguments_known (Argument e rest) list used h k = joined h.2 h.3 used h.5 (expr_known e h.0 h.2 h.6 k.0) (arguments_known rest h.1 h.3 h.7 k.1)

    items_known : (xs : Items) (list : List (Option NodeId)) (used : List ℕ) → ItemsShow ns xs list used → ItemsNames (IsThere t) xs → All IsKnown used
    items_known NoItem list used h k = none used h.1
    items_known (Hole rest) list used h k = items_known rest h.0 used h.2 k
    items_known (Item e rest) list used h k = joined h.2 h.3 used h.5 (expr_known e h.0 h.2 h.6 k.0) (items_known rest h.1 h.3 h.7 k.1)
    items_known (LastItem e) list used h k = expr_known e h.0 used h.2 k

    values_known : (ps : Properties) (list : List Pair) (used : List ℕ) → PropertiesShow ns ps list used → PropertiesNames (IsThere t) ps → All IsKnown used
    values_known NoProperty list used h k = none used h.1
    values_known (Property key e rest) list used h k = joined h.2 h.3 used h.5 (expr_known e h.0 h.2 h.6 k.1) (values_known rest h.1 h.3 h.7 k.2)
    values_known (LastProperty key e) list used h k = expr_known e h.0 used h.2 k.1

    initialisers_known : (vs : Variables) (list : List Declarator) (used : List ℕ) → VariablesShow ns vs list used → VariablesNames (IsThere t) vs → All IsKnown used
    initialisers_known NoVariable list used h k = none used h.1
    initialisers_known (Variable x e rest) list used h k = joined h.2 h.3 used h.5 (optional_known e h.0 h.2 h.6 k.1) (initialisers_known rest h.1 h.3 h.7 k.2)

    first_known : (first : Init) (f : ForInit) (used : List ℕ) → InitShows ns first f used → InitNames (IsThere t) first → All IsKnown used
    first_known NoInit f used h k = none used h.1
    first_known (InitExpr e) f used h k = expr_known e h.0 used h.2 k
    first_known (InitVar vs) f used h k = initialisers_known vs h.0 used h.2 k

    stmt_known : (s : Stmt) (i : NodeId) (used : List ℕ) → StmtShows ns s i used → StmtNames (IsThere t) s → All IsKnown used
    stmt_known (Block body) i used h k = form i (nodes.Block h.0) h.1 used h.2 h.3 tt (stmts_known body h.0 h.1 h.4 k)
    stmt_known (Var vs end) i used h k = form i (nodes.Var h.0 end) h.1 used h.2 h.3 (variables_known vs h.0 h.1 h.4 k) (initialisers_known vs h.0 h.1 h.4 k)
    stmt_known Empty i used h k = leaf i nodes.Empty used h.0 h.1 tt
    stmt_known (ExprStmt e end) i used h k = form i (nodes.Expr h.0 end) h.1 used h.2 h.3 tt (expr_known e h.0 h.1 h.4 k)
    stmt_known (If e s) i used h k = form i (nodes.If h.0 h.1 None) (h.2 ++ h.3) used h.4 h.5 tt (both h.2 h.3 (expr_known e h.0 h.2 h.6 k.0) (stmt_known s h.1 h.3 h.7 k.1))
    stmt_known (IfElse e s u) i used h k =
        form i (nodes.If h.0 h.1 (Some h.2)) (h.3 ++ (h.4 ++ h.5)) used h.6 h.7 tt
        (both h.3 (h.4 ++ h.5) (expr_known e h.0 h.3 h.8 k.0) (both h.4 h.5 (stmt_known s h.1 h.4 h.9 k.1) (stmt_known u h.2 h.5 h.10 k.2)))
    stmt_known (DoWhile s e end) i used h k = form i (nodes.DoWhile h.0 h.1 end) (h.2 ++ h.3) used h.4 h.5 tt (both h.2 h.3 (stmt_known s h.0 h.2 h.6 k.0) (expr_known e h.1 h.3 h.7 k.1))
    stmt_known (While e s) i used h k = form i (nodes.While h.0 h.1) (h.2 ++ h.3) used h.4 h.5 tt (both h.2 h.3 (expr_known e h.0 h.2 h.6 k.0) (stmt_known s h.1 h.3 h.7 k.1))
    stmt_known (For first test update s) i used h k =
        form i (nodes.For h.0 h.1 h.2 h.3) (h.4 ++ (h.5 ++ (h.6 ++ h.7))) used h.8 h.9 (init_known first h.0 h.4 h.10 k.0)
        (both h.4 (h.5 ++ (h.6 ++ h.7)) (first_known first h.0 h.4 h.10 k.0)
        (both h.5 (h.6 ++ h.7) (optional_known test h.1 h.5 h.11 k.1) (both h.6 h.7 (optional_known update h.2 h.6 h.12 k.2) (stmt_known s h.3 h.7 h.13 k.3))))
    stmt_known (ForIn l e s) i used h k =
        form i (nodes.ForIn h.0 h.1 h.2) (h.3 ++ (h.4 ++ h.5)) used h.6 h.7 tt
        (both h.3 (h.4 ++ h.5) (expr_known l h.0 h.3 h.8 k.0) (both h.4 h.5 (expr_known e h.1 h.4 h.9 k.1) (stmt_known s h.2 h.5 h.10 k.2)))
    stmt_known (ForVarIn x e s) i used h k = form i (nodes.ForVarIn x h.0 h.1) (h.2 ++ h.3) used h.4 h.5 k.0 (both h.2 h.3 (expr_known e h.0 h.2 h.6 k.1) (stmt_known s h.1 h.3 h.7 k.2))
    stmt_known (Continue label end) i used h k = leaf i (nodes.Continue label end) used h.0 h.1 (option_known label k)
    stmt_known (Break label end) i used h k = leaf i (nodes.Break label end) used h.0 h.1 (option_known label k)
    stmt_known (Return e end) i used h k = form i (nodes.Return h.0 end) h.1 used h.2 h.3 tt (optional_known e h.0 h.1 h.4 k)
    stmt_known (Throw e end) i used h k = form i (nodes.Throw h.0 end) h.1 used h.2 h.3 tt (expr_known e h.0 h.1 h.4 k)
    stmt_known (Label x s) i used h k = form i (nodes.Label x h.0) h.1 used h.2 h.3 k.0 (stmt_known s h.0 h.1 h.4 k.1)
    stmt_known (Switch e list) i used h k = form i (nodes.Switch h.0 h.1) (h.2 ++ h.3) used h.4 h.5 tt (both h.2 h.3 (expr_known e h.0 h.2 h.6 k.0) (clauses_known list h.1 h.3 h.7 k.1))
    stmt_known (TryCatch b x c) i used h k =
        form i (nodes.Try h.0 (Some (record { name = x; block = h.1 })) None) ((h.0.0 ∷ h.4) ++ (h.1.0 ∷ h.5)) used h.6 h.7 k.1
        (both (h.0.0 ∷ h.4) (h.1.0 ∷ h.5) (block h.0 h.2 h.4 h.8 (stmts_known b h.2 h.4 h.9 k.0)) (block h.1 h.3 h.5 h.10 (stmts_known c h.3 h.5 h.11 k.2)))
    stmt_known (TryFinally b f) i used h k =
        form i (nodes.Try h.0 None (Some h.1)) ((h.0.0 ∷ h.4) ++ (h.1.0 ∷ h.5)) used h.6 h.7 tt
        (both (h.0.0 ∷ h.4) (h.1.0 ∷ h.5) (block h.0 h.2 h.4 h.8 (stmts_known b h.2 h.4 h.9 k.0)) (block h.1 h.3 h.5 h.10 (stmts_known f h.3 h.5 h.11 k.1)))
    stmt_known (TryBoth b x c f) i used h k =
        form i (nodes.Try h.0 (Some (record { name = x; block = h.1 })) (Some h.2)) ((h.0.0 ∷ h.6) ++ ((h.1.0 ∷ h.7) ++ (h.2.0 ∷ h.8))) used h.9 h.10 k.1
        (both (h.0.0 ∷ h.6) ((h.1.0 ∷ h.7) ++ (h.2.0 ∷ h.8)) (block h.0 h.3 h.6 h.11 (stmts_known b h.3 h.6 h.12 k.0))
        (both (h.1.0 ∷ h.7) (h.2.0 ∷ h.8) (block h.1 h.4 h.7 h.13 (stmts_known c h.4 h.7 h.14 k.2)) (block h.2 h.5 h.8 h.15 (stmts_known f h.5 h.8 h.16 k.3))))
    stmt_known (Within e b) i used h k =
        form i (nodes.Within h.0 h.1) (h.3 ++ (h.1.0 ∷ h.4)) used h.5 h.6 tt (both h.3 (h.1.0 ∷ h.4) (expr_known e h.0 h.3 h.7 k.0) (block h.1 h.2 h.4 h.8 (stmts_known b h.2 h.4 h.9 k.1)))

    stmts_known : (s : Stmts) (list : List NodeId) (used : List ℕ) → StmtsShow ns s list used → StmtsNames (IsThere t) s → All IsKnown used
    stmts_known NoStmt list used h k = none used h.1
    stmts_known (MoreStmts s rest) list used h k = joined h.2 h.3 used h.5 (stmt_known s h.0 h.2 h.6 k.0) (stmts_known rest h.1 h.3 h.7 k.1)

    clauses_known : (c : Clauses) (list : List Clause) (used : List ℕ) → ClausesShow ns c list used → ClausesNames (IsThere t) c → All IsKnown used
    clauses_known NoClause list used h k = none used h.1
    clauses_known (Case e body rest) list used h k =
        joined h.3 (h.4 ++ h.5) used h.7 (expr_known e h.0 h.3 h.8 k.0) (both h.4 h.5 (stmts_known body h.1 h.4 h.9 k.1) (clauses_known rest h.2 h.5 h.10 k.2))
    clauses_known (Default body rest) list used h k = joined h.2 h.3 used h.5 (stmts_known body h.0 h.2 h.6 k.0) (clauses_known rest h.1 h.3 h.7 k.1)

    elements_known : (e : Elements) (list : List NodeId) (used : List ℕ) → ElementsShow ns e list used → ElementsNames (IsThere t) e → All IsKnown used
    elements_known NoElement list used h k = none used h.1
    elements_known (Statement s rest) list used h k = joined h.2 h.3 used h.5 (stmt_known s h.0 h.2 h.6 k.0) (elements_known rest h.1 h.3 h.7 k.1)
    elements_known (FunctionDecl x formals body rest) list used h k =
        joined (h.0.0 ∷ h.3) h.4 used h.6
        (form h.0 (nodes.FunctionDecl x formals h.1) h.3 (h.0.0 ∷ h.3) h.7 refl (k.0, list_known formals k.1) (elements_known body h.1 h.3 h.8 k.2))
        (elements_known rest h.2 h.4 h.9 k.3)

  -- ---- where these are all nodes

  falling_known : (n : ℕ) → All IsKnown (falling n) → (i : ℕ) → i < n → IsKnown i
  falling_known zero each i lt = absurd (omega arith)
  falling_known (suc n) each i lt = below_more IsKnown n (falling_known n (All-tail IsKnown n (falling n) each)) (All-head IsKnown n (falling n) each) i (omega arith)

  -- the texts of all nodes are in the table where those of the tree are
  nodes_known : (tree : Elements) (body : NodeId) → IsNumbered ns tree body → ElementsNames (IsThere t) tree → All (KnowsNode t) ns
  nodes_known tree body numbered k =
      let is = numbered.is in
      let each = All-cons IsKnown body.0 is.used (nodes.Program is.list, is.has, tt) (elements_known tree is.list is.used is.shows k) in
      let all : All IsKnown (falling (length ns)) = subst (All IsKnown) numbered.order each in
      λ i d lt. let n = falling_known (length ns) all i lt in subst (KnowsNode t) (sym (get_or_from_slice_get ns i n.0 d n.1)) n.2

pub nodes_are_known : NodesAreKnown
nodes_are_known bytes texts toks tree ns body tokens stands numbered = nodes_known texts ns tree body numbered (texts_are_there bytes texts toks tree tokens stands)

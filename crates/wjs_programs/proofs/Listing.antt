-- The entries of a program's nodes are those of its tree.
use Rattle.std.specs.Prelude.{◌≡◌, ℕ, ◌-◌, List, [], ◌∷◌, ◌++◌, map as each, Option, None, Some}
use Rattle.std.proofs.Common.{refl, sym, ap, subst, inl, inr}
use Rattle.wjs_base.specs.declared.ids.TextId.{TextId}
use Rattle.wjs_base.specs.Text.{Table}
use Rattle.wjs_base.specs.declared.ids.NodeId.{NodeId}
use Rattle.wjs_tree.specs.declared.node.Node.{Node as NumberedNode}
use Rattle.wjs_tree.specs.declared.node.Property.{Property as Pair}
use Rattle.wjs_tree.specs.declared.node.Declarator.{Declarator}
use Rattle.wjs_tree.specs.declared.node.ForInit.{ForInit}
use Rattle.wjs_tree.specs.declared.node.Clause.{Clause}
use Rattle.wjs_tree.specs.Trees.{Expr, Optional, Arguments, Items, Properties, Variables, Init, Stmt, Stmts, Clauses, Elements, Name, Number, Text, This, ThisWorld, Null, Boolean, Paren, ArrayLit, ObjectLit, Function, Dot, At, Call, NewWith, NewBare, Postfix, Prefix, Binary, Cond, Assign, Comma, Absent, Present, NoArgument, Argument, NoItem, Hole, Item, LastItem, NoProperty, Property, LastProperty, NoVariable, Variable, NoInit, InitExpr, InitVar, Block, Var, Empty, ExprStmt, If, IfElse, DoWhile, While, For, ForIn, ForVarIn, Continue, Break, Return, Throw, Label, Switch, TryCatch, TryFinally, TryBoth, Within, NoStmt, MoreStmts, NoClause, Case, Default, NoElement, Statement, FunctionDecl}
use Rattle.wjs_tree.specs.Shows.{Has, Shows, OptionalShows, ArgumentsShow, ItemsShow, PropertiesShow, VariablesShow, InitShows, StmtShows, StmtsShow, ClausesShow, ElementsShow}
use Rattle.wjs_scope.specs.Declarations.{variable_names, init_names}
use Rattle.wjs_scope.specs.Nesting.{Around, parts, on_side, IsAmong, option_part, item_parts, property_parts, initialisers, init_parts, clause_parts}
use Rattle.wjs_scope.specs.Places.{placed_names}
use Rattle.wjs_by_content.specs.Values.{Text as Units}
use Rattle.wjs_by_content.specs.Tables.{text_in}
use Rattle.wjs_meaning.specs.Trees.{Key, Node}
use Rattle.wjs_meaning.specs.Trees as node
use Rattle.wjs_meaning.specs.Reading.{numbers, number, spelt_in, key_in, pair_in, variable_in, init_in, clause_in, label_in, node_in}
use Rattle.wjs_programs.specs.Numbered.{Scopes, Entry, plain, below, texts_in, places_of, within, expr, optional, arguments, items, properties, variables, init, block, stmt, stmts, clauses, elements}
use Rattle.wjs_programs.proofs.Parts.{Part, nothing, only, joined, pair, node_with}
use Rattle.wjs_programs.proofs.Declared.{names_shown, init_shown}
use Rattle.wjs_programs.proofs.Steps.{Steps, AllAmong, all_apart, all_among}

module _ (texts : Table) (ns : List NumberedNode) (HasEntry : ℕ → Entry → Type 0) (Among : NodeId → Scopes → Type 0) (steps : Steps texts ns HasEntry Among) where
  pub of_parts : (i : NodeId) (around : Scopes) (ids : List NodeId) {n : NumberedNode} → Has ns i n → Among i around → parts n ≡ on_side Around ids → AllAmong Among around ids
  of_parts i around ids {n} has a same = all_among Among Around around ids (λ j b. steps.part i j around n has a (subst (λ z. IsAmong z (j, Around)) (sym same) b))

  -- a node with names of its own, and its parts
  named_part : {V : Type 0} {said is : V} {used us : List ℕ} {k : ℕ} {l : List Entry} {n : NumberedNode} (i : NodeId) (around : Scopes) (form : V → Node) (names : List TextId) → Has ns i n → Among i around → used ≡ i.0 ∷ us
      → node_in texts n ≡ form said → placed_names n ≡ names → Part HasEntry V said is us (k - 1) l → Part HasEntry ℕ i.0 k used k (record { node = form is; places = places_of texts around names } ∷ l)
  named_part {said = said} {n = n} i around form names has a parted same named p =
      node_with HasEntry i.0 form (places_of texts around names) parted
      (subst (λ z. HasEntry i.0 (record { node = z; places = places_of texts around names })) same (subst (λ z. HasEntry i.0 (record { node = node_in texts n; places = places_of texts around z })) named (steps.entry i around n has a))) p

  pub plain_part : {V : Type 0} {said is : V} {used us : List ℕ} {k : ℕ} {l : List Entry} {n : NumberedNode} (i : NodeId) (around : Scopes) (form : V → Node) → Has ns i n → Among i around → used ≡ i.0 ∷ us → node_in texts n ≡ form said → placed_names n ≡ []
      → Part HasEntry V said is us (k - 1) l → Part HasEntry ℕ i.0 k used k (plain (form is) l)
  plain_part i around form has a parted same none p = named_part i around form [] has a parted same none p

  -- a node without parts
  named_leaf : {used : List ℕ} {n : NumberedNode} (k : ℕ) (i : NodeId) (around : Scopes) (form : Node) (names : List TextId) → Has ns i n → Among i around → used ≡ i.0 ∷ [] → node_in texts n ≡ form → placed_names n ≡ names
      → Part HasEntry ℕ i.0 k used k (record { node = form; places = places_of texts around names } ∷ [])
  named_leaf k i around form names has a parted same named = named_part {V = Unit {0}} {said = tt} {is = tt} i around (λ (z : Unit {0}). form) names has a parted same named (nothing HasEntry (k - 1) refl refl)

  plain_leaf : {used : List ℕ} {n : NumberedNode} (k : ℕ) (i : NodeId) (around : Scopes) (form : Node) → Has ns i n → Among i around → used ≡ i.0 ∷ [] → node_in texts n ≡ form → placed_names n ≡ [] → Part HasEntry ℕ i.0 k used k (plain form [])
  plain_leaf k i around form has a parted same none = named_leaf k i around form [] has a parted same none

  mutual
    pub expr_part : (around : Scopes) (k : ℕ) (t : Expr) (i : NodeId) (used : List ℕ) → Shows ns t i used → Among i around → Part HasEntry ℕ i.0 k used k (expr texts around k t)
    expr_part around k (Name x) i used h a = named_leaf k i around (node.Name (text_in texts x)) (x ∷ []) h.0 a h.1 refl refl
    expr_part around k (Number n) i used h a = plain_leaf k i around (node.NumberLit n.number) h.0 a h.1 refl refl
    expr_part around k (Text x) i used h a = plain_leaf k i around (node.TextLit (text_in texts x)) h.0 a h.1 refl refl
    expr_part around k This i used h a = plain_leaf k i around node.This h.0 a h.1 refl refl
    expr_part around k ThisWorld i used h a = plain_leaf k i around node.ThisWorld h.0 a h.1 refl refl
    expr_part around k Null i used h a = plain_leaf k i around node.NullLit h.0 a h.1 refl refl
    expr_part around k (Boolean b) i used h a = plain_leaf k i around (node.BoolLit b) h.0 a h.1 refl refl
    expr_part around k (Paren e) i used h a = plain_part i around (λ (v : ℕ). node.Paren v) h.2 a h.3 refl refl (expr_part around (k - 1) e h.0 h.1 h.4 (of_parts i around (h.0 ∷ []) h.2 a refl).0)
    expr_part around k (ArrayLit xs) i used h a = plain_part i around (λ (v : List (Option ℕ)). node.ArrayLit v) h.2 a h.3 refl refl (items_part around (k - 1) xs h.0 h.1 h.4 (of_parts i around (item_parts h.0) h.2 a refl))
    expr_part around k (ObjectLit ps) i used h a = plain_part i around (λ (v : List (Key × ℕ)). node.ObjectLit v) h.2 a h.3 refl refl (properties_part around (k - 1) ps h.0 h.1 h.4 (of_parts i around (property_parts h.0) h.2 a refl))
    expr_part around k (Function name formals body) i used h a =
        plain_part i around (λ (v : List ℕ). node.Function (label_in texts name) (texts_in texts formals) v) h.2 a h.3 refl refl
        (elements_part (within texts name formals body around) (k - 1) body h.0 h.1 h.4 (steps.inside i name formals h.0 body h.1 around h.2 a h.4))
    expr_part around k (Dot e x) i used h a = plain_part i around (λ (v : ℕ). node.Dot v (spelt_in texts x)) h.2 a h.3 refl refl (expr_part around (k - 1) e h.0 h.1 h.4 (of_parts i around (h.0 ∷ []) h.2 a refl).0)
    expr_part around k (NewBare e) i used h a = plain_part i around (λ (v : ℕ). node.NewBare v) h.2 a h.3 refl refl (expr_part around (k - 1) e h.0 h.1 h.4 (of_parts i around (h.0 ∷ []) h.2 a refl).0)
    expr_part around k (Postfix e op) i used h a = plain_part i around (λ (v : ℕ). node.Postfix v op) h.2 a h.3 refl refl (expr_part around (k - 1) e h.0 h.1 h.4 (of_parts i around (h.0 ∷ []) h.2 a refl).0)
    expr_part around k (Prefix op e) i used h a = plain_part i around (λ (v : ℕ). node.Prefix op v) h.2 a h.3 refl refl (expr_part around (k - 1) e h.0 h.1 h.4 (of_parts i around (h.0 ∷ []) h.2 a refl).0)
    expr_part around k (At e x) i used h a =
        let z = of_parts i around (h.0 ∷ h.1 ∷ []) h.4 a refl in
        plain_part i around (λ (v : ℕ × ℕ). node.At v.0 v.1) h.4 a h.5 refl refl
        (pair HasEntry (expr_part around (k - 1) e h.0 h.2 h.6 z.0) (expr_part around (below (k - 1) (expr texts around (k - 1) e)) x h.1 h.3 h.7 z.1.0))
    expr_part around k (Call e xs) i used h a =
        let z = of_parts i around (h.0 ∷ h.1) h.4 a refl in
        plain_part i around (λ (v : ℕ × List ℕ). node.Call v.0 v.1) h.4 a h.5 refl refl
        (pair HasEntry (expr_part around (k - 1) e h.0 h.2 h.6 z.0) (arguments_part around (below (k - 1) (expr texts around (k - 1) e)) xs h.1 h.3 h.7 z.1))
    expr_part around k (NewWith e xs) i used h a =
        let z = of_parts i around (h.0 ∷ h.1) h.4 a refl in
        plain_part i around (λ (v : ℕ × List ℕ). node.NewWith v.0 v.1) h.4 a h.5 refl refl
        (pair HasEntry (expr_part around (k - 1) e h.0 h.2 h.6 z.0) (arguments_part around (below (k - 1) (expr texts around (k - 1) e)) xs h.1 h.3 h.7 z.1))
    expr_part around k (Binary l op r) i used h a =
        let z = of_parts i around (h.0 ∷ h.1 ∷ []) h.4 a refl in
        plain_part i around (λ (v : ℕ × ℕ). node.Binary v.0 op v.1) h.4 a h.5 refl refl
        (pair HasEntry (expr_part around (k - 1) l h.0 h.2 h.6 z.0) (expr_part around (below (k - 1) (expr texts around (k - 1) l)) r h.1 h.3 h.7 z.1.0))
    expr_part around k (Cond c x y) i used h a =
        let z = of_parts i around (h.0 ∷ h.1 ∷ h.2 ∷ []) h.6 a refl in
        let m = below (k - 1) (expr texts around (k - 1) c) in
        plain_part i around (λ (v : ℕ × (ℕ × ℕ)). node.Cond v.0 v.1.0 v.1.1) h.6 a h.7 refl refl
        (pair HasEntry (expr_part around (k - 1) c h.0 h.3 h.8 z.0) (pair HasEntry (expr_part around m x h.1 h.4 h.9 z.1.0) (expr_part around (below m (expr texts around m x)) y h.2 h.5 h.10 z.1.1.0)))
    expr_part around k (Assign e op x) i used h a =
        let z = of_parts i around (h.0 ∷ h.1 ∷ []) h.4 a refl in
        plain_part i around (λ (v : ℕ × ℕ). node.Assign v.0 op v.1) h.4 a h.5 refl refl
        (pair HasEntry (expr_part around (k - 1) e h.0 h.2 h.6 z.0) (expr_part around (below (k - 1) (expr texts around (k - 1) e)) x h.1 h.3 h.7 z.1.0))
    expr_part around k (Comma l r) i used h a =
        let z = of_parts i around (h.0 ∷ h.1 ∷ []) h.4 a refl in
        plain_part i around (λ (v : ℕ × ℕ). node.Comma v.0 v.1) h.4 a h.5 refl refl
        (pair HasEntry (expr_part around (k - 1) l h.0 h.2 h.6 z.0) (expr_part around (below (k - 1) (expr texts around (k - 1) l)) r h.1 h.3 h.7 z.1.0))

    pub optional_part : (around : Scopes) (k : ℕ) (t : Optional) (o : Option NodeId) (used : List ℕ) → OptionalShows ns t o used → AllAmong Among around (option_part o)
        → Part HasEntry (Option ℕ) (number o) (optional texts around k t).0 used k (optional texts around k t).1
    optional_part around k Absent o used h a = nothing HasEntry k (ap number h.0) h.1
    optional_part around k (Present e) o used h a = only HasEntry (λ (v : ℕ). Some v) (ap number h.1) (expr_part around k e h.0 used h.2 (subst (λ z. AllAmong Among around (option_part z)) h.1 a).0)

    pub arguments_part : (around : Scopes) (k : ℕ) (t : Arguments) (list : List NodeId) (used : List ℕ) → ArgumentsShow ns t list used → AllAmong Among around list
        → Part HasEntry (List ℕ) (numbers list) (arguments texts around k t).0 used k (arguments texts around k t).1
    arguments_part around k NoArgument list used h a = nothing HasEntry k (ap numbers h.0) h.1
    arguments_part around k (Argument e rest) list used h a =
        let z = subst (AllAmong Among around) h.4 a in
        joined HasEntry (λ (v : ℕ) (w : List ℕ). v ∷ w) (ap numbers h.4) h.5 (expr_part around k e h.0 h.2 h.6 z.0) (arguments_part around (below k (expr texts around k e)) rest h.1 h.3 h.7 z.1)

    pub items_part : (around : Scopes) (k : ℕ) (t : Items) (list : List (Option NodeId)) (used : List ℕ) → ItemsShow ns t list used → AllAmong Among around (item_parts list)
        → Part HasEntry (List (Option ℕ)) (each number list) (items texts around k t).0 used k (items texts around k t).1
    items_part around k NoItem list used h a = nothing HasEntry k (ap (λ z. each number z) h.0) h.1
    items_part around k (Hole rest) list used h a = only HasEntry (λ (w : List (Option ℕ)). None ∷ w) (ap (λ z. each number z) h.1) (items_part around k rest h.0 used h.2 (subst (λ z. AllAmong Among around (item_parts z)) h.1 a))
    items_part around k (Item e rest) list used h a =
        let z = subst (λ z. AllAmong Among around (item_parts z)) h.4 a in
        joined HasEntry (λ (v : ℕ) (w : List (Option ℕ)). Some v ∷ w) (ap (λ z. each number z) h.4) h.5 (expr_part around k e h.0 h.2 h.6 z.0) (items_part around (below k (expr texts around k e)) rest h.1 h.3 h.7 z.1)
    items_part around k (LastItem e) list used h a = only HasEntry (λ (v : ℕ). Some v ∷ []) (ap (λ z. each number z) h.1) (expr_part around k e h.0 used h.2 (subst (λ z. AllAmong Among around (item_parts z)) h.1 a).0)

    pub properties_part : (around : Scopes) (k : ℕ) (t : Properties) (list : List Pair) (used : List ℕ) → PropertiesShow ns t list used → AllAmong Among around (property_parts list)
        → Part HasEntry (List (Key × ℕ)) (each (pair_in texts) list) (properties texts around k t).0 used k (properties texts around k t).1
    properties_part around k NoProperty list used h a = nothing HasEntry k (ap (λ z. each (pair_in texts) z) h.0) h.1
    properties_part around k (Property key e rest) list used h a =
        let z = subst (λ z. AllAmong Among around (property_parts z)) h.4 a in
        joined HasEntry (λ (v : ℕ) (w : List (Key × ℕ)). (key_in texts key, v) ∷ w) (ap (λ z. each (pair_in texts) z) h.4) h.5 (expr_part around k e h.0 h.2 h.6 z.0) (properties_part around (below k (expr texts around k e)) rest h.1 h.3 h.7 z.1)
    properties_part around k (LastProperty key e) list used h a =
        only HasEntry (λ (v : ℕ). (key_in texts key, v) ∷ []) (ap (λ z. each (pair_in texts) z) h.1)
        (expr_part around k e h.0 used h.2 (subst (λ z. AllAmong Among around (property_parts z)) h.1 a).0)

    pub variables_part : (around : Scopes) (k : ℕ) (t : Variables) (list : List Declarator) (used : List ℕ) → VariablesShow ns t list used → AllAmong Among around (initialisers list)
        → Part HasEntry (List (Units × Option ℕ)) (each (variable_in texts) list) (variables texts around k t).0 used k (variables texts around k t).1
    variables_part around k NoVariable list used h a = nothing HasEntry k (ap (λ z. each (variable_in texts) z) h.0) h.1
    variables_part around k (Variable x e rest) list used h a =
        let z = all_apart Among around (option_part h.0) (initialisers h.1) (subst (λ z. AllAmong Among around (initialisers z)) h.4 a) in
        joined HasEntry (λ (v : Option ℕ) (w : List (Units × Option ℕ)). (text_in texts x, v) ∷ w) (ap (λ z. each (variable_in texts) z) h.4) h.5 (optional_part around k e h.0 h.2 h.6 z.0) (variables_part around (below k (optional texts around k e).1) rest h.1 h.3 h.7 z.1)

    pub init_part : (around : Scopes) (k : ℕ) (t : Init) (f : ForInit) (used : List ℕ) → InitShows ns t f used → AllAmong Among around (init_parts f)
        → Part HasEntry node.Init (init_in texts f) (init texts around k t).0 used k (init texts around k t).1
    init_part around k NoInit f used h a = nothing HasEntry k (ap (init_in texts) h.0) h.1
    init_part around k (InitExpr e) f used h a = only HasEntry (λ (v : ℕ). node.InitExpr v) (ap (init_in texts) h.1) (expr_part around k e h.0 used h.2 (subst (λ z. AllAmong Among around (init_parts z)) h.1 a).0)
    init_part around k (InitVar vs) f used h a = only HasEntry (λ (v : List (Units × Option ℕ)). node.InitVar v) (ap (init_in texts) h.1) (variables_part around k vs h.0 used h.2 (subst (λ z. AllAmong Among around (init_parts z)) h.1 a))

    pub stmt_part : (around : Scopes) (k : ℕ) (t : Stmt) (i : NodeId) (used : List ℕ) → StmtShows ns t i used → Among i around → Part HasEntry ℕ i.0 k used k (stmt texts around k t)
    stmt_part around k (Block body) i used h a = plain_part i around (λ (v : List ℕ). node.Block v) h.2 a h.3 refl refl (stmts_part around (k - 1) body h.0 h.1 h.4 (of_parts i around (h.0) h.2 a refl))
    stmt_part around k (Var vs end) i used h a =
        named_part i around (λ (v : List (Units × Option ℕ)). node.Var v) (variable_names vs) h.2 a h.3 refl (names_shown ns vs h.0 h.1 h.4)
        (variables_part around (k - 1) vs h.0 h.1 h.4 (of_parts i around (initialisers h.0) h.2 a refl))
    stmt_part around k Empty i used h a = plain_leaf k i around node.Empty h.0 a h.1 refl refl
    stmt_part around k (ExprStmt e end) i used h a = plain_part i around (λ (v : ℕ). node.Expr v) h.2 a h.3 refl refl (expr_part around (k - 1) e h.0 h.1 h.4 (of_parts i around (h.0 ∷ []) h.2 a refl).0)
    stmt_part around k (If e s) i used h a =
        let z = of_parts i around (h.0 ∷ h.1 ∷ []) h.4 a refl in
        plain_part i around (λ (v : ℕ × ℕ). node.If v.0 v.1 None) h.4 a h.5 refl refl
        (pair HasEntry (expr_part around (k - 1) e h.0 h.2 h.6 z.0) (stmt_part around (below (k - 1) (expr texts around (k - 1) e)) s h.1 h.3 h.7 z.1.0))
    stmt_part around k (IfElse e s u) i used h a =
        let z = of_parts i around (h.0 ∷ h.1 ∷ h.2 ∷ []) h.6 a refl in
        let m = below (k - 1) (expr texts around (k - 1) e) in
        plain_part i around (λ (v : ℕ × (ℕ × ℕ)). node.If v.0 v.1.0 (Some v.1.1)) h.6 a h.7 refl refl
        (pair HasEntry (expr_part around (k - 1) e h.0 h.3 h.8 z.0) (pair HasEntry (stmt_part around m s h.1 h.4 h.9 z.1.0) (stmt_part around (below m (stmt texts around m s)) u h.2 h.5 h.10 z.1.1.0)))
    stmt_part around k (DoWhile s e end) i used h a =
        let z = of_parts i around (h.0 ∷ h.1 ∷ []) h.4 a refl in
        plain_part i around (λ (v : ℕ × ℕ). node.DoWhile v.0 v.1) h.4 a h.5 refl refl
        (pair HasEntry (stmt_part around (k - 1) s h.0 h.2 h.6 z.0) (expr_part around (below (k - 1) (stmt texts around (k - 1) s)) e h.1 h.3 h.7 z.1.0))
    stmt_part around k (While e s) i used h a =
        let z = of_parts i around (h.0 ∷ h.1 ∷ []) h.4 a refl in
        plain_part i around (λ (v : ℕ × ℕ). node.While v.0 v.1) h.4 a h.5 refl refl
        (pair HasEntry (expr_part around (k - 1) e h.0 h.2 h.6 z.0) (stmt_part around (below (k - 1) (expr texts around (k - 1) e)) s h.1 h.3 h.7 z.1.0))
    stmt_part around k (For first test update s) i used h a =
        let y = all_apart Among around (init_parts h.0) (option_part h.1 ++ (option_part h.2 ++ h.3 ∷ [])) (of_parts i around (init_parts h.0 ++ (option_part h.1 ++ (option_part h.2 ++ h.3 ∷ []))) h.8 a refl) in
        let z = all_apart Among around (option_part h.1) (option_part h.2 ++ h.3 ∷ []) y.1 in
        let last = all_apart Among around (option_part h.2) (h.3 ∷ []) z.1 in
        let b = below (k - 1) (init texts around (k - 1) first).1 in
        let c = below b (optional texts around b test).1 in
        named_part i around (λ (v : node.Init × (Option ℕ × (Option ℕ × ℕ))). node.For v.0 v.1.0 v.1.1.0 v.1.1.1) (init_names first) h.8 a h.9 refl (init_shown ns first h.0 h.4 h.10)
        (pair HasEntry (init_part around (k - 1) first h.0 h.4 h.10 y.0) (pair HasEntry (optional_part around b test h.1 h.5 h.11 z.0)
        (pair HasEntry (optional_part around c update h.2 h.6 h.12 last.0) (stmt_part around (below c (optional texts around c update).1) s h.3 h.7 h.13 last.1.0))))
    stmt_part around k (ForIn t e s) i used h a =
        let z = of_parts i around (h.0 ∷ h.1 ∷ h.2 ∷ []) h.6 a refl in
        let m = below (k - 1) (expr texts around (k - 1) t) in
        plain_part i around (λ (v : ℕ × (ℕ × ℕ)). node.ForIn v.0 v.1.0 v.1.1) h.6 a h.7 refl refl
        (pair HasEntry (expr_part around (k - 1) t h.0 h.3 h.8 z.0) (pair HasEntry (expr_part around m e h.1 h.4 h.9 z.1.0) (stmt_part around (below m (expr texts around m e)) s h.2 h.5 h.10 z.1.1.0)))
    stmt_part around k (ForVarIn x e s) i used h a =
        let z = of_parts i around (h.0 ∷ h.1 ∷ []) h.4 a refl in
        named_part i around (λ (v : ℕ × ℕ). node.ForVarIn (text_in texts x) v.0 v.1) (x ∷ []) h.4 a h.5 refl refl
        (pair HasEntry (expr_part around (k - 1) e h.0 h.2 h.6 z.0) (stmt_part around (below (k - 1) (expr texts around (k - 1) e)) s h.1 h.3 h.7 z.1.0))
    stmt_part around k (Continue label end) i used h a = plain_leaf k i around (node.Continue (label_in texts label)) h.0 a h.1 refl refl
    stmt_part around k (Break label end) i used h a = plain_leaf k i around (node.Break (label_in texts label)) h.0 a h.1 refl refl
    stmt_part around k (Return e end) i used h a = plain_part i around (λ (v : Option ℕ). node.Return v) h.2 a h.3 refl refl (optional_part around (k - 1) e h.0 h.1 h.4 (of_parts i around (option_part h.0) h.2 a refl))
    stmt_part around k (Throw e end) i used h a = plain_part i around (λ (v : ℕ). node.Throw v) h.2 a h.3 refl refl (expr_part around (k - 1) e h.0 h.1 h.4 (of_parts i around (h.0 ∷ []) h.2 a refl).0)
    stmt_part around k (Label x s) i used h a = plain_part i around (λ (v : ℕ). node.Label (text_in texts x) v) h.2 a h.3 refl refl (stmt_part around (k - 1) s h.0 h.1 h.4 (of_parts i around (h.0 ∷ []) h.2 a refl).0)
    stmt_part around k (Switch e list) i used h a =
        let z = of_parts i around (h.0 ∷ clause_parts h.1) h.4 a refl in
        plain_part i around (λ (v : ℕ × List (Option ℕ × List ℕ)). node.Switch v.0 v.1) h.4 a h.5 refl refl
        (pair HasEntry (expr_part around (k - 1) e h.0 h.2 h.6 z.0) (clauses_part around (below (k - 1) (expr texts around (k - 1) e)) list h.1 h.3 h.7 z.1))
    stmt_part around k (TryCatch b x c) i used h a =
        let p = steps.part i h.0 around _ h.6 a (inl refl) in
        let q = steps.caught i h.0 (record { name = x; block = h.1 }) None around h.6 a in
        let m = below (k - 1) (block (stmts texts around (k - 1 - 1) b)) in
        plain_part i around (λ (v : ℕ × ℕ). node.Try v.0 (Some (text_in texts x, v.1)) None) h.6 a h.7 refl refl
        (pair HasEntry (plain_part h.0 around (λ (v : List ℕ). node.Block v) h.8 p refl refl refl (stmts_part around (k - 1 - 1) b h.2 h.4 h.9 (of_parts h.0 around h.2 h.8 p refl)))
        (plain_part h.1 ((text_in texts x ∷ []) ∷ around) (λ (v : List ℕ). node.Block v) h.10 q refl refl refl (stmts_part ((text_in texts x ∷ []) ∷ around) (m - 1) c h.3 h.5 h.11 (of_parts h.1 ((text_in texts x ∷ []) ∷ around) h.3 h.10 q refl))))
    stmt_part around k (TryFinally b f) i used h a =
        let p = steps.part i h.0 around _ h.6 a (inl refl) in
        let q = steps.part i h.1 around _ h.6 a (inr (inl refl)) in
        let m = below (k - 1) (block (stmts texts around (k - 1 - 1) b)) in
        plain_part i around (λ (v : ℕ × ℕ). node.Try v.0 None (Some v.1)) h.6 a h.7 refl refl
        (pair HasEntry (plain_part h.0 around (λ (v : List ℕ). node.Block v) h.8 p refl refl refl (stmts_part around (k - 1 - 1) b h.2 h.4 h.9 (of_parts h.0 around h.2 h.8 p refl)))
        (plain_part h.1 around (λ (v : List ℕ). node.Block v) h.10 q refl refl refl (stmts_part around (m - 1) f h.3 h.5 h.11 (of_parts h.1 around h.3 h.10 q refl))))
    stmt_part around k (TryBoth b x c f) i used h a =
        let p = steps.part i h.0 around _ h.9 a (inl refl) in
        let q = steps.caught i h.0 (record { name = x; block = h.1 }) (Some h.2) around h.9 a in
        let r = steps.part i h.2 around _ h.9 a (inr (inr (inl refl))) in
        let m = below (k - 1) (block (stmts texts around (k - 1 - 1) b)) in
        let n = below m (block (stmts texts ((text_in texts x ∷ []) ∷ around) (m - 1) c)) in
        plain_part i around (λ (v : ℕ × (ℕ × ℕ)). node.Try v.0 (Some (text_in texts x, v.1.0)) (Some v.1.1)) h.9 a h.10 refl refl
        (pair HasEntry (plain_part h.0 around (λ (v : List ℕ). node.Block v) h.11 p refl refl refl (stmts_part around (k - 1 - 1) b h.3 h.6 h.12 (of_parts h.0 around h.3 h.11 p refl)))
        (pair HasEntry (plain_part h.1 ((text_in texts x ∷ []) ∷ around) (λ (v : List ℕ). node.Block v) h.13 q refl refl refl (stmts_part ((text_in texts x ∷ []) ∷ around) (m - 1) c h.4 h.7 h.14 (of_parts h.1 ((text_in texts x ∷ []) ∷ around) h.4 h.13 q refl)))
        (plain_part h.2 around (λ (v : List ℕ). node.Block v) h.15 r refl refl refl (stmts_part around (n - 1) f h.5 h.8 h.16 (of_parts h.2 around h.5 h.15 r refl)))))
    stmt_part around k (Within e b) i used h a =
        let z = of_parts i around (h.0 ∷ h.1 ∷ []) h.5 a refl in
        let m = below (k - 1) (expr texts around (k - 1) e) in
        plain_part i around (λ (v : ℕ × ℕ). node.Within v.0 v.1) h.5 a h.6 refl refl
        (pair HasEntry (expr_part around (k - 1) e h.0 h.3 h.7 z.0) (plain_part h.1 around (λ (v : List ℕ). node.Block v) h.8 z.1.0 refl refl refl (stmts_part around (m - 1) b h.2 h.4 h.9 (of_parts h.1 around h.2 h.8 z.1.0 refl))))

    pub stmts_part : (around : Scopes) (k : ℕ) (t : Stmts) (list : List NodeId) (used : List ℕ) → StmtsShow ns t list used → AllAmong Among around list
        → Part HasEntry (List ℕ) (numbers list) (stmts texts around k t).0 used k (stmts texts around k t).1
    stmts_part around k NoStmt list used h a = nothing HasEntry k (ap numbers h.0) h.1
    stmts_part around k (MoreStmts s rest) list used h a =
        let z = subst (AllAmong Among around) h.4 a in
        joined HasEntry (λ (v : ℕ) (w : List ℕ). v ∷ w) (ap numbers h.4) h.5 (stmt_part around k s h.0 h.2 h.6 z.0) (stmts_part around (below k (stmt texts around k s)) rest h.1 h.3 h.7 z.1)

    pub clauses_part : (around : Scopes) (k : ℕ) (t : Clauses) (list : List Clause) (used : List ℕ) → ClausesShow ns t list used → AllAmong Among around (clause_parts list)
        → Part HasEntry (List (Option ℕ × List ℕ)) (each (clause_in texts) list) (clauses texts around k t).0 used k (clauses texts around k t).1
    clauses_part around k NoClause list used h a = nothing HasEntry k (ap (λ z. each (clause_in texts) z) h.0) h.1
    clauses_part around k (Case e body rest) list used h a =
        let y = subst (λ z. AllAmong Among around (clause_parts z)) h.6 a in
        let z = all_apart Among around h.1 (clause_parts h.2) y.1 in
        let m = below k (expr texts around k e) in
        joined HasEntry (λ (v : ℕ) (w : List ℕ × List (Option ℕ × List ℕ)). (Some v, w.0) ∷ w.1) (ap (λ z. each (clause_in texts) z) h.6) h.7 (expr_part around k e h.0 h.3 h.8 y.0)
        (pair HasEntry (stmts_part around m body h.1 h.4 h.9 z.0) (clauses_part around (below m (stmts texts around m body).1) rest h.2 h.5 h.10 z.1))
    clauses_part around k (Default body rest) list used h a =
        let z = all_apart Among around h.0 (clause_parts h.1) (subst (λ z. AllAmong Among around (clause_parts z)) h.4 a) in
        joined HasEntry (λ (v : List ℕ) (w : List (Option ℕ × List ℕ)). (None, v) ∷ w) (ap (λ z. each (clause_in texts) z) h.4) h.5 (stmts_part around k body h.0 h.2 h.6 z.0) (clauses_part around (below k (stmts texts around k body).1) rest h.1 h.3 h.7 z.1)

    pub elements_part : (around : Scopes) (k : ℕ) (t : Elements) (list : List NodeId) (used : List ℕ) → ElementsShow ns t list used → AllAmong Among around list
        → Part HasEntry (List ℕ) (numbers list) (elements texts around k t).0 used k (elements texts around k t).1
    elements_part around k NoElement list used h a = nothing HasEntry k (ap numbers h.0) h.1
    elements_part around k (Statement s rest) list used h a =
        let z = subst (AllAmong Among around) h.4 a in
        joined HasEntry (λ (v : ℕ) (w : List ℕ). v ∷ w) (ap numbers h.4) h.5 (stmt_part around k s h.0 h.2 h.6 z.0) (elements_part around (below k (stmt texts around k s)) rest h.1 h.3 h.7 z.1)
    elements_part around k (FunctionDecl x formals body rest) list used h a =
        let z = subst (AllAmong Among around) h.5 a in
        let inner = within texts None formals body around in
        let b = elements texts inner (k - 1) body in
        joined HasEntry (λ (v : ℕ) (w : List ℕ). v ∷ w) (ap numbers h.5) h.6
        (plain_part h.0 around (λ (v : List ℕ). node.FunctionDecl (text_in texts x) (texts_in texts formals) v) h.7 z.0 refl refl refl (elements_part inner (k - 1) body h.1 h.3 h.8 (steps.declared h.0 x formals h.1 body h.3 around h.7 z.0 h.8)))
        (elements_part around (below k (plain (node.FunctionDecl (text_in texts x) (texts_in texts formals) b.0) b.1)) rest h.2 h.4 h.9 z.1)

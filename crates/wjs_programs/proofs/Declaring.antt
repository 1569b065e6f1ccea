-- What the bodies of a numbered program declare by its tree is what they declare in the meaning.
use Rattle.std.specs.Prelude.{◌≡◌, ℕ, suc, ◌+◌, ◌<◌, Bool, true, false, if◌then◌else◌, List, [], ◌∷◌, ◌++◌, map as each, flat_map, All, nat_eq, Option, None, Some, slice_get, unwrap_or}
use Rattle.std.specs.List.{list_any}
use Rattle.std.specs.Option.{option_map}
use Rattle.std.proofs.Common.{refl, sym, ap, subst, ◌∙◌, arith, append_assoc}
use Rattle.std.proofs.lemmas.List.{append-nil, map-append}
use Rattle.std.proofs.lemmas.List.Elements.{All-nil, All-head, All-tail, All-push}
use Rattle.std.proofs.lemmas.Option.{same_Some, slice_get-map}
use Rattle.wjs_base.specs.declared.ids.TextId.{TextId}
use Rattle.wjs_base.specs.Text.{Table, IsTable, Has as HasText}
use Rattle.wjs_base.specs.declared.ids.NodeId.{NodeId}
use Rattle.wjs_tree.specs.declared.node.Node.{Node}
use Rattle.wjs_tree.specs.declared.node.Node.TheVariants as nodes
use Rattle.wjs_tree.specs.declared.node.Declarator.{Declarator}
use Rattle.wjs_tree.specs.declared.node.Clause.{Clause}
use Rattle.wjs_tree.specs.declared.node.ForInit.{ForInit}
use Rattle.wjs_tree.specs.Trees.{Variables, Init, Stmt, Stmts, Clauses, Elements, NoInit, InitExpr, InitVar, Block, Var, Empty, ExprStmt, If, IfElse, DoWhile, While, For, ForIn, ForVarIn, Continue, Break, Return, Throw, Label, Switch, TryCatch, TryFinally, TryBoth, Within, NoStmt, MoreStmts, NoClause, Case, Default, NoElement, Statement, FunctionDecl}
use Rattle.wjs_tree.specs.Shows.{Has, VariablesShow, InitShows, StmtShows, StmtsShow, ClausesShow, ElementsShow}
use Rattle.wjs_scope.specs.declared.declarations.Declarations.{Declarations}
use Rattle.wjs_scope.specs.Declarations.{variable_names, init_names, names_declared, all_declared, clauses_declared, elements_declared, with_name, with_names, variables, is_body, elements_of}
use Rattle.wjs_scope.specs.Bodies.{node_at, BodiesStand}
use Rattle.wjs_scope.specs.Places.{KnowsPlaced, declarator_names}
use Rattle.wjs_by_content.specs.Values.{Text}
use Rattle.wjs_by_content.specs.Tables.{text_in}
use Rattle.wjs_meaning.specs.Trees as content
use Rattle.wjs_meaning.specs.Trees.{Tree}
use Rattle.wjs_meaning.specs.Declarations.{names_of, vars_of_init, vars_of_form, vars_to, without_repeats, declared_by}
use Rattle.wjs_meaning.specs.Reading.{node_in, numbers, variable_in, clause_in, init_in}
use Rattle.wjs_model.proofs.Naming.{node_there, elements_named}
use Rattle.wjs_model.proofs.Repeats.{names_once}
use Rattle.wjs_programs.specs.Laws.{BodiesAreMeant}
use Rattle.wjs_programs.proofs.Declared.{names_shown, elements_known}
use Rattle.wjs_programs.proofs.Depths.{at_over, vars_agree, vars_same}
use Rattle.wjs_programs.proofs.Over.{all_more, inner_parts, IsOver}
use Rattle.wjs_programs.proofs.Reaching.{all_bodies_stand}
use Rattle.wjs_programs.proofs.Whole.{nodes_are}

-- the nodes stand for the elements
abbrev StandFor : List Node → Elements → List NodeId → Type 0
StandFor ns es list = (used : List ℕ) × ElementsShow ns es list used

-- ---- the names of `var`s, by the tree and by its nodes

module _ (t : Table) where
  abbrev texts : List TextId → List Text
  texts xs = each (text_in t) xs

  pair : (xs ys : List TextId) (us vs : List Text) → us ≡ texts xs → vs ≡ texts ys → us ++ vs ≡ texts (xs ++ ys)
  pair xs ys us vs e d = ap (λ l. l ++ vs) e ∙ ap (λ l. texts xs ++ l) d ∙ sym (map-append (text_in t) xs ys)

  named : (xs : List Declarator) → names_of (each (variable_in t) xs) ≡ texts (declarator_names xs)
  named [] = refl
  named (x ∷ xs) = ap (λ l. text_in t x.name ∷ l) (named xs)

  module _ (ns : List Node) where
    variables_are : (vs : Variables) (list : List Declarator) (used : List ℕ) → VariablesShow ns vs list used → names_of (each (variable_in t) list) ≡ texts (variable_names vs)
    variables_are vs list used h = named list ∙ ap texts (names_shown ns vs list used h)

    init_is : (init : Init) (f : ForInit) (used : List ℕ) → InitShows ns init f used → vars_of_init (init_in t f) ≡ texts (init_names init)
    init_is NoInit f used h = ap (λ (z : ForInit). vars_of_init (init_in t z)) h.0
    init_is (InitExpr e) f used h = ap (λ (z : ForInit). vars_of_init (init_in t z)) h.1
    init_is (InitVar vs) f used h = ap (λ (z : ForInit). vars_of_init (init_in t z)) h.1 ∙ variables_are vs h.0 used h.2

-- of a tree of these nodes, in which each stands behind its parts
module _ (t : Table) (ns : List Node) (tree : Tree) (same : tree.nodes ≡ each (node_in t) ns) (over : (k : ℕ) → IsOver k (content.node_at tree k)) where
  -- the names of a statement's `var`s
  abbrev names : ℕ → List Text
  names k = vars_to (suc k) tree k

  here : (i : NodeId) (n : Node) → Has ns i n → content.node_at tree i.0 ≡ node_in t n
  here i n has = node_there t ns tree same i.0 ∙ ap (λ (o : Option Node). node_in t (unwrap_or o nodes.Empty)) has

  -- they are those of its form
  names_are : (i : NodeId) (n : Node) → Has ns i n → names i.0 ≡ vars_of_form (node_in t n) names
  names_are i n has =
      vars_same (λ s. vars_to i.0 tree s) names (content.node_at tree i.0) (all_more _ _ (inner_parts (content.node_at tree i.0)) (λ s lt. vars_agree tree over i.0 (suc s) s lt (omega arith)) (over i.0).lower)
      ∙ ap (λ m. vars_of_form m names) (here i n has)

  mutual
    stmt_is : (s : Stmt) (i : NodeId) (used : List ℕ) → StmtShows ns s i used → names i.0 ≡ texts t (names_declared s)
    stmt_is (Block body) i used h = names_are i _ h.2 ∙ stmts_are body h.0 h.1 h.4
    stmt_is (Var vs end) i used h = names_are i _ h.2 ∙ variables_are t ns vs h.0 h.1 h.4
    stmt_is Empty i used h = names_are i _ h.0
    stmt_is (ExprStmt e end) i used h = names_are i _ h.2
    stmt_is (If e s) i used h = names_are i _ h.4 ∙ append-nil (names h.1.0) ∙ stmt_is s h.1 h.3 h.7
    stmt_is (IfElse e s u) i used h = names_are i _ h.6 ∙ pair t (names_declared s) (names_declared u) _ _ (stmt_is s h.1 h.4 h.9) (stmt_is u h.2 h.5 h.10)
    stmt_is (DoWhile s e end) i used h = names_are i _ h.4 ∙ stmt_is s h.0 h.2 h.6
    stmt_is (While e s) i used h = names_are i _ h.4 ∙ stmt_is s h.1 h.3 h.7
    stmt_is (For init test update s) i used h = names_are i _ h.8 ∙ pair t (init_names init) (names_declared s) _ _ (init_is t ns init h.0 h.4 h.10) (stmt_is s h.3 h.7 h.13)
    stmt_is (ForIn r e s) i used h = names_are i _ h.6 ∙ stmt_is s h.2 h.5 h.10
    stmt_is (ForVarIn x e s) i used h = names_are i _ h.4 ∙ ap (λ l. text_in t x ∷ l) (stmt_is s h.1 h.3 h.7)
    stmt_is (Continue label end) i used h = names_are i _ h.0
    stmt_is (Break label end) i used h = names_are i _ h.0
    stmt_is (Return e end) i used h = names_are i _ h.2
    stmt_is (Throw e end) i used h = names_are i _ h.2
    stmt_is (Label x s) i used h = names_are i _ h.2 ∙ stmt_is s h.0 h.1 h.4
    stmt_is (Switch e list) i used h = names_are i _ h.4 ∙ clauses_are list h.1 h.3 h.7
    stmt_is (TryCatch b x c) i used h =
        names_are i _ h.6 ∙ append-nil (names h.0.0 ++ names h.1.0) ∙ pair t (all_declared b) (all_declared c) _ _ (names_are h.0 _ h.8 ∙ stmts_are b h.2 h.4 h.9) (names_are h.1 _ h.10 ∙ stmts_are c h.3 h.5 h.11)
    stmt_is (TryFinally b f) i used h =
        names_are i _ h.6 ∙ ap (λ l. l ++ names h.1.0) (append-nil (names h.0.0)) ∙ pair t (all_declared b) (all_declared f) _ _ (names_are h.0 _ h.8 ∙ stmts_are b h.2 h.4 h.9) (names_are h.1 _ h.10 ∙ stmts_are f h.3 h.5 h.11)
    stmt_is (TryBoth b x c f) i used h =
        names_are i _ h.9 ∙ append_assoc (names h.0.0) (names h.1.0) (names h.2.0)
        ∙ pair t (all_declared b) (all_declared c ++ all_declared f) _ _ (names_are h.0 _ h.11 ∙ stmts_are b h.3 h.6 h.12) (pair t (all_declared c) (all_declared f) _ _ (names_are h.1 _ h.13 ∙ stmts_are c h.4 h.7 h.14) (names_are h.2 _ h.15 ∙ stmts_are f h.5 h.8 h.16))
    stmt_is (Within e b) i used h = names_are i _ h.5 ∙ names_are h.1 _ h.8 ∙ stmts_are b h.2 h.4 h.9

    stmts_are : (b : Stmts) (list : List NodeId) (used : List ℕ) → StmtsShow ns b list used → flat_map names (numbers list) ≡ texts t (all_declared b)
    stmts_are NoStmt list used h = ap (λ (l : List NodeId). flat_map names (numbers l)) h.0
    stmts_are (MoreStmts s rest) list used h =
        ap (λ (l : List NodeId). flat_map names (numbers l)) h.4 ∙ pair t (names_declared s) (all_declared rest) _ _ (stmt_is s h.0 h.2 h.6) (stmts_are rest h.1 h.3 h.7)

    clauses_are : (cs : Clauses) (list : List Clause) (used : List ℕ) → ClausesShow ns cs list used → flat_map (λ (c : Option ℕ × List ℕ). flat_map names c.1) (each (clause_in t) list) ≡ texts t (clauses_declared cs)
    clauses_are NoClause list used h = ap (λ (l : List Clause). flat_map (λ (c : Option ℕ × List ℕ). flat_map names c.1) (each (clause_in t) l)) h.0
    clauses_are (Case e body rest) list used h =
        ap (λ (l : List Clause). flat_map (λ (c : Option ℕ × List ℕ). flat_map names c.1) (each (clause_in t) l)) h.6
        ∙ pair t (all_declared body) (clauses_declared rest) _ _ (stmts_are body h.1 h.4 h.9) (clauses_are rest h.2 h.5 h.10)
    clauses_are (Default body rest) list used h =
        ap (λ (l : List Clause). flat_map (λ (c : Option ℕ × List ℕ). flat_map names c.1) (each (clause_in t) l)) h.4
        ∙ pair t (all_declared body) (clauses_declared rest) _ _ (stmts_are body h.0 h.2 h.6) (clauses_are rest h.1 h.3 h.7)

  -- those of elements, of which a function has none
  elements_are : (es : Elements) (list : List NodeId) (used : List ℕ) → ElementsShow ns es list used → flat_map names (numbers list) ≡ texts t (elements_declared es)
  elements_are NoElement list used h = ap (λ (l : List NodeId). flat_map names (numbers l)) h.0
  elements_are (Statement s rest) list used h =
      ap (λ (l : List NodeId). flat_map names (numbers l)) h.4 ∙ pair t (names_declared s) (elements_declared rest) _ _ (stmt_is s h.0 h.2 h.6) (elements_are rest h.1 h.3 h.7)
  elements_are (FunctionDecl x formals body rest) list used h =
      ap (λ (l : List NodeId). flat_map names (numbers l)) h.5 ∙ ap (λ l. l ++ flat_map names (numbers h.2)) (names_are h.0 _ h.7) ∙ elements_are rest h.2 h.4 h.9

  -- each once
  vars_are : (k : ℕ) (es : Elements) → IsTable t → KnowsPlaced t ns → StandFor ns es (elements_of (node_at ns k)) → texts t (variables es) ≡ (declared_by tree k).vars
  vars_are k es table placed shows =
      let list = elements_of (node_at ns k) in
      names_once t table (elements_declared es) (elements_known t ns placed es list shows.0 shows.1)
      ∙ ap (without_repeats []) (sym (elements_are es list shows.0 shows.1) ∙ ap (flat_map names) (sym (ap content.elements_of (node_there t ns tree same k) ∙ elements_named t (node_at ns k))))

-- ---- names that are known

name_known : (t : Table) (b : Bool) (names : List TextId) (x : TextId) → All (HasText t) names → HasText t x → All (HasText t) (if b then names else (names ++ x ∷ []))
name_known t true names x h k = h
name_known t false names x h k = All-push (HasText t) names x h k

with_known : (t : Table) (xs names : List TextId) → All (HasText t) names → All (HasText t) xs → All (HasText t) (with_names names xs)
with_known t [] names h k = h
with_known t (x ∷ xs) names h k =
    with_known t xs (with_name names x) (name_known t (list_any (λ (y : TextId). nat_eq x.0 y.0) names) names x h (All-head (HasText t) x xs k)) (All-tail (HasText t) x xs k)

-- ---- bodies

no_elements : (node : Node) → is_body node ≡ false → elements_of node ≡ []
no_elements (nodes.Program list) e = absurd (cc)
no_elements (nodes.Function name formals list) e = absurd (cc)
no_elements (nodes.FunctionDecl x formals list) e = absurd (cc)
no_elements node e = refl

module _ (ns : List Node) (stand : BodiesStand ns) where
  of_node : (i : NodeId) (node : Node) → Has ns i node → (b : Bool) → is_body node ≡ b → (es : Elements) × StandFor ns es (elements_of node)
  of_node i node has true e =
      let there = stand i node has e in
      subst (λ (n : Node). (es : Elements) × StandFor ns es (elements_of n)) (same_Some there.0 node (sym there.1 ∙ has)) (there.3.0, there.3.1)
  of_node i node has false e = subst (λ (l : List NodeId). (es : Elements) × StandFor ns es l) (sym (no_elements node e)) (NoElement, ([], (refl, refl)))

  -- the elements of each node stand for a tree
  elements_there : (k : ℕ) → (es : Elements) × StandFor ns es (elements_of (node_at ns k))
  elements_there k = by (slice_get ns k) refl
    where
      by : (o : Option Node) → slice_get ns k ≡ o → (es : Elements) × StandFor ns es (elements_of (unwrap_or o nodes.Empty))
      by None e = (NoElement, ([], (refl, refl)))
      by (Some node) e = of_node (record { 0 = k }) node e (is_body node) refl

pub bodies_are_meant : BodiesAreMeant
bodies_are_meant ns program body arguments table numbered script declared = λ k.
    let d = declared k in
    let there = elements_there ns (all_bodies_stand ns program body numbered script) k in
    let es = there.0 in
    let is = d.variables es there.1 in
    record {
      formals = d.formals;
      functions = d.functions;
      variables = λ t tree unique placed same.
          (let over : (j : ℕ) → IsOver j (content.node_at tree j) =
          λ j. subst (λ (l : List content.Node). IsOver j (unwrap_or (slice_get l j) content.Empty)) (sym (same ∙ nodes_are t ns program body numbered)) (at_over t program j) in
          ap (each (text_in t)) is ∙ vars_are t ns tree same over k es unique placed there.1);
      found = λ t placed.
          subst (All (HasText t)) (sym is) (with_known t (elements_declared es) [] (All-nil (HasText t)) (elements_known t ns placed es (elements_of (node_at ns k)) there.1.0 there.1.1));
    }

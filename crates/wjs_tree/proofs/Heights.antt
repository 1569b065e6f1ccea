-- The heights that are kept beside nodes are those of the trees that they stand for.
use Rattle.std.specs.Prelude.{◌≡◌, ℕ, false, ◌<◌, ◌≤◌, List, take, Option, unwrap_or}
use Rattle.std.proofs.Common.{ap, subst, sym, ◌∙◌, arith}
use Rattle.std.proofs.lemmas.Option.{unwrap_or-slice_get}
use Rattle.std.proofs.lemmas.List.{get_or-take}
use Rattle.wjs_base.specs.declared.ids.NodeId.{NodeId}
use Rattle.wjs_tree.specs.declared.node.Node.{Node}
use Rattle.wjs_tree.specs.declared.node.Property.{Property as Pair}
use Rattle.wjs_tree.specs.declared.node.Declarator.{Declarator}
use Rattle.wjs_tree.specs.declared.node.ForInit.{ForInit}
use Rattle.wjs_tree.specs.declared.node.Clause.{Clause}
use Rattle.wjs_tree.specs.declared.facts.Facts.{Facts}
use Rattle.wjs_tree.specs.Trees.{Expr, Optional, Arguments, Items, Properties, Variables, Init, Stmt, Stmts, Clauses, Elements, Name, Number, Text, This, ThisWorld, Null, Boolean, Paren, ArrayLit, ObjectLit, Function, Dot, At, Call, NewWith, NewBare, Postfix, Prefix, Binary, Cond, Assign, Comma, Absent, Present, NoArgument, Argument, NoItem, Hole, Item, LastItem, NoProperty, Property, LastProperty, NoVariable, Variable, NoInit, InitExpr, InitVar, Block, Var, Empty, ExprStmt, If, IfElse, DoWhile, While, For, ForIn, ForVarIn, Continue, Break, Return, Throw, Label, Switch, TryCatch, TryFinally, TryBoth, Within, NoStmt, MoreStmts, NoClause, Case, Default, NoElement, Statement, FunctionDecl}
use Rattle.wjs_tree.specs.Children.{ChildrenBelow, AreBelow, OptionBelow, ItemsBelow, PropertiesBelow, DeclaratorsBelow, ClausesBelow, InitBelow}
use Rattle.wjs_tree.specs.Height.{height, optional_height, arguments_height, items_height, properties_height, variables_height, init_height, stmt_height, stmts_height, clauses_height, elements_height}
use Rattle.wjs_tree.specs.Facts.{fact_at, highest, height_at, option_height as facts_option_height, list_height, declarators_height, init_height as facts_init_height, clause_height, AreFacts, AreKept}
use Rattle.wjs_tree.specs.Shows.{Shows, OptionalShows, ArgumentsShow, ItemsShow, PropertiesShow, VariablesShow, InitShows, StmtShows, StmtsShow, ClausesShow, ElementsShow, Has}

-- the facts of a node come from those before it, where its children stand
pub record OfNode (facts : List Facts) (i : NodeId) (node : Node) : Type 0 where
  pub right : AreFacts (take i.0 facts) node (fact_at facts i)
  pub below : ChildrenBelow i.0 node

module _ (ns : List Node) (facts : List Facts) (kept : AreKept ns facts) where
  pub of_node : (i : NodeId) (node : Node) → Has ns i node → OfNode facts i node
  of_node i node h =
      let k = kept.each i.0 node h in
      record {
        right = subst (λ (f : Facts). AreFacts (take i.0 facts) node f) (sym (ap (λ o. unwrap_or o (record { level = 0; height = 0; is_target = false; starts_with_brace = false })) k.stored)) k.right;
        below = k.below;
      }

  -- the facts of a child are those of all nodes
  pub early : (n : ℕ) (a : NodeId) → a.0 < n → fact_at (take n facts) a ≡ fact_at facts a
  early n a h = unwrap_or-slice_get (take n facts) a.0 _ ∙ get_or-take n facts a.0 _ h ∙ sym (unwrap_or-slice_get facts a.0 _)

  early_height : (n : ℕ) (a : NodeId) → a.0 < n → height_at (take n facts) a ≡ height_at facts a
  early_height n a h = ap (λ (f : Facts). f.height) (early n a h)

  mutual
    pub height_is : (t : Expr) (i : NodeId) (used : List ℕ) → Shows ns t i used → height_at facts i ≡ height t
    height_is (Name x) i used h = (of_node i _ h.0).right.height
    height_is (Number k) i used h = (of_node i _ h.0).right.height
    height_is (Text x) i used h = (of_node i _ h.0).right.height
    height_is This i used h = (of_node i _ h.0).right.height
    height_is ThisWorld i used h = (of_node i _ h.0).right.height
    height_is Null i used h = (of_node i _ h.0).right.height
    height_is (Boolean b) i used h = (of_node i _ h.0).right.height
    height_is (Paren e) i used h = let node0 = of_node i _ h.2 in let own0 = node0.right.height in let q0 = early_height i.0 h.0 node0.below in let r0 = height_is e h.0 h.1 h.4 in omega arith
    height_is (ArrayLit xs) i used h = let node0 = of_node i _ h.2 in let own0 = node0.right.height in let r0 = items_height_is i.0 xs h.0 h.1 h.4 node0.below in omega arith
    height_is (ObjectLit ps) i used h = let node0 = of_node i _ h.2 in let own0 = node0.right.height in let r0 = properties_height_is i.0 ps h.0 h.1 h.4 node0.below in omega arith
    height_is (Function name formals body) i used h = let node0 = of_node i _ h.2 in let own0 = node0.right.height in let r0 = elements_height_is i.0 body h.0 h.1 h.4 node0.below in omega arith
    height_is (Dot e x) i used h = let node0 = of_node i _ h.2 in let own0 = node0.right.height in let q0 = early_height i.0 h.0 node0.below in let r0 = height_is e h.0 h.1 h.4 in omega arith
    height_is (At e j) i used h = let node0 = of_node i _ h.4 in let own0 = node0.right.height in let q0 = early_height i.0 h.0 node0.below.0 in let r0 = height_is e h.0 h.2 h.6 in let q1 = early_height i.0 h.1 node0.below.1 in let r1 = height_is j h.1 h.3 h.7 in omega arith
    height_is (Call f xs) i used h = let node0 = of_node i _ h.4 in let own0 = node0.right.height in let q0 = early_height i.0 h.0 node0.below.0 in let r0 = height_is f h.0 h.2 h.6 in let r1 = arguments_height_is i.0 xs h.1 h.3 h.7 node0.below.1 in omega arith
    height_is (NewWith f xs) i used h = let node0 = of_node i _ h.4 in let own0 = node0.right.height in let q0 = early_height i.0 h.0 node0.below.0 in let r0 = height_is f h.0 h.2 h.6 in let r1 = arguments_height_is i.0 xs h.1 h.3 h.7 node0.below.1 in omega arith
    height_is (NewBare f) i used h = let node0 = of_node i _ h.2 in let own0 = node0.right.height in let q0 = early_height i.0 h.0 node0.below in let r0 = height_is f h.0 h.1 h.4 in omega arith
    height_is (Postfix t op) i used h = let node0 = of_node i _ h.2 in let own0 = node0.right.height in let q0 = early_height i.0 h.0 node0.below in let r0 = height_is t h.0 h.1 h.4 in omega arith
    height_is (Prefix op e) i used h = let node0 = of_node i _ h.2 in let own0 = node0.right.height in let q0 = early_height i.0 h.0 node0.below in let r0 = height_is e h.0 h.1 h.4 in omega arith
    height_is (Binary l op r) i used h = let node0 = of_node i _ h.4 in let own0 = node0.right.height in let q0 = early_height i.0 h.0 node0.below.0 in let r0 = height_is l h.0 h.2 h.6 in let q1 = early_height i.0 h.1 node0.below.1 in let r1 = height_is r h.1 h.3 h.7 in omega arith
    height_is (Cond c x y) i used h = let node0 = of_node i _ h.6 in let own0 = node0.right.height in let q0 = early_height i.0 h.0 node0.below.0 in let r0 = height_is c h.0 h.3 h.8 in let q1 = early_height i.0 h.1 node0.below.1 in let r1 = height_is x h.1 h.4 h.9 in let q2 = early_height i.0 h.2 node0.below.2 in let r2 = height_is y h.2 h.5 h.10 in omega arith
    height_is (Assign t op e) i used h = let node0 = of_node i _ h.4 in let own0 = node0.right.height in let q0 = early_height i.0 h.0 node0.below.0 in let r0 = height_is t h.0 h.2 h.6 in let q1 = early_height i.0 h.1 node0.below.1 in let r1 = height_is e h.1 h.3 h.7 in omega arith
    height_is (Comma l r) i used h = let node0 = of_node i _ h.4 in let own0 = node0.right.height in let q0 = early_height i.0 h.0 node0.below.0 in let r0 = height_is l h.0 h.2 h.6 in let q1 = early_height i.0 h.1 node0.below.1 in let r1 = height_is r h.1 h.3 h.7 in omega arith

    pub optional_height_is : (n : ℕ) (t : Optional) (list : Option NodeId) (used : List ℕ) → OptionalShows ns t list used → OptionBelow n list → facts_option_height (take n facts) list ≡ optional_height t
    optional_height_is n Absent list used h b = ap (facts_option_height (take n facts)) h.0
    optional_height_is n (Present e) list used h b = let own0 = ap (facts_option_height (take n facts)) h.1 in let b' = subst (OptionBelow n) h.1 b in let q0 = early_height n h.0 b' in let r0 = height_is e h.0 used h.2 in omega arith

    pub arguments_height_is : (n : ℕ) (t : Arguments) (list : List NodeId) (used : List ℕ) → ArgumentsShow ns t list used → AreBelow n list → list_height (take n facts) list ≡ arguments_height t
    arguments_height_is n NoArgument list used h b = ap (list_height (take n facts)) h.0
    arguments_height_is n (Argument e rest) list used h b = let own0 = ap (list_height (take n facts)) h.4 in let b' = subst (AreBelow n) h.4 b in let q0 = early_height n h.0 b'.0 in let r0 = height_is e h.0 h.2 h.6 in let z0 = arguments_height_is n rest h.1 h.3 h.7 b'.1 in omega arith

    pub items_height_is : (n : ℕ) (t : Items) (list : List (Option NodeId)) (used : List ℕ) → ItemsShow ns t list used → ItemsBelow n list → highest (facts_option_height (take n facts)) list ≡ items_height t
    items_height_is n NoItem list used h b = ap (highest (facts_option_height (take n facts))) h.0
    items_height_is n (Hole rest) list used h b = let own0 = ap (highest (facts_option_height (take n facts))) h.1 in let b' = subst (ItemsBelow n) h.1 b in let r0 = items_height_is n rest h.0 used h.2 b'.1 in omega arith
    items_height_is n (Item e rest) list used h b = let own0 = ap (highest (facts_option_height (take n facts))) h.4 in let b' = subst (ItemsBelow n) h.4 b in let q0 = early_height n h.0 b'.0 in let r0 = height_is e h.0 h.2 h.6 in let z0 = items_height_is n rest h.1 h.3 h.7 b'.1 in omega arith
    items_height_is n (LastItem e) list used h b = let own0 = ap (highest (facts_option_height (take n facts))) h.1 in let b' = subst (ItemsBelow n) h.1 b in let q0 = early_height n h.0 b'.0 in let r0 = height_is e h.0 used h.2 in omega arith

    pub properties_height_is : (n : ℕ) (t : Properties) (list : List Pair) (used : List ℕ) → PropertiesShow ns t list used → PropertiesBelow n list → highest (λ (p : Pair). height_at (take n facts) p.value) list ≡ properties_height t
    properties_height_is n NoProperty list used h b = ap (highest (λ (p : Pair). height_at (take n facts) p.value)) h.0
    properties_height_is n (Property key e rest) list used h b = let own0 = ap (highest (λ (p : Pair). height_at (take n facts) p.value)) h.4 in let b' = subst (PropertiesBelow n) h.4 b in let q0 = early_height n h.0 b'.0 in let r0 = height_is e h.0 h.2 h.6 in let z0 = properties_height_is n rest h.1 h.3 h.7 b'.1 in omega arith
    properties_height_is n (LastProperty key e) list used h b = let own0 = ap (highest (λ (p : Pair). height_at (take n facts) p.value)) h.1 in let b' = subst (PropertiesBelow n) h.1 b in let q0 = early_height n h.0 b'.0 in let r0 = height_is e h.0 used h.2 in omega arith

    pub variables_height_is : (n : ℕ) (t : Variables) (list : List Declarator) (used : List ℕ) → VariablesShow ns t list used → DeclaratorsBelow n list → declarators_height (take n facts) list ≡ variables_height t
    variables_height_is n NoVariable list used h b = ap (declarators_height (take n facts)) h.0
    variables_height_is n (Variable x e rest) list used h b = let own0 = ap (declarators_height (take n facts)) h.4 in let b' = subst (DeclaratorsBelow n) h.4 b in let r0 = optional_height_is n e h.0 h.2 h.6 b'.0 in let z0 = variables_height_is n rest h.1 h.3 h.7 b'.1 in omega arith

    pub init_height_is : (n : ℕ) (t : Init) (list : ForInit) (used : List ℕ) → InitShows ns t list used → InitBelow n list → facts_init_height (take n facts) list ≡ init_height t
    init_height_is n NoInit list used h b = ap (facts_init_height (take n facts)) h.0
    init_height_is n (InitExpr e) list used h b = let own0 = ap (facts_init_height (take n facts)) h.1 in let b' = subst (InitBelow n) h.1 b in let q0 = early_height n h.0 b' in let r0 = height_is e h.0 used h.2 in omega arith
    init_height_is n (InitVar vs) list used h b = let own0 = ap (facts_init_height (take n facts)) h.1 in let b' = subst (InitBelow n) h.1 b in let r0 = variables_height_is n vs h.0 used h.2 b' in omega arith

    pub stmt_height_is : (t : Stmt) (i : NodeId) (used : List ℕ) → StmtShows ns t i used → height_at facts i ≡ stmt_height t
    stmt_height_is (Block body) i used h = let node0 = of_node i _ h.2 in let own0 = node0.right.height in let r0 = stmts_height_is i.0 body h.0 h.1 h.4 node0.below in omega arith
    stmt_height_is (Var vs end) i used h = let node0 = of_node i _ h.2 in let own0 = node0.right.height in let r0 = variables_height_is i.0 vs h.0 h.1 h.4 node0.below in omega arith
    stmt_height_is Empty i used h = (of_node i _ h.0).right.height
    stmt_height_is (ExprStmt e end) i used h = let node0 = of_node i _ h.2 in let own0 = node0.right.height in let q0 = early_height i.0 h.0 node0.below in let r0 = height_is e h.0 h.1 h.4 in omega arith
    stmt_height_is (If e s) i used h = let node0 = of_node i _ h.4 in let own0 = node0.right.height in let q0 = early_height i.0 h.0 node0.below.0 in let r0 = height_is e h.0 h.2 h.6 in let q1 = early_height i.0 h.1 node0.below.1 in let r1 = stmt_height_is s h.1 h.3 h.7 in omega arith
    stmt_height_is (IfElse e s u) i used h = let node0 = of_node i _ h.6 in let own0 = node0.right.height in let q0 = early_height i.0 h.0 node0.below.0 in let r0 = height_is e h.0 h.3 h.8 in let q1 = early_height i.0 h.1 node0.below.1 in let r1 = stmt_height_is s h.1 h.4 h.9 in let q2 = early_height i.0 h.2 node0.below.2 in let r2 = stmt_height_is u h.2 h.5 h.10 in omega arith
    stmt_height_is (DoWhile s e end) i used h = let node0 = of_node i _ h.4 in let own0 = node0.right.height in let q0 = early_height i.0 h.0 node0.below.0 in let r0 = stmt_height_is s h.0 h.2 h.6 in let q1 = early_height i.0 h.1 node0.below.1 in let r1 = height_is e h.1 h.3 h.7 in omega arith
    stmt_height_is (While e s) i used h = let node0 = of_node i _ h.4 in let own0 = node0.right.height in let q0 = early_height i.0 h.0 node0.below.0 in let r0 = height_is e h.0 h.2 h.6 in let q1 = early_height i.0 h.1 node0.below.1 in let r1 = stmt_height_is s h.1 h.3 h.7 in omega arith
    stmt_height_is (For init test update s) i used h = let node0 = of_node i _ h.8 in let own0 = node0.right.height in let r0 = init_height_is i.0 init h.0 h.4 h.10 node0.below.0 in let r1 = optional_height_is i.0 test h.1 h.5 h.11 node0.below.1 in let r2 = optional_height_is i.0 update h.2 h.6 h.12 node0.below.2 in let q3 = early_height i.0 h.3 node0.below.3 in let r3 = stmt_height_is s h.3 h.7 h.13 in omega arith
    stmt_height_is (ForIn t e s) i used h = let node0 = of_node i _ h.6 in let own0 = node0.right.height in let q0 = early_height i.0 h.0 node0.below.0 in let r0 = height_is t h.0 h.3 h.8 in let q1 = early_height i.0 h.1 node0.below.1 in let r1 = height_is e h.1 h.4 h.9 in let q2 = early_height i.0 h.2 node0.below.2 in let r2 = stmt_height_is s h.2 h.5 h.10 in omega arith
    stmt_height_is (ForVarIn x e s) i used h = let node0 = of_node i _ h.4 in let own0 = node0.right.height in let q0 = early_height i.0 h.0 node0.below.0 in let r0 = height_is e h.0 h.2 h.6 in let q1 = early_height i.0 h.1 node0.below.1 in let r1 = stmt_height_is s h.1 h.3 h.7 in omega arith
    stmt_height_is (Continue label end) i used h = (of_node i _ h.0).right.height
    stmt_height_is (Break label end) i used h = (of_node i _ h.0).right.height
    stmt_height_is (Return e end) i used h = let node0 = of_node i _ h.2 in let own0 = node0.right.height in let r0 = optional_height_is i.0 e h.0 h.1 h.4 node0.below in omega arith
    stmt_height_is (Throw e end) i used h = let node0 = of_node i _ h.2 in let own0 = node0.right.height in let q0 = early_height i.0 h.0 node0.below in let r0 = height_is e h.0 h.1 h.4 in omega arith
    stmt_height_is (Label x s) i used h = let node0 = of_node i _ h.2 in let own0 = node0.right.height in let q0 = early_height i.0 h.0 node0.below in let r0 = stmt_height_is s h.0 h.1 h.4 in omega arith
    stmt_height_is (Switch e clauses) i used h = let node0 = of_node i _ h.4 in let own0 = node0.right.height in let q0 = early_height i.0 h.0 node0.below.0 in let r0 = height_is e h.0 h.2 h.6 in let r1 = clauses_height_is i.0 clauses h.1 h.3 h.7 node0.below.1 in omega arith
    stmt_height_is (TryCatch b x c) i used h =
        let node0 = of_node i _ h.6 in let own0 = node0.right.height in let q0 = early_height i.0 h.0 (node0.below.0) in let b0 = of_node h.0 _ h.8 in let p0 = b0.right.height in let r0 = stmts_height_is h.0.0 b h.2 h.4 h.9 b0.below in let q1 = early_height i.0 h.1 (node0.below.1) in let b1 = of_node h.1 _ h.10 in let p1 = b1.right.height in let r1 = stmts_height_is h.1.0 c h.3 h.5 h.11 b1.below in omega arith
    stmt_height_is (TryFinally b f) i used h =
        let node0 = of_node i _ h.6 in let own0 = node0.right.height in let q0 = early_height i.0 h.0 (node0.below.0) in let b0 = of_node h.0 _ h.8 in let p0 = b0.right.height in let r0 = stmts_height_is h.0.0 b h.2 h.4 h.9 b0.below in let q1 = early_height i.0 h.1 (node0.below.2) in let b1 = of_node h.1 _ h.10 in let p1 = b1.right.height in let r1 = stmts_height_is h.1.0 f h.3 h.5 h.11 b1.below in omega arith
    stmt_height_is (TryBoth b x c f) i used h =
        let node0 = of_node i _ h.9 in let own0 = node0.right.height in let q0 = early_height i.0 h.0 (node0.below.0) in let b0 = of_node h.0 _ h.11 in let p0 = b0.right.height in let r0 = stmts_height_is h.0.0 b h.3 h.6 h.12 b0.below in let q1 = early_height i.0 h.1 (node0.below.1) in let b1 = of_node h.1 _ h.13 in let p1 = b1.right.height in let r1 = stmts_height_is h.1.0 c h.4 h.7 h.14 b1.below in let q2 = early_height i.0 h.2 (node0.below.2) in let b2 = of_node h.2 _ h.15 in let p2 = b2.right.height in let r2 = stmts_height_is h.2.0 f h.5 h.8 h.16 b2.below in omega arith
    stmt_height_is (Within e b) i used h =
        let node0 = of_node i _ h.5 in let own0 = node0.right.height in let q0 = early_height i.0 h.0 node0.below.0 in let r0 = height_is e h.0 h.3 h.7 in let q1 = early_height i.0 h.1 (node0.below.1) in let b1 = of_node h.1 _ h.8 in let p1 = b1.right.height in let r1 = stmts_height_is h.1.0 b h.2 h.4 h.9 b1.below in omega arith

    pub stmts_height_is : (n : ℕ) (t : Stmts) (list : List NodeId) (used : List ℕ) → StmtsShow ns t list used → AreBelow n list → list_height (take n facts) list ≡ stmts_height t
    stmts_height_is n NoStmt list used h b = ap (list_height (take n facts)) h.0
    stmts_height_is n (MoreStmts s rest) list used h b = let own0 = ap (list_height (take n facts)) h.4 in let b' = subst (AreBelow n) h.4 b in let q0 = early_height n h.0 b'.0 in let r0 = stmt_height_is s h.0 h.2 h.6 in let z0 = stmts_height_is n rest h.1 h.3 h.7 b'.1 in omega arith

    pub clauses_height_is : (n : ℕ) (t : Clauses) (list : List Clause) (used : List ℕ) → ClausesShow ns t list used → ClausesBelow n list → highest (clause_height (take n facts)) list ≡ clauses_height t
    clauses_height_is n NoClause list used h b = ap (highest (clause_height (take n facts))) h.0
    clauses_height_is n (Case e body rest) list used h b = let own0 = ap (highest (clause_height (take n facts))) h.6 in let b' = subst (ClausesBelow n) h.6 b in let q0 = early_height n h.0 b'.0 in let r0 = height_is e h.0 h.3 h.8 in let y0 = stmts_height_is n body h.1 h.4 h.9 b'.1 in let z0 = clauses_height_is n rest h.2 h.5 h.10 b'.2 in omega arith
    clauses_height_is n (Default body rest) list used h b = let own0 = ap (highest (clause_height (take n facts))) h.4 in let b' = subst (ClausesBelow n) h.4 b in let y0 = stmts_height_is n body h.0 h.2 h.6 b'.1 in let z0 = clauses_height_is n rest h.1 h.3 h.7 b'.2 in omega arith

    pub elements_height_is : (n : ℕ) (t : Elements) (list : List NodeId) (used : List ℕ) → ElementsShow ns t list used → AreBelow n list → list_height (take n facts) list ≡ elements_height t
    elements_height_is n NoElement list used h b = ap (list_height (take n facts)) h.0
    elements_height_is n (Statement s rest) list used h b = let own0 = ap (list_height (take n facts)) h.4 in let b' = subst (AreBelow n) h.4 b in let q0 = early_height n h.0 b'.0 in let r0 = stmt_height_is s h.0 h.2 h.6 in let z0 = elements_height_is n rest h.1 h.3 h.7 b'.1 in omega arith
    elements_height_is n (FunctionDecl x formals body rest) list used h b = let own0 = ap (list_height (take n facts)) h.5 in let b' = subst (AreBelow n) h.5 b in let m0 = of_node h.0 _ h.7 in let w0 = m0.right.height in let q0 = early_height n h.0 b'.0 in let y0 = elements_height_is h.0.0 body h.1 h.3 h.8 m0.below in let z0 = elements_height_is n rest h.2 h.4 h.9 b'.1 in omega arith

-- a statement has a height
pub at_least_one : (t : Stmt) → 1 ≤ stmt_height t
at_least_one (IfElse e s u) = omega arith
at_least_one (Block body) = omega arith
at_least_one (Var vs end) = omega arith
at_least_one Empty = omega arith
at_least_one (ExprStmt e end) = omega arith
at_least_one (If e s) = omega arith
at_least_one (DoWhile s e end) = omega arith
at_least_one (While e s) = omega arith
at_least_one (For init test update s) = omega arith
at_least_one (ForIn r e s) = omega arith
at_least_one (ForVarIn x e s) = omega arith
at_least_one (Continue label end) = omega arith
at_least_one (Break label end) = omega arith
at_least_one (Return e end) = omega arith
at_least_one (Throw e end) = omega arith
at_least_one (Label x s) = omega arith
at_least_one (Switch e clauses) = omega arith
at_least_one (TryCatch b x c) = omega arith
at_least_one (TryFinally b f) = omega arith
at_least_one (TryBoth b x c f) = omega arith
at_least_one (Within e b) = omega arith

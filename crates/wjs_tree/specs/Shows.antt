-- Nodes that stand for trees.
use Rattle.std.specs.Prelude.{◌≡◌, ℕ, ◌≤◌, Bool, true, false, List, [], ◌∷◌, ◌++◌, length, Option, Some, None, slice_get}
use Rattle.wjs_base.specs.declared.ids.NodeId.{NodeId}
use Rattle.wjs_tree.specs.declared.node.Node.{Node}
use Rattle.wjs_tree.specs.declared.node.Node.TheVariants as nodes
use Rattle.wjs_tree.specs.declared.node.Property.{Property as Pair}
use Rattle.wjs_tree.specs.declared.node.Declarator.{Declarator}
use Rattle.wjs_tree.specs.declared.node.ForInit.{ForInit}
use Rattle.wjs_tree.specs.declared.node.ForInit.TheVariants as inits
use Rattle.wjs_tree.specs.declared.node.Clause.{Clause}
use Rattle.wjs_tree.specs.Trees.{Expr, Optional, Arguments, Items, Properties, Variables, Init, Stmt, Stmts, Clauses, Elements, Name, Number, Text, This, ThisWorld, Null, Boolean, Paren, ArrayLit, ObjectLit, Function, Dot, At, Call, NewWith, NewBare, Postfix, Prefix, Binary, Cond, Assign, Comma, Absent, Present, NoArgument, Argument, NoItem, Hole, Item, LastItem, NoProperty, Property, LastProperty, NoVariable, Variable, NoInit, InitExpr, InitVar, Block, Var, Empty, ExprStmt, If, IfElse, DoWhile, While, For, ForIn, ForVarIn, Continue, Break, Return, Throw, Label, Switch, TryCatch, TryFinally, TryBoth, Within, NoStmt, MoreStmts, NoClause, Case, Default, NoElement, Statement, FunctionDecl}

-- the node of a number
abbrev pub Has : List Node → NodeId → Node → Type 0
Has ns i node = slice_get ns i.0 ≡ Some node

-- one more comma stands behind a last expression
abbrev pub has_tail : Items → Bool
has_tail NoItem = false
has_tail (Hole rest) = has_tail rest
has_tail (Item e NoItem) = true
has_tail (Item e rest) = has_tail rest
has_tail (LastItem e) = false

-- one more comma stands behind the last property
abbrev pub has_comma : Properties → Bool
has_comma NoProperty = false
has_comma (Property key e NoProperty) = true
has_comma (Property key e rest) = has_comma rest
has_comma (LastProperty key e) = false

-- The node stands for the tree; `used` has the number of each node that it is made of, as often as it stands in the tree.
abbrev mutual
  pub Shows : List Node → Expr → NodeId → List ℕ → Type 0
  Shows ns (Name x) i used = Has ns i (nodes.Name x) × (used ≡ i.0 ∷ [])
  Shows ns (Number k) i used = Has ns i (nodes.Number k) × (used ≡ i.0 ∷ [])
  Shows ns (Text x) i used = Has ns i (nodes.Text x) × (used ≡ i.0 ∷ [])
  Shows ns This i used = Has ns i nodes.This × (used ≡ i.0 ∷ [])
  Shows ns ThisWorld i used = Has ns i nodes.ThisWorld × (used ≡ i.0 ∷ [])
  Shows ns Null i used = Has ns i nodes.Null × (used ≡ i.0 ∷ [])
  Shows ns (Boolean b) i used = Has ns i (nodes.Bool b) × (used ≡ i.0 ∷ [])
  Shows ns (Paren e) i used = (a : NodeId) × (us : List ℕ) × Has ns i (nodes.Paren a) × (used ≡ i.0 ∷ us) × Shows ns e a us
  Shows ns (ArrayLit xs) i used = (list : List (Option NodeId)) × (us : List ℕ) × Has ns i (nodes.ArrayLit list (has_tail xs)) × (used ≡ i.0 ∷ us) × ItemsShow ns xs list us
  Shows ns (ObjectLit ps) i used = (list : List Pair) × (us : List ℕ) × Has ns i (nodes.ObjectLit list (has_comma ps)) × (used ≡ i.0 ∷ us) × PropertiesShow ns ps list us
  Shows ns (Function name formals body) i used = (list : List NodeId) × (us : List ℕ) × Has ns i (nodes.Function name formals list) × (used ≡ i.0 ∷ us) × ElementsShow ns body list us
  Shows ns (Dot e x) i used = (a : NodeId) × (us : List ℕ) × Has ns i (nodes.Dot a x) × (used ≡ i.0 ∷ us) × Shows ns e a us
  Shows ns (At e j) i used = (a b : NodeId) × (us vs : List ℕ) × Has ns i (nodes.At a b) × (used ≡ i.0 ∷ (us ++ vs)) × Shows ns e a us × Shows ns j b vs
  Shows ns (Call f xs) i used = (a : NodeId) × (list : List NodeId) × (us vs : List ℕ) × Has ns i (nodes.Call a list) × (used ≡ i.0 ∷ (us ++ vs)) × Shows ns f a us × ArgumentsShow ns xs list vs
  Shows ns (NewWith f xs) i used = (a : NodeId) × (list : List NodeId) × (us vs : List ℕ) × Has ns i (nodes.NewWith a list) × (used ≡ i.0 ∷ (us ++ vs)) × Shows ns f a us × ArgumentsShow ns xs list vs
  Shows ns (NewBare f) i used = (a : NodeId) × (us : List ℕ) × Has ns i (nodes.NewBare a) × (used ≡ i.0 ∷ us) × Shows ns f a us
  Shows ns (Postfix t op) i used = (a : NodeId) × (us : List ℕ) × Has ns i (nodes.Postfix a op) × (used ≡ i.0 ∷ us) × Shows ns t a us
  Shows ns (Prefix op e) i used = (a : NodeId) × (us : List ℕ) × Has ns i (nodes.Prefix op a) × (used ≡ i.0 ∷ us) × Shows ns e a us
  Shows ns (Binary l op r) i used = (a b : NodeId) × (us vs : List ℕ) × Has ns i (nodes.Binary a op b) × (used ≡ i.0 ∷ (us ++ vs)) × Shows ns l a us × Shows ns r b vs
  Shows ns (Cond c x y) i used = (a b d : NodeId) × (us vs ws : List ℕ) × Has ns i (nodes.Cond a b d) × (used ≡ i.0 ∷ (us ++ (vs ++ ws))) × Shows ns c a us × Shows ns x b vs × Shows ns y d ws
  Shows ns (Assign t op e) i used = (a b : NodeId) × (us vs : List ℕ) × Has ns i (nodes.Assign a op b) × (used ≡ i.0 ∷ (us ++ vs)) × Shows ns t a us × Shows ns e b vs
  Shows ns (Comma l r) i used = (a b : NodeId) × (us vs : List ℕ) × Has ns i (nodes.Comma a b) × (used ≡ i.0 ∷ (us ++ vs)) × Shows ns l a us × Shows ns r b vs

  pub OptionalShows : List Node → Optional → Option NodeId → List ℕ → Type 0
  OptionalShows ns Absent o used = (o ≡ None) × (used ≡ [])
  OptionalShows ns (Present e) o used = (a : NodeId) × (o ≡ Some a) × Shows ns e a used

  pub ArgumentsShow : List Node → Arguments → List NodeId → List ℕ → Type 0
  ArgumentsShow ns NoArgument list used = (list ≡ []) × (used ≡ [])
  ArgumentsShow ns (Argument e rest) list used = (a : NodeId) × (more : List NodeId) × (us vs : List ℕ) × (list ≡ a ∷ more) × (used ≡ us ++ vs) × Shows ns e a us × ArgumentsShow ns rest more vs

  pub ItemsShow : List Node → Items → List (Option NodeId) → List ℕ → Type 0
  ItemsShow ns NoItem list used = (list ≡ []) × (used ≡ [])
  ItemsShow ns (Hole rest) list used = (more : List (Option NodeId)) × (list ≡ None ∷ more) × ItemsShow ns rest more used
  ItemsShow ns (Item e rest) list used = (a : NodeId) × (more : List (Option NodeId)) × (us vs : List ℕ) × (list ≡ Some a ∷ more) × (used ≡ us ++ vs) × Shows ns e a us × ItemsShow ns rest more vs
  ItemsShow ns (LastItem e) list used = (a : NodeId) × (list ≡ Some a ∷ []) × Shows ns e a used

  pub PropertiesShow : List Node → Properties → List Pair → List ℕ → Type 0
  PropertiesShow ns NoProperty list used = (list ≡ []) × (used ≡ [])
  PropertiesShow ns (Property key e rest) list used =
      (a : NodeId) × (more : List Pair) × (us vs : List ℕ) × (list ≡ record { key = key; value = a } ∷ more) × (used ≡ us ++ vs) × Shows ns e a us × PropertiesShow ns rest more vs
  PropertiesShow ns (LastProperty key e) list used = (a : NodeId) × (list ≡ record { key = key; value = a } ∷ []) × Shows ns e a used

  pub VariablesShow : List Node → Variables → List Declarator → List ℕ → Type 0
  VariablesShow ns NoVariable list used = (list ≡ []) × (used ≡ [])
  VariablesShow ns (Variable x e rest) list used =
      (o : Option NodeId) × (more : List Declarator) × (us vs : List ℕ) × (list ≡ record { name = x; value = o } ∷ more) × (used ≡ us ++ vs) × OptionalShows ns e o us × VariablesShow ns rest more vs

  pub InitShows : List Node → Init → ForInit → List ℕ → Type 0
  InitShows ns NoInit init used = (init ≡ inits.Nothing) × (used ≡ [])
  InitShows ns (InitExpr e) init used = (a : NodeId) × (init ≡ inits.Expr a) × Shows ns e a used
  InitShows ns (InitVar vs) init used = (list : List Declarator) × (init ≡ inits.Var list) × VariablesShow ns vs list used

  pub StmtShows : List Node → Stmt → NodeId → List ℕ → Type 0
  StmtShows ns (Block body) i used = (list : List NodeId) × (us : List ℕ) × Has ns i (nodes.Block list) × (used ≡ i.0 ∷ us) × StmtsShow ns body list us
  StmtShows ns (Var vs end) i used = (list : List Declarator) × (us : List ℕ) × Has ns i (nodes.Var list end) × (used ≡ i.0 ∷ us) × VariablesShow ns vs list us
  StmtShows ns Empty i used = Has ns i nodes.Empty × (used ≡ i.0 ∷ [])
  StmtShows ns (ExprStmt e end) i used = (a : NodeId) × (us : List ℕ) × Has ns i (nodes.Expr a end) × (used ≡ i.0 ∷ us) × Shows ns e a us
  StmtShows ns (If e s) i used = (a b : NodeId) × (us vs : List ℕ) × Has ns i (nodes.If a b None) × (used ≡ i.0 ∷ (us ++ vs)) × Shows ns e a us × StmtShows ns s b vs
  StmtShows ns (IfElse e s u) i used =
      (a b d : NodeId) × (us vs ws : List ℕ) × Has ns i (nodes.If a b (Some d)) × (used ≡ i.0 ∷ (us ++ (vs ++ ws))) × Shows ns e a us × StmtShows ns s b vs × StmtShows ns u d ws
  StmtShows ns (DoWhile s e end) i used = (a b : NodeId) × (us vs : List ℕ) × Has ns i (nodes.DoWhile a b end) × (used ≡ i.0 ∷ (us ++ vs)) × StmtShows ns s a us × Shows ns e b vs
  StmtShows ns (While e s) i used = (a b : NodeId) × (us vs : List ℕ) × Has ns i (nodes.While a b) × (used ≡ i.0 ∷ (us ++ vs)) × Shows ns e a us × StmtShows ns s b vs
  StmtShows ns (For init test update s) i used =
      (f : ForInit) × (o p : Option NodeId) × (a : NodeId) × (us vs ws zs : List ℕ) × Has ns i (nodes.For f o p a) × (used ≡ i.0 ∷ (us ++ (vs ++ (ws ++ zs))))
      × InitShows ns init f us × OptionalShows ns test o vs × OptionalShows ns update p ws × StmtShows ns s a zs
  StmtShows ns (ForIn t e s) i used =
      (a b d : NodeId) × (us vs ws : List ℕ) × Has ns i (nodes.ForIn a b d) × (used ≡ i.0 ∷ (us ++ (vs ++ ws))) × Shows ns t a us × Shows ns e b vs × StmtShows ns s d ws
  StmtShows ns (ForVarIn x e s) i used = (a b : NodeId) × (us vs : List ℕ) × Has ns i (nodes.ForVarIn x a b) × (used ≡ i.0 ∷ (us ++ vs)) × Shows ns e a us × StmtShows ns s b vs
  StmtShows ns (Continue label end) i used = Has ns i (nodes.Continue label end) × (used ≡ i.0 ∷ [])
  StmtShows ns (Break label end) i used = Has ns i (nodes.Break label end) × (used ≡ i.0 ∷ [])
  StmtShows ns (Return e end) i used = (o : Option NodeId) × (us : List ℕ) × Has ns i (nodes.Return o end) × (used ≡ i.0 ∷ us) × OptionalShows ns e o us
  StmtShows ns (Throw e end) i used = (a : NodeId) × (us : List ℕ) × Has ns i (nodes.Throw a end) × (used ≡ i.0 ∷ us) × Shows ns e a us
  StmtShows ns (Label x s) i used = (a : NodeId) × (us : List ℕ) × Has ns i (nodes.Label x a) × (used ≡ i.0 ∷ us) × StmtShows ns s a us
  StmtShows ns (Switch e clauses) i used =
      (a : NodeId) × (list : List Clause) × (us vs : List ℕ) × Has ns i (nodes.Switch a list) × (used ≡ i.0 ∷ (us ++ vs)) × Shows ns e a us × ClausesShow ns clauses list vs
  StmtShows ns (TryCatch b x c) i used =
      (p q : NodeId) × (bs cs : List NodeId) × (us vs : List ℕ) × Has ns i (nodes.Try p (Some (record { name = x; block = q })) None) × (used ≡ i.0 ∷ (p.0 ∷ us) ++ (q.0 ∷ vs))
      × Has ns p (nodes.Block bs) × StmtsShow ns b bs us × Has ns q (nodes.Block cs) × StmtsShow ns c cs vs
  StmtShows ns (TryFinally b f) i used =
      (p q : NodeId) × (bs fs : List NodeId) × (us vs : List ℕ) × Has ns i (nodes.Try p None (Some q)) × (used ≡ i.0 ∷ (p.0 ∷ us) ++ (q.0 ∷ vs))
      × Has ns p (nodes.Block bs) × StmtsShow ns b bs us × Has ns q (nodes.Block fs) × StmtsShow ns f fs vs
  StmtShows ns (TryBoth b x c f) i used =
      (p q r : NodeId) × (bs cs fs : List NodeId) × (us vs ws : List ℕ) × Has ns i (nodes.Try p (Some (record { name = x; block = q })) (Some r))
      × (used ≡ i.0 ∷ (p.0 ∷ us) ++ ((q.0 ∷ vs) ++ (r.0 ∷ ws)))
      × Has ns p (nodes.Block bs) × StmtsShow ns b bs us × Has ns q (nodes.Block cs) × StmtsShow ns c cs vs × Has ns r (nodes.Block fs) × StmtsShow ns f fs ws
  StmtShows ns (Within e b) i used =
      (a p : NodeId) × (bs : List NodeId) × (us vs : List ℕ) × Has ns i (nodes.Within a p) × (used ≡ i.0 ∷ us ++ (p.0 ∷ vs)) × Shows ns e a us × Has ns p (nodes.Block bs) × StmtsShow ns b bs vs

  pub StmtsShow : List Node → Stmts → List NodeId → List ℕ → Type 0
  StmtsShow ns NoStmt list used = (list ≡ []) × (used ≡ [])
  StmtsShow ns (MoreStmts s rest) list used = (a : NodeId) × (more : List NodeId) × (us vs : List ℕ) × (list ≡ a ∷ more) × (used ≡ us ++ vs) × StmtShows ns s a us × StmtsShow ns rest more vs

  pub ClausesShow : List Node → Clauses → List Clause → List ℕ → Type 0
  ClausesShow ns NoClause list used = (list ≡ []) × (used ≡ [])
  ClausesShow ns (Case e body rest) list used =
      (a : NodeId) × (bs : List NodeId) × (more : List Clause) × (us vs ws : List ℕ) × (list ≡ record { test = Some a; body = bs } ∷ more) × (used ≡ us ++ (vs ++ ws))
      × Shows ns e a us × StmtsShow ns body bs vs × ClausesShow ns rest more ws
  ClausesShow ns (Default body rest) list used =
      (bs : List NodeId) × (more : List Clause) × (us vs : List ℕ) × (list ≡ record { test = None; body = bs } ∷ more) × (used ≡ us ++ vs) × StmtsShow ns body bs us × ClausesShow ns rest more vs

  pub ElementsShow : List Node → Elements → List NodeId → List ℕ → Type 0
  ElementsShow ns NoElement list used = (list ≡ []) × (used ≡ [])
  ElementsShow ns (Statement s rest) list used = (a : NodeId) × (more : List NodeId) × (us vs : List ℕ) × (list ≡ a ∷ more) × (used ≡ us ++ vs) × StmtShows ns s a us × ElementsShow ns rest more vs
  ElementsShow ns (FunctionDecl x formals body rest) list used =
      (a : NodeId) × (bs more : List NodeId) × (us vs : List ℕ) × (list ≡ a ∷ more) × (used ≡ (a.0 ∷ us) ++ vs) × Has ns a (nodes.FunctionDecl x formals bs) × ElementsShow ns body bs us × ElementsShow ns rest more vs

-- the node is the Program of the elements
pub record IsBody (ns : List Node) (body : Elements) (i : NodeId) : Type 0 where
  pub list : List NodeId
  pub used : List ℕ
  pub has : Has ns i (nodes.Program list)
  pub shows : ElementsShow ns body list used

-- each node stays under its number
pub record Keeps (old new : List Node) : Type 0 where
  pub same : (i : ℕ) (node : Node) → slice_get old i ≡ Some node → slice_get new i ≡ Some node
  pub longer : length old ≤ length new

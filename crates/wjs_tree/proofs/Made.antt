-- The nodes that a tree is made of, told from the nodes alone: each before those of its parts.
use Rattle.std.specs.Prelude.{◌≡◌, ℕ, List, [], ◌∷◌, ◌++◌, Option, Some, None}
use Rattle.std.proofs.Common.{refl, sym, subst, ap, ◌∙◌, append_assoc, append-nil}
use Rattle.wjs_base.specs.declared.ids.NodeId.{NodeId}
use Rattle.wjs_tree.specs.declared.node.Node.{Node}
use Rattle.wjs_tree.specs.declared.node.Node.TheVariants as nodes
use Rattle.wjs_tree.specs.declared.node.Property.{Property as Pair}
use Rattle.wjs_tree.specs.declared.node.Declarator.{Declarator}
use Rattle.wjs_tree.specs.declared.node.ForInit.{ForInit}
use Rattle.wjs_tree.specs.declared.node.Clause.{Clause}
use Rattle.wjs_tree.specs.Trees.{Expr, Optional, Arguments, Items, Properties, Variables, Init, Stmt, Stmts, Clauses, Elements, Name, Number, Text, This, ThisWorld, Null, Boolean, Paren, ArrayLit, ObjectLit, Function, Dot, At, Call, NewWith, NewBare, Postfix, Prefix, Binary, Cond, Assign, Comma, Absent, Present, NoArgument, Argument, NoItem, Hole, Item, LastItem, NoProperty, Property, LastProperty, NoVariable, Variable, NoInit, InitExpr, InitVar, Block, Var, Empty, ExprStmt, If, IfElse, DoWhile, While, For, ForIn, ForVarIn, Continue, Break, Return, Throw, Label, Switch, TryCatch, TryFinally, TryBoth, Within, NoStmt, MoreStmts, NoClause, Case, Default, NoElement, Statement, FunctionDecl}
use Rattle.wjs_tree.specs.Shows.{Has, Shows, OptionalShows, ArgumentsShow, ItemsShow, PropertiesShow, VariablesShow, InitShows, StmtShows, StmtsShow, ClausesShow, ElementsShow}
use Rattle.wjs_tree.specs.Parts.{option_part, item_parts, property_parts, initialisers, init_parts, clause_parts, parts_of}

-- The nodes of the list, each with what it is made of, have these numbers. So a law of the nodes of trees has one case for
-- all forms.
pub data Made (ns : List Node) : List NodeId → List ℕ → Type 0 where
  nothing : {list : List NodeId} {used : List ℕ} → list ≡ [] → used ≡ [] → Made ns list used
  first : {list : List NodeId} {used : List ℕ} (i : NodeId) (rest : List NodeId) (node : Node) (us vs : List ℕ)
      → list ≡ i ∷ rest → used ≡ i.0 ∷ (us ++ vs) → Has ns i node → Made ns (parts_of node) us → Made ns rest vs → Made ns list used

-- a node and its parts
one : (ns : List Node) (i : NodeId) (node : Node) (us used : List ℕ) → Has ns i node → used ≡ i.0 ∷ us → Made ns (parts_of node) us → Made ns (i ∷ []) used
one ns i node us used has is parts = first i [] node us [] refl (is ∙ ap (λ z. i.0 ∷ z) (sym (append-nil us))) has parts (nothing refl refl)

leaf : (ns : List Node) (i : NodeId) (node : Node) (used : List ℕ) → parts_of node ≡ [] → Has ns i node → used ≡ i.0 ∷ [] → Made ns (i ∷ []) used
leaf ns i node used none has is = one ns i node [] used has is (nothing none refl)

both : (ns : List Node) (xs ys : List NodeId) (us vs : List ℕ) → Made ns xs us → Made ns ys vs → Made ns (xs ++ ys) (us ++ vs)
both ns xs ys us vs (nothing e u) b = subst (λ z. Made ns (z ++ ys) (us ++ vs)) (sym e) (subst (λ z. Made ns ys (z ++ vs)) (sym u) b)
both ns xs ys us vs (first i rest node ps qs e u has parts more) b =
    first i (rest ++ ys) node ps (qs ++ vs) (ap (λ z. z ++ ys) e) (ap (λ z. z ++ vs) u ∙ ap (λ z. i.0 ∷ z) (append_assoc ps qs vs)) has parts (both ns rest ys qs vs more b)

moved : (ns : List Node) {xs ys : List NodeId} {us vs : List ℕ} → xs ≡ ys → us ≡ vs → Made ns ys vs → Made ns xs us
moved ns {xs} {ys} {us} {vs} e u made = subst (λ z. Made ns z us) (sym e) (subst (λ z. Made ns ys z) (sym u) made)

mutual
  -- what stands for a tree is made so
  pub made : (ns : List Node) (t : Expr) (i : NodeId) (used : List ℕ) → Shows ns t i used → Made ns (i ∷ []) used
  made ns (Name x) i used h = leaf ns i (nodes.Name x) used refl h.0 h.1
  made ns (Number k) i used h = leaf ns i (nodes.Number k) used refl h.0 h.1
  made ns (Text x) i used h = leaf ns i (nodes.Text x) used refl h.0 h.1
  made ns This i used h = leaf ns i nodes.This used refl h.0 h.1
  made ns ThisWorld i used h = leaf ns i nodes.ThisWorld used refl h.0 h.1
  made ns Null i used h = leaf ns i nodes.Null used refl h.0 h.1
  made ns (Boolean b) i used h = leaf ns i (nodes.Bool b) used refl h.0 h.1
  made ns (Paren e) i used h = one ns i (nodes.Paren h.0) h.1 used h.2 h.3 (made ns e h.0 h.1 h.4)
  made ns (ArrayLit xs) i used h = one ns i (nodes.ArrayLit h.0 _) h.1 used h.2 h.3 (items_made ns xs h.0 h.1 h.4)
  made ns (ObjectLit ps) i used h = one ns i (nodes.ObjectLit h.0 _) h.1 used h.2 h.3 (properties_made ns ps h.0 h.1 h.4)
  made ns (Function name formals body) i used h = one ns i (nodes.Function name formals h.0) h.1 used h.2 h.3 (elements_made ns body h.0 h.1 h.4)
  made ns (Dot e x) i used h = one ns i (nodes.Dot h.0 x) h.1 used h.2 h.3 (made ns e h.0 h.1 h.4)
  made ns (At e j) i used h = one ns i (nodes.At h.0 h.1) (h.2 ++ h.3) used h.4 h.5 (both ns (h.0 ∷ []) (h.1 ∷ []) h.2 h.3 (made ns e h.0 h.2 h.6) (made ns j h.1 h.3 h.7))
  made ns (Call f xs) i used h = one ns i (nodes.Call h.0 h.1) (h.2 ++ h.3) used h.4 h.5 (both ns (h.0 ∷ []) h.1 h.2 h.3 (made ns f h.0 h.2 h.6) (arguments_made ns xs h.1 h.3 h.7))
  made ns (NewWith f xs) i used h = one ns i (nodes.NewWith h.0 h.1) (h.2 ++ h.3) used h.4 h.5 (both ns (h.0 ∷ []) h.1 h.2 h.3 (made ns f h.0 h.2 h.6) (arguments_made ns xs h.1 h.3 h.7))
  made ns (NewBare f) i used h = one ns i (nodes.NewBare h.0) h.1 used h.2 h.3 (made ns f h.0 h.1 h.4)
  made ns (Postfix t op) i used h = one ns i (nodes.Postfix h.0 op) h.1 used h.2 h.3 (made ns t h.0 h.1 h.4)
  made ns (Prefix op e) i used h = one ns i (nodes.Prefix op h.0) h.1 used h.2 h.3 (made ns e h.0 h.1 h.4)
  made ns (Binary l op r) i used h = one ns i (nodes.Binary h.0 op h.1) (h.2 ++ h.3) used h.4 h.5 (both ns (h.0 ∷ []) (h.1 ∷ []) h.2 h.3 (made ns l h.0 h.2 h.6) (made ns r h.1 h.3 h.7))
  made ns (Cond c x y) i used h = one ns i (nodes.Cond h.0 h.1 h.2) (h.3 ++ (h.4 ++ h.5)) used h.6 h.7 (both ns (h.0 ∷ []) ((h.1 ∷ []) ++ (h.2 ∷ [])) h.3 (h.4 ++ h.5) (made ns c h.0 h.3 h.8) (both ns (h.1 ∷ []) (h.2 ∷ []) h.4 h.5 (made ns x h.1 h.4 h.9) (made ns y h.2 h.5 h.10)))
  made ns (Assign t op e) i used h = one ns i (nodes.Assign h.0 op h.1) (h.2 ++ h.3) used h.4 h.5 (both ns (h.0 ∷ []) (h.1 ∷ []) h.2 h.3 (made ns t h.0 h.2 h.6) (made ns e h.1 h.3 h.7))
  made ns (Comma l r) i used h = one ns i (nodes.Comma h.0 h.1) (h.2 ++ h.3) used h.4 h.5 (both ns (h.0 ∷ []) (h.1 ∷ []) h.2 h.3 (made ns l h.0 h.2 h.6) (made ns r h.1 h.3 h.7))

  pub optional_made : (ns : List Node) (t : Optional) (o : Option NodeId) (used : List ℕ) → OptionalShows ns t o used → Made ns (option_part o) used
  optional_made ns Absent o used h = nothing (ap option_part h.0) h.1
  optional_made ns (Present e) o used h = moved ns (ap option_part h.1) refl (made ns e h.0 used h.2)

  pub arguments_made : (ns : List Node) (t : Arguments) (list : List NodeId) (used : List ℕ) → ArgumentsShow ns t list used → Made ns list used
  arguments_made ns NoArgument list used h = nothing h.0 h.1
  arguments_made ns (Argument e rest) list used h = moved ns h.4 h.5 (both ns (h.0 ∷ []) h.1 h.2 h.3 (made ns e h.0 h.2 h.6) (arguments_made ns rest h.1 h.3 h.7))

  pub items_made : (ns : List Node) (t : Items) (list : List (Option NodeId)) (used : List ℕ) → ItemsShow ns t list used → Made ns (item_parts list) used
  items_made ns NoItem list used h = nothing (ap item_parts h.0) h.1
  items_made ns (Hole rest) list used h = moved ns (ap item_parts h.1) refl (items_made ns rest h.0 used h.2)
  items_made ns (Item e rest) list used h = moved ns (ap item_parts h.4) h.5 (both ns (h.0 ∷ []) (item_parts h.1) h.2 h.3 (made ns e h.0 h.2 h.6) (items_made ns rest h.1 h.3 h.7))
  items_made ns (LastItem e) list used h = moved ns (ap item_parts h.1) refl (made ns e h.0 used h.2)

  pub properties_made : (ns : List Node) (t : Properties) (list : List Pair) (used : List ℕ) → PropertiesShow ns t list used → Made ns (property_parts list) used
  properties_made ns NoProperty list used h = nothing (ap property_parts h.0) h.1
  properties_made ns (Property key e rest) list used h = moved ns (ap property_parts h.4) h.5 (both ns (h.0 ∷ []) (property_parts h.1) h.2 h.3 (made ns e h.0 h.2 h.6) (properties_made ns rest h.1 h.3 h.7))
  properties_made ns (LastProperty key e) list used h = moved ns (ap property_parts h.1) refl (made ns e h.0 used h.2)

  pub variables_made : (ns : List Node) (t : Variables) (list : List Declarator) (used : List ℕ) → VariablesShow ns t list used → Made ns (initialisers list) used
  variables_made ns NoVariable list used h = nothing (ap initialisers h.0) h.1
  variables_made ns (Variable x e rest) list used h = moved ns (ap initialisers h.4) h.5 (both ns (option_part h.0) (initialisers h.1) h.2 h.3 (optional_made ns e h.0 h.2 h.6) (variables_made ns rest h.1 h.3 h.7))

  pub init_made : (ns : List Node) (t : Init) (f : ForInit) (used : List ℕ) → InitShows ns t f used → Made ns (init_parts f) used
  init_made ns NoInit f used h = nothing (ap init_parts h.0) h.1
  init_made ns (InitExpr e) f used h = moved ns (ap init_parts h.1) refl (made ns e h.0 used h.2)
  init_made ns (InitVar vs) f used h = moved ns (ap init_parts h.1) refl (variables_made ns vs h.0 used h.2)

  pub stmt_made : (ns : List Node) (t : Stmt) (i : NodeId) (used : List ℕ) → StmtShows ns t i used → Made ns (i ∷ []) used
  stmt_made ns (Block body) i used h = one ns i (nodes.Block h.0) h.1 used h.2 h.3 (stmts_made ns body h.0 h.1 h.4)
  stmt_made ns (Var vs end) i used h = one ns i (nodes.Var h.0 end) h.1 used h.2 h.3 (variables_made ns vs h.0 h.1 h.4)
  stmt_made ns Empty i used h = leaf ns i nodes.Empty used refl h.0 h.1
  stmt_made ns (ExprStmt e end) i used h = one ns i (nodes.Expr h.0 end) h.1 used h.2 h.3 (made ns e h.0 h.1 h.4)
  stmt_made ns (If e s) i used h = one ns i (nodes.If h.0 h.1 None) (h.2 ++ h.3) used h.4 h.5 (both ns (h.0 ∷ []) (h.1 ∷ []) h.2 h.3 (made ns e h.0 h.2 h.6) (stmt_made ns s h.1 h.3 h.7))
  stmt_made ns (IfElse e s u) i used h = one ns i (nodes.If h.0 h.1 (Some h.2)) (h.3 ++ (h.4 ++ h.5)) used h.6 h.7 (both ns (h.0 ∷ []) ((h.1 ∷ []) ++ (h.2 ∷ [])) h.3 (h.4 ++ h.5) (made ns e h.0 h.3 h.8) (both ns (h.1 ∷ []) (h.2 ∷ []) h.4 h.5 (stmt_made ns s h.1 h.4 h.9) (stmt_made ns u h.2 h.5 h.10)))
  stmt_made ns (DoWhile s e end) i used h = one ns i (nodes.DoWhile h.0 h.1 end) (h.2 ++ h.3) used h.4 h.5 (both ns (h.0 ∷ []) (h.1 ∷ []) h.2 h.3 (stmt_made ns s h.0 h.2 h.6) (made ns e h.1 h.3 h.7))
  stmt_made ns (While e s) i used h = one ns i (nodes.While h.0 h.1) (h.2 ++ h.3) used h.4 h.5 (both ns (h.0 ∷ []) (h.1 ∷ []) h.2 h.3 (made ns e h.0 h.2 h.6) (stmt_made ns s h.1 h.3 h.7))
  stmt_made ns (For init test update s) i used h = one ns i (nodes.For h.0 h.1 h.2 h.3) (h.4 ++ (h.5 ++ (h.6 ++ h.7))) used h.8 h.9 (both ns (init_parts h.0) ((option_part h.1) ++ ((option_part h.2) ++ (h.3 ∷ []))) h.4 (h.5 ++ (h.6 ++ h.7)) (init_made ns init h.0 h.4 h.10) (both ns (option_part h.1) ((option_part h.2) ++ (h.3 ∷ [])) h.5 (h.6 ++ h.7) (optional_made ns test h.1 h.5 h.11) (both ns (option_part h.2) (h.3 ∷ []) h.6 h.7 (optional_made ns update h.2 h.6 h.12) (stmt_made ns s h.3 h.7 h.13))))
  stmt_made ns (ForIn t e s) i used h = one ns i (nodes.ForIn h.0 h.1 h.2) (h.3 ++ (h.4 ++ h.5)) used h.6 h.7 (both ns (h.0 ∷ []) ((h.1 ∷ []) ++ (h.2 ∷ [])) h.3 (h.4 ++ h.5) (made ns t h.0 h.3 h.8) (both ns (h.1 ∷ []) (h.2 ∷ []) h.4 h.5 (made ns e h.1 h.4 h.9) (stmt_made ns s h.2 h.5 h.10)))
  stmt_made ns (ForVarIn x e s) i used h = one ns i (nodes.ForVarIn x h.0 h.1) (h.2 ++ h.3) used h.4 h.5 (both ns (h.0 ∷ []) (h.1 ∷ []) h.2 h.3 (made ns e h.0 h.2 h.6) (stmt_made ns s h.1 h.3 h.7))
  stmt_made ns (Continue label end) i used h = leaf ns i (nodes.Continue label end) used refl h.0 h.1
  stmt_made ns (Break label end) i used h = leaf ns i (nodes.Break label end) used refl h.0 h.1
  stmt_made ns (Return e end) i used h = one ns i (nodes.Return h.0 end) h.1 used h.2 h.3 (optional_made ns e h.0 h.1 h.4)
  stmt_made ns (Throw e end) i used h = one ns i (nodes.Throw h.0 end) h.1 used h.2 h.3 (made ns e h.0 h.1 h.4)
  stmt_made ns (Label x s) i used h = one ns i (nodes.Label x h.0) h.1 used h.2 h.3 (stmt_made ns s h.0 h.1 h.4)
  stmt_made ns (Switch e clauses) i used h = one ns i (nodes.Switch h.0 h.1) (h.2 ++ h.3) used h.4 h.5 (both ns (h.0 ∷ []) (clause_parts h.1) h.2 h.3 (made ns e h.0 h.2 h.6) (clauses_made ns clauses h.1 h.3 h.7))
  stmt_made ns (TryCatch b x c) i used h = one ns i (nodes.Try h.0 (Some (record { name = x; block = h.1 })) None) ((h.0.0 ∷ h.4) ++ (h.1.0 ∷ h.5)) used h.6 h.7 (both ns (h.0 ∷ []) (h.1 ∷ []) (h.0.0 ∷ h.4) (h.1.0 ∷ h.5) (one ns h.0 (nodes.Block h.2) h.4 _ h.8 refl (stmts_made ns b h.2 h.4 h.9)) (one ns h.1 (nodes.Block h.3) h.5 _ h.10 refl (stmts_made ns c h.3 h.5 h.11)))
  stmt_made ns (TryFinally b f) i used h = one ns i (nodes.Try h.0 None (Some h.1)) ((h.0.0 ∷ h.4) ++ (h.1.0 ∷ h.5)) used h.6 h.7 (both ns (h.0 ∷ []) (h.1 ∷ []) (h.0.0 ∷ h.4) (h.1.0 ∷ h.5) (one ns h.0 (nodes.Block h.2) h.4 _ h.8 refl (stmts_made ns b h.2 h.4 h.9)) (one ns h.1 (nodes.Block h.3) h.5 _ h.10 refl (stmts_made ns f h.3 h.5 h.11)))
  stmt_made ns (TryBoth b x c f) i used h = one ns i (nodes.Try h.0 (Some (record { name = x; block = h.1 })) (Some h.2)) ((h.0.0 ∷ h.6) ++ ((h.1.0 ∷ h.7) ++ (h.2.0 ∷ h.8))) used h.9 h.10 (both ns (h.0 ∷ []) ((h.1 ∷ []) ++ (h.2 ∷ [])) (h.0.0 ∷ h.6) ((h.1.0 ∷ h.7) ++ (h.2.0 ∷ h.8)) (one ns h.0 (nodes.Block h.3) h.6 _ h.11 refl (stmts_made ns b h.3 h.6 h.12)) (both ns (h.1 ∷ []) (h.2 ∷ []) (h.1.0 ∷ h.7) (h.2.0 ∷ h.8) (one ns h.1 (nodes.Block h.4) h.7 _ h.13 refl (stmts_made ns c h.4 h.7 h.14)) (one ns h.2 (nodes.Block h.5) h.8 _ h.15 refl (stmts_made ns f h.5 h.8 h.16))))
  stmt_made ns (Within e b) i used h = one ns i (nodes.Within h.0 h.1) (h.3 ++ (h.1.0 ∷ h.4)) used h.5 h.6 (both ns (h.0 ∷ []) (h.1 ∷ []) h.3 (h.1.0 ∷ h.4) (made ns e h.0 h.3 h.7) (one ns h.1 (nodes.Block h.2) h.4 _ h.8 refl (stmts_made ns b h.2 h.4 h.9)))

  pub stmts_made : (ns : List Node) (t : Stmts) (list : List NodeId) (used : List ℕ) → StmtsShow ns t list used → Made ns list used
  stmts_made ns NoStmt list used h = nothing h.0 h.1
  stmts_made ns (MoreStmts s rest) list used h = moved ns h.4 h.5 (both ns (h.0 ∷ []) h.1 h.2 h.3 (stmt_made ns s h.0 h.2 h.6) (stmts_made ns rest h.1 h.3 h.7))

  pub clauses_made : (ns : List Node) (t : Clauses) (list : List Clause) (used : List ℕ) → ClausesShow ns t list used → Made ns (clause_parts list) used
  clauses_made ns NoClause list used h = nothing (ap clause_parts h.0) h.1
  clauses_made ns (Case e body rest) list used h =
      let clause = both ns (h.0 ∷ []) h.1 h.3 h.4 (made ns e h.0 h.3 h.8) (stmts_made ns body h.1 h.4 h.9) in
      moved ns (ap clause_parts h.6) (h.7 ∙ sym (append_assoc h.3 h.4 h.5)) (both ns ((h.0 ∷ []) ++ h.1) (clause_parts h.2) (h.3 ++ h.4) h.5 clause (clauses_made ns rest h.2 h.5 h.10))
  clauses_made ns (Default body rest) list used h =
      moved ns (ap clause_parts h.4) h.5 (both ns h.0 (clause_parts h.1) h.2 h.3 (stmts_made ns body h.0 h.2 h.6) (clauses_made ns rest h.1 h.3 h.7))

  pub elements_made : (ns : List Node) (t : Elements) (list : List NodeId) (used : List ℕ) → ElementsShow ns t list used → Made ns list used
  elements_made ns NoElement list used h = nothing h.0 h.1
  elements_made ns (Statement s rest) list used h = moved ns h.4 h.5 (both ns (h.0 ∷ []) h.1 h.2 h.3 (stmt_made ns s h.0 h.2 h.6) (elements_made ns rest h.1 h.3 h.7))
  elements_made ns (FunctionDecl x formals body rest) list used h = first h.0 h.2 (nodes.FunctionDecl x formals h.1) h.3 h.4 h.5 h.6 h.7 (elements_made ns body h.1 h.3 h.8) (elements_made ns rest h.2 h.4 h.9)

-- what a node alone is made of begins with that node
pub top_of : (ns : List Node) (i : NodeId) (used : List ℕ) → Made ns (i ∷ []) used → (node : Node) × Has ns i node
top_of ns i used (nothing e u) = absurd (cc)
top_of ns i used (first j rest node us vs e u has parts more) = let same : j ≡ i = cc in (node, subst (λ z. Has ns z node) same has)

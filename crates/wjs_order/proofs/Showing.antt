-- A tree's nodes stand for it under their new numbers.
use Rattle.std.specs.Prelude.{ℕ, List, [], ◌∷◌, ◌++◌, map, Option}
use Rattle.std.proofs.Common.{ap, subst, ◌∙◌}
use Rattle.std.proofs.lemmas.List.{map-append}
use Rattle.wjs_base.specs.declared.ids.NodeId.{NodeId}
use Rattle.wjs_tree.specs.declared.node.Node.{Node}
use Rattle.wjs_tree.specs.declared.node.Property.{Property as Pair}
use Rattle.wjs_tree.specs.declared.node.Declarator.{Declarator}
use Rattle.wjs_tree.specs.declared.node.ForInit.{ForInit}
use Rattle.wjs_tree.specs.declared.node.Clause.{Clause}
use Rattle.wjs_tree.specs.Trees.{Expr, Optional, Arguments, Items, Properties, Variables, Init, Stmt, Stmts, Clauses, Elements, Name, Number, Text, This, ThisWorld, Null, Boolean, Paren, ArrayLit, ObjectLit, Function, Dot, At, Call, NewWith, NewBare, Postfix, Prefix, Binary, Cond, Assign, Comma, Absent, Present, NoArgument, Argument, NoItem, Hole, Item, LastItem, NoProperty, Property, LastProperty, NoVariable, Variable, NoInit, InitExpr, InitVar, Block, Var, Empty, ExprStmt, If, IfElse, DoWhile, While, For, ForIn, ForVarIn, Continue, Break, Return, Throw, Label, Switch, TryCatch, TryFinally, TryBoth, Within, NoStmt, MoreStmts, NoClause, Case, Default, NoElement, Statement, FunctionDecl}
use Rattle.wjs_tree.specs.Shows.{Shows, OptionalShows, ArgumentsShow, ItemsShow, PropertiesShow, VariablesShow, InitShows, StmtShows, StmtsShow, ClausesShow, ElementsShow}
use Rattle.wjs_order.specs.Moves.{Moves}
use Rattle.wjs_order.specs.Renumbered.{new_id, new_option, new_property, new_declarator, new_init, new_clause}

module _ (ns ms : List Node) (g : ℕ → ℕ) where
  pub halves : (us vs : List ℕ) → Moves ns ms g (us ++ vs) → Moves ns ms g us × Moves ns ms g vs
  halves [] vs m = (tt, m)
  halves (k ∷ us) vs m = let rest = halves us vs m.1 in ((m.0, rest.0), rest.1)

  mutual
    pub shown : (t : Expr) (i : NodeId) (used : List ℕ) → Moves ns ms g used → Shows ns t i used → Shows ms t (new_id g i) (map g used)
    shown (Name x) i used m h = let all = subst (Moves ns ms g) h.1 m in (all.0 _ h.0, ap (map g) h.1)
    shown (Number k) i used m h = let all = subst (Moves ns ms g) h.1 m in (all.0 _ h.0, ap (map g) h.1)
    shown (Text x) i used m h = let all = subst (Moves ns ms g) h.1 m in (all.0 _ h.0, ap (map g) h.1)
    shown This i used m h = let all = subst (Moves ns ms g) h.1 m in (all.0 _ h.0, ap (map g) h.1)
    shown ThisWorld i used m h = let all = subst (Moves ns ms g) h.1 m in (all.0 _ h.0, ap (map g) h.1)
    shown Null i used m h = let all = subst (Moves ns ms g) h.1 m in (all.0 _ h.0, ap (map g) h.1)
    shown (Boolean b) i used m h = let all = subst (Moves ns ms g) h.1 m in (all.0 _ h.0, ap (map g) h.1)
    shown (Paren e) i used m h = let all = subst (Moves ns ms g) h.3 m in (new_id g h.0, map g h.1, all.0 _ h.2, ap (map g) h.3, shown e h.0 h.1 all.1 h.4)
    shown (ArrayLit xs) i used m h = let all = subst (Moves ns ms g) h.3 m in (map (new_option g) h.0, map g h.1, all.0 _ h.2, ap (map g) h.3, items_shown xs h.0 h.1 all.1 h.4)
    shown (ObjectLit ps) i used m h = let all = subst (Moves ns ms g) h.3 m in (map (new_property g) h.0, map g h.1, all.0 _ h.2, ap (map g) h.3, properties_shown ps h.0 h.1 all.1 h.4)
    shown (Function name formals body) i used m h = let all = subst (Moves ns ms g) h.3 m in (map (new_id g) h.0, map g h.1, all.0 _ h.2, ap (map g) h.3, elements_shown body h.0 h.1 all.1 h.4)
    shown (Dot e x) i used m h = let all = subst (Moves ns ms g) h.3 m in (new_id g h.0, map g h.1, all.0 _ h.2, ap (map g) h.3, shown e h.0 h.1 all.1 h.4)
    shown (At e j) i used m h = let all = subst (Moves ns ms g) h.5 m in let one = halves h.2 h.3 all.1 in (new_id g h.0, new_id g h.1, map g h.2, map g h.3, all.0 _ h.4, ap (map g) h.5 ∙ ap (λ z. g i.0 ∷ z) (map-append g h.2 h.3), shown e h.0 h.2 one.0 h.6, shown j h.1 h.3 one.1 h.7)
    shown (Call f xs) i used m h = let all = subst (Moves ns ms g) h.5 m in let one = halves h.2 h.3 all.1 in (new_id g h.0, map (new_id g) h.1, map g h.2, map g h.3, all.0 _ h.4, ap (map g) h.5 ∙ ap (λ z. g i.0 ∷ z) (map-append g h.2 h.3), shown f h.0 h.2 one.0 h.6, arguments_shown xs h.1 h.3 one.1 h.7)
    shown (NewWith f xs) i used m h = let all = subst (Moves ns ms g) h.5 m in let one = halves h.2 h.3 all.1 in (new_id g h.0, map (new_id g) h.1, map g h.2, map g h.3, all.0 _ h.4, ap (map g) h.5 ∙ ap (λ z. g i.0 ∷ z) (map-append g h.2 h.3), shown f h.0 h.2 one.0 h.6, arguments_shown xs h.1 h.3 one.1 h.7)
    shown (NewBare f) i used m h = let all = subst (Moves ns ms g) h.3 m in (new_id g h.0, map g h.1, all.0 _ h.2, ap (map g) h.3, shown f h.0 h.1 all.1 h.4)
    shown (Postfix t op) i used m h = let all = subst (Moves ns ms g) h.3 m in (new_id g h.0, map g h.1, all.0 _ h.2, ap (map g) h.3, shown t h.0 h.1 all.1 h.4)
    shown (Prefix op e) i used m h = let all = subst (Moves ns ms g) h.3 m in (new_id g h.0, map g h.1, all.0 _ h.2, ap (map g) h.3, shown e h.0 h.1 all.1 h.4)
    shown (Binary l op r) i used m h = let all = subst (Moves ns ms g) h.5 m in let one = halves h.2 h.3 all.1 in (new_id g h.0, new_id g h.1, map g h.2, map g h.3, all.0 _ h.4, ap (map g) h.5 ∙ ap (λ z. g i.0 ∷ z) (map-append g h.2 h.3), shown l h.0 h.2 one.0 h.6, shown r h.1 h.3 one.1 h.7)
    shown (Cond c x y) i used m h = let all = subst (Moves ns ms g) h.7 m in let one = halves h.3 (h.4 ++ h.5) all.1 in let two = halves h.4 h.5 one.1 in (new_id g h.0, new_id g h.1, new_id g h.2, map g h.3, map g h.4, map g h.5, all.0 _ h.6, ap (map g) h.7 ∙ ap (λ z. g i.0 ∷ z) (map-append g h.3 (h.4 ++ h.5) ∙ ap (λ z. map g h.3 ++ z) (map-append g h.4 h.5)), shown c h.0 h.3 one.0 h.8, shown x h.1 h.4 two.0 h.9, shown y h.2 h.5 two.1 h.10)
    shown (Assign t op e) i used m h = let all = subst (Moves ns ms g) h.5 m in let one = halves h.2 h.3 all.1 in (new_id g h.0, new_id g h.1, map g h.2, map g h.3, all.0 _ h.4, ap (map g) h.5 ∙ ap (λ z. g i.0 ∷ z) (map-append g h.2 h.3), shown t h.0 h.2 one.0 h.6, shown e h.1 h.3 one.1 h.7)
    shown (Comma l r) i used m h = let all = subst (Moves ns ms g) h.5 m in let one = halves h.2 h.3 all.1 in (new_id g h.0, new_id g h.1, map g h.2, map g h.3, all.0 _ h.4, ap (map g) h.5 ∙ ap (λ z. g i.0 ∷ z) (map-append g h.2 h.3), shown l h.0 h.2 one.0 h.6, shown r h.1 h.3 one.1 h.7)

    pub optional_shown : (t : Optional) (i : Option NodeId) (used : List ℕ) → Moves ns ms g used → OptionalShows ns t i used → OptionalShows ms t (new_option g i) (map g used)
    optional_shown Absent i used m h = (ap (new_option g) h.0, ap (map g) h.1)
    optional_shown (Present e) i used m h = (new_id g h.0, ap (new_option g) h.1, shown e h.0 used m h.2)

    pub arguments_shown : (t : Arguments) (i : List NodeId) (used : List ℕ) → Moves ns ms g used → ArgumentsShow ns t i used → ArgumentsShow ms t (map (new_id g) i) (map g used)
    arguments_shown NoArgument i used m h = (ap (map (new_id g)) h.0, ap (map g) h.1)
    arguments_shown (Argument e rest) i used m h = let all = subst (Moves ns ms g) h.5 m in let one = halves h.2 h.3 all in (new_id g h.0, map (new_id g) h.1, map g h.2, map g h.3, ap (map (new_id g)) h.4, ap (map g) h.5 ∙ map-append g h.2 h.3, shown e h.0 h.2 one.0 h.6, arguments_shown rest h.1 h.3 one.1 h.7)

    pub items_shown : (t : Items) (i : List (Option NodeId)) (used : List ℕ) → Moves ns ms g used → ItemsShow ns t i used → ItemsShow ms t (map (new_option g) i) (map g used)
    items_shown NoItem i used m h = (ap (map (new_option g)) h.0, ap (map g) h.1)
    items_shown (Hole rest) i used m h = (map (new_option g) h.0, ap (map (new_option g)) h.1, items_shown rest h.0 used m h.2)
    items_shown (Item e rest) i used m h = let all = subst (Moves ns ms g) h.5 m in let one = halves h.2 h.3 all in (new_id g h.0, map (new_option g) h.1, map g h.2, map g h.3, ap (map (new_option g)) h.4, ap (map g) h.5 ∙ map-append g h.2 h.3, shown e h.0 h.2 one.0 h.6, items_shown rest h.1 h.3 one.1 h.7)
    items_shown (LastItem e) i used m h = (new_id g h.0, ap (map (new_option g)) h.1, shown e h.0 used m h.2)

    pub properties_shown : (t : Properties) (i : List Pair) (used : List ℕ) → Moves ns ms g used → PropertiesShow ns t i used → PropertiesShow ms t (map (new_property g) i) (map g used)
    properties_shown NoProperty i used m h = (ap (map (new_property g)) h.0, ap (map g) h.1)
    properties_shown (Property key e rest) i used m h = let all = subst (Moves ns ms g) h.5 m in let one = halves h.2 h.3 all in (new_id g h.0, map (new_property g) h.1, map g h.2, map g h.3, ap (map (new_property g)) h.4, ap (map g) h.5 ∙ map-append g h.2 h.3, shown e h.0 h.2 one.0 h.6, properties_shown rest h.1 h.3 one.1 h.7)
    properties_shown (LastProperty key e) i used m h = (new_id g h.0, ap (map (new_property g)) h.1, shown e h.0 used m h.2)

    pub variables_shown : (t : Variables) (i : List Declarator) (used : List ℕ) → Moves ns ms g used → VariablesShow ns t i used → VariablesShow ms t (map (new_declarator g) i) (map g used)
    variables_shown NoVariable i used m h = (ap (map (new_declarator g)) h.0, ap (map g) h.1)
    variables_shown (Variable x e rest) i used m h = let all = subst (Moves ns ms g) h.5 m in let one = halves h.2 h.3 all in (new_option g h.0, map (new_declarator g) h.1, map g h.2, map g h.3, ap (map (new_declarator g)) h.4, ap (map g) h.5 ∙ map-append g h.2 h.3, optional_shown e h.0 h.2 one.0 h.6, variables_shown rest h.1 h.3 one.1 h.7)

    pub init_shown : (t : Init) (i : ForInit) (used : List ℕ) → Moves ns ms g used → InitShows ns t i used → InitShows ms t (new_init g i) (map g used)
    init_shown NoInit i used m h = (ap (new_init g) h.0, ap (map g) h.1)
    init_shown (InitExpr e) i used m h = (new_id g h.0, ap (new_init g) h.1, shown e h.0 used m h.2)
    init_shown (InitVar vs) i used m h = (map (new_declarator g) h.0, ap (new_init g) h.1, variables_shown vs h.0 used m h.2)

    pub stmt_shown : (t : Stmt) (i : NodeId) (used : List ℕ) → Moves ns ms g used → StmtShows ns t i used → StmtShows ms t (new_id g i) (map g used)
    stmt_shown (Block body) i used m h = let all = subst (Moves ns ms g) h.3 m in (map (new_id g) h.0, map g h.1, all.0 _ h.2, ap (map g) h.3, stmts_shown body h.0 h.1 all.1 h.4)
    stmt_shown (Var vs end) i used m h = let all = subst (Moves ns ms g) h.3 m in (map (new_declarator g) h.0, map g h.1, all.0 _ h.2, ap (map g) h.3, variables_shown vs h.0 h.1 all.1 h.4)
    stmt_shown Empty i used m h = let all = subst (Moves ns ms g) h.1 m in (all.0 _ h.0, ap (map g) h.1)
    stmt_shown (ExprStmt e end) i used m h = let all = subst (Moves ns ms g) h.3 m in (new_id g h.0, map g h.1, all.0 _ h.2, ap (map g) h.3, shown e h.0 h.1 all.1 h.4)
    stmt_shown (If e s) i used m h = let all = subst (Moves ns ms g) h.5 m in let one = halves h.2 h.3 all.1 in (new_id g h.0, new_id g h.1, map g h.2, map g h.3, all.0 _ h.4, ap (map g) h.5 ∙ ap (λ z. g i.0 ∷ z) (map-append g h.2 h.3), shown e h.0 h.2 one.0 h.6, stmt_shown s h.1 h.3 one.1 h.7)
    stmt_shown (IfElse e s u) i used m h = let all = subst (Moves ns ms g) h.7 m in let one = halves h.3 (h.4 ++ h.5) all.1 in let two = halves h.4 h.5 one.1 in (new_id g h.0, new_id g h.1, new_id g h.2, map g h.3, map g h.4, map g h.5, all.0 _ h.6, ap (map g) h.7 ∙ ap (λ z. g i.0 ∷ z) (map-append g h.3 (h.4 ++ h.5) ∙ ap (λ z. map g h.3 ++ z) (map-append g h.4 h.5)), shown e h.0 h.3 one.0 h.8, stmt_shown s h.1 h.4 two.0 h.9, stmt_shown u h.2 h.5 two.1 h.10)
    stmt_shown (DoWhile s e end) i used m h = let all = subst (Moves ns ms g) h.5 m in let one = halves h.2 h.3 all.1 in (new_id g h.0, new_id g h.1, map g h.2, map g h.3, all.0 _ h.4, ap (map g) h.5 ∙ ap (λ z. g i.0 ∷ z) (map-append g h.2 h.3), stmt_shown s h.0 h.2 one.0 h.6, shown e h.1 h.3 one.1 h.7)
    stmt_shown (While e s) i used m h = let all = subst (Moves ns ms g) h.5 m in let one = halves h.2 h.3 all.1 in (new_id g h.0, new_id g h.1, map g h.2, map g h.3, all.0 _ h.4, ap (map g) h.5 ∙ ap (λ z. g i.0 ∷ z) (map-append g h.2 h.3), shown e h.0 h.2 one.0 h.6, stmt_shown s h.1 h.3 one.1 h.7)
    stmt_shown (For init test update s) i used m h = let all = subst (Moves ns ms g) h.9 m in let one = halves h.4 (h.5 ++ (h.6 ++ h.7)) all.1 in let two = halves h.5 (h.6 ++ h.7) one.1 in let three = halves h.6 h.7 two.1 in (new_init g h.0, new_option g h.1, new_option g h.2, new_id g h.3, map g h.4, map g h.5, map g h.6, map g h.7, all.0 _ h.8, ap (map g) h.9 ∙ ap (λ z. g i.0 ∷ z) (map-append g h.4 (h.5 ++ (h.6 ++ h.7)) ∙ ap (λ z. map g h.4 ++ z) (map-append g h.5 (h.6 ++ h.7) ∙ ap (λ z. map g h.5 ++ z) (map-append g h.6 h.7))), init_shown init h.0 h.4 one.0 h.10, optional_shown test h.1 h.5 two.0 h.11, optional_shown update h.2 h.6 three.0 h.12, stmt_shown s h.3 h.7 three.1 h.13)
    stmt_shown (ForIn t e s) i used m h = let all = subst (Moves ns ms g) h.7 m in let one = halves h.3 (h.4 ++ h.5) all.1 in let two = halves h.4 h.5 one.1 in (new_id g h.0, new_id g h.1, new_id g h.2, map g h.3, map g h.4, map g h.5, all.0 _ h.6, ap (map g) h.7 ∙ ap (λ z. g i.0 ∷ z) (map-append g h.3 (h.4 ++ h.5) ∙ ap (λ z. map g h.3 ++ z) (map-append g h.4 h.5)), shown t h.0 h.3 one.0 h.8, shown e h.1 h.4 two.0 h.9, stmt_shown s h.2 h.5 two.1 h.10)
    stmt_shown (ForVarIn x e s) i used m h = let all = subst (Moves ns ms g) h.5 m in let one = halves h.2 h.3 all.1 in (new_id g h.0, new_id g h.1, map g h.2, map g h.3, all.0 _ h.4, ap (map g) h.5 ∙ ap (λ z. g i.0 ∷ z) (map-append g h.2 h.3), shown e h.0 h.2 one.0 h.6, stmt_shown s h.1 h.3 one.1 h.7)
    stmt_shown (Continue label end) i used m h = let all = subst (Moves ns ms g) h.1 m in (all.0 _ h.0, ap (map g) h.1)
    stmt_shown (Break label end) i used m h = let all = subst (Moves ns ms g) h.1 m in (all.0 _ h.0, ap (map g) h.1)
    stmt_shown (Return e end) i used m h = let all = subst (Moves ns ms g) h.3 m in (new_option g h.0, map g h.1, all.0 _ h.2, ap (map g) h.3, optional_shown e h.0 h.1 all.1 h.4)
    stmt_shown (Throw e end) i used m h = let all = subst (Moves ns ms g) h.3 m in (new_id g h.0, map g h.1, all.0 _ h.2, ap (map g) h.3, shown e h.0 h.1 all.1 h.4)
    stmt_shown (Label x s) i used m h = let all = subst (Moves ns ms g) h.3 m in (new_id g h.0, map g h.1, all.0 _ h.2, ap (map g) h.3, stmt_shown s h.0 h.1 all.1 h.4)
    stmt_shown (Switch e clauses) i used m h = let all = subst (Moves ns ms g) h.5 m in let one = halves h.2 h.3 all.1 in (new_id g h.0, map (new_clause g) h.1, map g h.2, map g h.3, all.0 _ h.4, ap (map g) h.5 ∙ ap (λ z. g i.0 ∷ z) (map-append g h.2 h.3), shown e h.0 h.2 one.0 h.6, clauses_shown clauses h.1 h.3 one.1 h.7)
    stmt_shown (TryCatch b x c) i used m h = let all = subst (Moves ns ms g) h.7 m in let one = halves (h.0.0 ∷ h.4) (h.1.0 ∷ h.5) all.1 in (new_id g h.0, new_id g h.1, map (new_id g) h.2, map (new_id g) h.3, map g h.4, map g h.5, all.0 _ h.6, ap (map g) h.7 ∙ ap (λ z. g i.0 ∷ z) (map-append g (h.0.0 ∷ h.4) (h.1.0 ∷ h.5)), one.0.0 _ h.8, stmts_shown b h.2 h.4 one.0.1 h.9, one.1.0 _ h.10, stmts_shown c h.3 h.5 one.1.1 h.11)
    stmt_shown (TryFinally b f) i used m h = let all = subst (Moves ns ms g) h.7 m in let one = halves (h.0.0 ∷ h.4) (h.1.0 ∷ h.5) all.1 in (new_id g h.0, new_id g h.1, map (new_id g) h.2, map (new_id g) h.3, map g h.4, map g h.5, all.0 _ h.6, ap (map g) h.7 ∙ ap (λ z. g i.0 ∷ z) (map-append g (h.0.0 ∷ h.4) (h.1.0 ∷ h.5)), one.0.0 _ h.8, stmts_shown b h.2 h.4 one.0.1 h.9, one.1.0 _ h.10, stmts_shown f h.3 h.5 one.1.1 h.11)
    stmt_shown (TryBoth b x c f) i used m h = let all = subst (Moves ns ms g) h.10 m in let one = halves (h.0.0 ∷ h.6) ((h.1.0 ∷ h.7) ++ (h.2.0 ∷ h.8)) all.1 in let two = halves (h.1.0 ∷ h.7) (h.2.0 ∷ h.8) one.1 in (new_id g h.0, new_id g h.1, new_id g h.2, map (new_id g) h.3, map (new_id g) h.4, map (new_id g) h.5, map g h.6, map g h.7, map g h.8, all.0 _ h.9, ap (map g) h.10 ∙ ap (λ z. g i.0 ∷ z) (map-append g (h.0.0 ∷ h.6) ((h.1.0 ∷ h.7) ++ (h.2.0 ∷ h.8)) ∙ ap (λ z. map g (h.0.0 ∷ h.6) ++ z) (map-append g (h.1.0 ∷ h.7) (h.2.0 ∷ h.8))), one.0.0 _ h.11, stmts_shown b h.3 h.6 one.0.1 h.12, two.0.0 _ h.13, stmts_shown c h.4 h.7 two.0.1 h.14, two.1.0 _ h.15, stmts_shown f h.5 h.8 two.1.1 h.16)
    stmt_shown (Within e b) i used m h = let all = subst (Moves ns ms g) h.6 m in let one = halves h.3 (h.1.0 ∷ h.4) all.1 in (new_id g h.0, new_id g h.1, map (new_id g) h.2, map g h.3, map g h.4, all.0 _ h.5, ap (map g) h.6 ∙ ap (λ z. g i.0 ∷ z) (map-append g h.3 (h.1.0 ∷ h.4)), shown e h.0 h.3 one.0 h.7, one.1.0 _ h.8, stmts_shown b h.2 h.4 one.1.1 h.9)

    pub stmts_shown : (t : Stmts) (i : List NodeId) (used : List ℕ) → Moves ns ms g used → StmtsShow ns t i used → StmtsShow ms t (map (new_id g) i) (map g used)
    stmts_shown NoStmt i used m h = (ap (map (new_id g)) h.0, ap (map g) h.1)
    stmts_shown (MoreStmts s rest) i used m h = let all = subst (Moves ns ms g) h.5 m in let one = halves h.2 h.3 all in (new_id g h.0, map (new_id g) h.1, map g h.2, map g h.3, ap (map (new_id g)) h.4, ap (map g) h.5 ∙ map-append g h.2 h.3, stmt_shown s h.0 h.2 one.0 h.6, stmts_shown rest h.1 h.3 one.1 h.7)

    pub clauses_shown : (t : Clauses) (i : List Clause) (used : List ℕ) → Moves ns ms g used → ClausesShow ns t i used → ClausesShow ms t (map (new_clause g) i) (map g used)
    clauses_shown NoClause i used m h = (ap (map (new_clause g)) h.0, ap (map g) h.1)
    clauses_shown (Case e body rest) i used m h = let all = subst (Moves ns ms g) h.7 m in let one = halves h.3 (h.4 ++ h.5) all in let two = halves h.4 h.5 one.1 in (new_id g h.0, map (new_id g) h.1, map (new_clause g) h.2, map g h.3, map g h.4, map g h.5, ap (map (new_clause g)) h.6, ap (map g) h.7 ∙ map-append g h.3 (h.4 ++ h.5) ∙ ap (λ z. map g h.3 ++ z) (map-append g h.4 h.5), shown e h.0 h.3 one.0 h.8, stmts_shown body h.1 h.4 two.0 h.9, clauses_shown rest h.2 h.5 two.1 h.10)
    clauses_shown (Default body rest) i used m h = let all = subst (Moves ns ms g) h.5 m in let one = halves h.2 h.3 all in (map (new_id g) h.0, map (new_clause g) h.1, map g h.2, map g h.3, ap (map (new_clause g)) h.4, ap (map g) h.5 ∙ map-append g h.2 h.3, stmts_shown body h.0 h.2 one.0 h.6, clauses_shown rest h.1 h.3 one.1 h.7)

    pub elements_shown : (t : Elements) (i : List NodeId) (used : List ℕ) → Moves ns ms g used → ElementsShow ns t i used → ElementsShow ms t (map (new_id g) i) (map g used)
    elements_shown NoElement i used m h = (ap (map (new_id g)) h.0, ap (map g) h.1)
    elements_shown (Statement s rest) i used m h = let all = subst (Moves ns ms g) h.5 m in let one = halves h.2 h.3 all in (new_id g h.0, map (new_id g) h.1, map g h.2, map g h.3, ap (map (new_id g)) h.4, ap (map g) h.5 ∙ map-append g h.2 h.3, stmt_shown s h.0 h.2 one.0 h.6, elements_shown rest h.1 h.3 one.1 h.7)
    elements_shown (FunctionDecl x formals body rest) i used m h = let all = subst (Moves ns ms g) h.6 m in let one = halves h.3 h.4 all.1 in (new_id g h.0, map (new_id g) h.1, map (new_id g) h.2, map g h.3, map g h.4, ap (map (new_id g)) h.5, ap (map g) h.6 ∙ ap (λ z. g h.0.0 ∷ z) (map-append g h.3 h.4), all.0 _ h.7, elements_shown body h.1 h.3 one.0 h.8, elements_shown rest h.2 h.4 one.1 h.9)

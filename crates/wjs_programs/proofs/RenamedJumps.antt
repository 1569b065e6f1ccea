-- Jumps have where to go also with other numbers for the labels.
use Rattle.std.specs.Prelude.{◌≡◌, ◌<◌, ◌≤◌, Bool, true, false, List, ◌∷◌, Option, Some, None, Contains, length}
use Rattle.std.proofs.Common.{refl, ap, subst, sym, ◌∙◌}
use Rattle.std.proofs.lemmas.List.{length-map, get_or-map}
use Rattle.wjs_base.specs.declared.ids.TextId.{TextId}
use Rattle.wjs_tree.specs.Trees.{Stmt, Stmts, Clauses, Elements, Block, If, IfElse, DoWhile, While, For, ForIn, ForVarIn, Continue, Break, Return, Label, Switch, TryCatch, TryFinally, TryBoth, Within, NoStmt, MoreStmts, NoClause, Case, Default, NoElement, Statement, FunctionDecl}
use Rattle.wjs_tree.specs.Jumps.{Around, in_loop, in_switch, if_loop, in_label, is_loop, CanBreak, CanContinue, JumpsRight, AllJumpRight, ClausesJumpRight, ElementsJumpRight}
use Rattle.wjs_programs.proofs.Renaming.{name_renamed, names_renamed, stmt_renamed, stmts_renamed, clauses_renamed, elements_renamed}
use Rattle.wjs_programs.proofs.RenamedLevels.{same_loop, same_defaults}

module _ (r : TextId → TextId) where
  -- what stands around a statement, with other numbers for the labels
  abbrev pub around_renamed : Around → Around
  around_renamed a = record { function = a.function; loop = a.loop; switch = a.switch; labels = names_renamed r a.labels; loops = names_renamed r a.loops }

  contains : (xs : List TextId) (x : TextId) → Contains xs x → Contains (names_renamed r xs) (r x)
  contains xs x h = (h.0, subst (λ n. h.0 < n) (sym (length-map xs r)) h.1, get_or-map r xs h.0 x (r x) h.1 ∙ ap r h.2)

  if_loop_renamed : (is : Bool) (x : TextId) (xs : List TextId) → names_renamed r (if_loop is x xs) ≡ if_loop is (r x) (names_renamed r xs)
  if_loop_renamed true x xs = refl
  if_loop_renamed false x xs = refl

  in_label_renamed : (x : TextId) (s : Stmt) (a : Around) → around_renamed (in_label x s a) ≡ in_label (r x) (stmt_renamed r s) (around_renamed a)
  in_label_renamed x s a =
      let loops : names_renamed r (if_loop (is_loop s) x a.loops) ≡ if_loop (is_loop (stmt_renamed r s)) (r x) (names_renamed r a.loops) = if_loop_renamed (is_loop s) x a.loops ∙ ap (λ is. if_loop is (r x) (names_renamed r a.loops)) (sym (same_loop r s)) in
      λ i. record { function = a.function; loop = a.loop; switch = a.switch; labels = names_renamed r (x ∷ a.labels); loops = loops i }

  can_break : (a : Around) (label : Option TextId) → CanBreak a label → CanBreak (around_renamed a) (name_renamed r label)
  can_break a None h = h
  can_break a (Some x) h = contains a.labels x h

  can_continue : (a : Around) (label : Option TextId) → CanContinue a label → CanContinue (around_renamed a) (name_renamed r label)
  can_continue a None h = h
  can_continue a (Some x) h = contains a.loops x h

module _ (r : TextId → TextId) (injective : (x y : TextId) → r x ≡ r y → x ≡ y) where
  contained : (xs : List TextId) (x : TextId) → Contains (names_renamed r xs) (r x) → Contains xs x
  contained xs x h =
      let within : h.0 < length xs = subst (λ n. h.0 < n) (length-map xs r) h.1 in
      (h.0, within, injective _ _ (sym (get_or-map r xs h.0 x (r x) within) ∙ h.2))

  mutual
    jump : (a : Around) (t : Stmt) → JumpsRight a t → JumpsRight (around_renamed r a) (stmt_renamed r t)
    jump a (Block body) h = all_jump a body h
    jump a (If e s) h = jump a s h
    jump a (IfElse e s u) h = (jump a s h.0, jump a u h.1)
    jump a (DoWhile s e end) h = jump (in_loop a) s h
    jump a (While e s) h = jump (in_loop a) s h
    jump a (For first test update s) h = jump (in_loop a) s h
    jump a (ForIn t e s) h = jump (in_loop a) s h
    jump a (ForVarIn x e s) h = jump (in_loop a) s h
    jump a (Continue label end) h = can_continue r a label h
    jump a (Break label end) h = can_break r a label h
    jump a (Return e end) h = h
    jump a (Label x s) h = (λ in_it. h.0 (contained a.labels x in_it), subst (λ (b : Around). JumpsRight b (stmt_renamed r s)) (in_label_renamed r x s a) (jump (in_label x s a) s h.1))
    jump a (Switch e list) h = (subst (λ n. n ≤ 1) (sym (same_defaults r list)) h.0, clauses_jump (in_switch a) list h.1)
    jump a (TryCatch b x c) h = (all_jump a b h.0, all_jump a c h.1)
    jump a (TryFinally b f) h = (all_jump a b h.0, all_jump a f h.1)
    jump a (TryBoth b x c f) h = (all_jump a b h.0, all_jump a c h.1, all_jump a f h.2)
    jump a (Within e b) h = all_jump a b h
    jump a _ h = h

    all_jump : (a : Around) (t : Stmts) → AllJumpRight a t → AllJumpRight (around_renamed r a) (stmts_renamed r t)
    all_jump a NoStmt h = h
    all_jump a (MoreStmts s rest) h = (jump a s h.0, all_jump a rest h.1)

    clauses_jump : (a : Around) (t : Clauses) → ClausesJumpRight a t → ClausesJumpRight (around_renamed r a) (clauses_renamed r t)
    clauses_jump a NoClause h = h
    clauses_jump a (Case e body rest) h = (all_jump a body h.0, clauses_jump a rest h.1)
    clauses_jump a (Default body rest) h = (all_jump a body h.0, clauses_jump a rest h.1)

  pub elements_jump : (a : Around) (t : Elements) → ElementsJumpRight a t → ElementsJumpRight (around_renamed r a) (elements_renamed r t)
  elements_jump a NoElement h = h
  elements_jump a (Statement s rest) h = (jump a s h.0, elements_jump a rest h.1)
  elements_jump a (FunctionDecl x formals body rest) h = elements_jump a rest h

-- A run is read backward: statements, by the token that begins them, and what is behind them.
use Rattle.std.proofs.Common.{◌≡◌, ℕ, zero, suc, ◌+◌, ◌≤◌, ◌⊎◌, inl, inr, Bool, true, false, not, List, [], ◌∷◌, length, Option, Some, None, refl, sym, ap, ◌∙◌, subst, arith}
use Rattle.wjs_base.specs.declared.ids.TextId.{TextId}
use Rattle.wjs_forms.proofs.Tops.{Again}
use Rattle.wjs_forms.proofs.Heads.{place_sign, place_word}
use Rattle.wjs_tree.specs.declared.tokens.Tok.{Tok}
use Rattle.wjs_tree.specs.declared.tokens.Token.{Token}
use Rattle.wjs_tree.specs.declared.tokens.Token.TheVariants as tokens
use Rattle.wjs_tree.specs.declared.signs.Sign.{Sign}
use Rattle.wjs_tree.specs.declared.signs.Sign.TheVariants as signs
use Rattle.wjs_tree.specs.declared.keys.Key.{Key}
use Rattle.wjs_tree.specs.declared.keys.Key.TheVariants as keys
use Rattle.wjs_tree.specs.declared.node.End.{End}
use Rattle.wjs_tree.specs.declared.operators.PrefixOperator.TheVariants as prefixes
use Rattle.wjs_tree.specs.Trees.{Expr, Name, Number, Text, This, ThisWorld, Null, Boolean, Paren, ArrayLit, ObjectLit, Function, Dot, At, Call, NewWith, NewBare, Postfix, Prefix, Binary, Cond, Assign, Comma, Stmt, Continue, Break, NoElement}
use Rattle.wjs_tree.specs.Levels.{starts_with_brace, ends_in_update}
use Rattle.wjs_tree.specs.Formed.{is_open_if, StmtShaped}
use Rattle.wjs_tree.specs.Ends.{token_at, HasToken, HasSign, HasKey, IsJoined, Complete, Ends}
use Rattle.wjs_tree.specs.Spelling.{LabelStands, FormalsStand, Stands, StmtStands, ElementsStand}
use Rattle.wjs_forms.specs.declared.class.Class.{Class}
use Rattle.wjs_forms.specs.declared.class.Class.TheVariants as classes
use Rattle.wjs_forms.specs.declared.forms.Place.{Place}
use Rattle.wjs_forms.specs.declared.forms.Place.TheVariants as places
use Rattle.wjs_forms.specs.declared.forms.Form.{Form}
use Rattle.wjs_forms.specs.declared.forms.Form.TheVariants as forms
use Rattle.wjs_forms.specs.declared.forms.Control.{Control}
use Rattle.wjs_forms.specs.declared.forms.Control.TheVariants as controls
use Rattle.wjs_forms.specs.declared.forms.Move.{Move}
use Rattle.wjs_forms.specs.declared.forms.Move.TheVariants as moves
use Rattle.wjs_forms.specs.Classes.{class_of, class_at}
use Rattle.wjs_forms.specs.Moves.{value, statement, closes, declares, in_clauses, listed, done, complete}
use Rattle.wjs_forms.specs.States.{State, state, top, act, below, step}
use Rattle.wjs_forms.proofs.Runs.{class_here, joined_here}
use Rattle.wjs_forms.proofs.Standing.{Has, Is}
use Rattle.wjs_forms.proofs.Beginnings.{is_brace, prefix_brace}
use Rattle.wjs_forms.proofs.Rests.{Rests, Nested, Whole, First, BodyRest, CompleteRest, BlockRest, ElementsRest, ClausesRest, ClauseRest, CaughtRest, TriedRest, ThenRest, InitRest, ProgramRest, ListRest, HaveRest, NameOrFormalsRest, DeclaredNameRest, rests, RestOf, Rest, value_rest as ValueRest}
use Rattle.wjs_forms.proofs.SpelledEnds.{written, at_end, at_brace, at_line}
use Rattle.wjs_forms.proofs.SpelledStmt.{key_at, block, empty, expr_stmt, variables, label, if_stmt, while_stmt, do_stmt, switch_stmt, within_stmt, jump_stmt, return_none, return_value, throw_value, for_stmt, try_stmt, cons_block, cons_clause, cons_elements, nil_block, nil_elements, nil_clauses, case_clauses, default_clauses, in_clause, cons_declared, cons_program, declared_program}
use Rattle.wjs_forms.proofs.SpelledExpr.{back, got, value_rest}

first_is : (toks : List Tok) (i : ℕ) (token : Token) (b : Bool) → HasToken toks i token → is_brace (class_of token) ≡ b → is_brace (class_here toks i) ≡ b
first_is toks i token b h e = subst (λ (z : Option Token). is_brace (class_at z) ≡ b) (sym h) e

-- the first token says whether an expression starts with a brace
same_brace : (toks : List Tok) (e : Expr) (i n : ℕ) → Stands toks e i n → is_brace (class_here toks i) ≡ starts_with_brace e
same_brace toks (Name x) i n h = first_is toks i _ false h.0 refl
same_brace toks (Number x) i n h = first_is toks i _ false h.0 refl
same_brace toks (Text x) i n h = first_is toks i _ false h.0 refl
same_brace toks This i n h = first_is toks i _ false h.0 refl
same_brace toks ThisWorld i n h = first_is toks i _ false h.0 refl
same_brace toks Null i n h = first_is toks i _ false h.0 refl
same_brace toks (Boolean true) i n h = first_is toks i _ false h.0 refl
same_brace toks (Boolean false) i n h = first_is toks i _ false h.0 refl
same_brace toks (Paren e) i n h = first_is toks i _ false h.1 refl
same_brace toks (ArrayLit e) i n h = first_is toks i _ false h.1 refl
same_brace toks (ObjectLit e) i n h = first_is toks i _ true h.1 refl
same_brace toks (Function x y z) i n h = first_is toks i _ true h.3 refl
same_brace toks (Dot e x) i n h = same_brace toks e i h.0 h.1
same_brace toks (At e j) i n h = same_brace toks e i h.0 h.2
same_brace toks (Call e xs) i n h = same_brace toks e i h.0 h.2
same_brace toks (NewWith e xs) i n h = first_is toks i _ false h.2 refl
same_brace toks (NewBare e) i n h = first_is toks i _ false h.0 refl
same_brace toks (Postfix e op) i n h = same_brace toks e i h.0 h.1
same_brace toks (Prefix op e) i n h = first_is toks i _ false h.0 (prefix_brace op)
same_brace toks (Binary l op r) i n h = same_brace toks l i h.0 h.1
same_brace toks (Cond c l r) i n h = same_brace toks c i h.0 h.2
same_brace toks (Assign l op r) i n h = same_brace toks l i h.0 h.1
same_brace toks (Comma l r) i n h = same_brace toks l i h.0 h.1

module _ (toks : List Tok) where
  -- an expression that is a statement
  pub whole_stmt : (i : ℕ) (s : List Form) → is_brace (class_here toks i) ≡ false → Whole toks (rests toks (forms.Value ∷ s)).core i → BodyRest toks (rests toks s).done i
  whole_stmt i s b x = expr_stmt toks (rests toks s).done x.tree i x.end (sym (same_brace toks x.tree i x.end x.reading.stands) ∙ b) x.reading.formed x.reading.stands x.then

  value_stmt : (k : Class) (i : ℕ) (s : List Form) (g : Again) (r : State) → is_brace k ≡ false → class_here toks i ≡ k → Has toks i k → act (value forms.Value k) s g ≡ Some r → Rest toks r (i + 1) → BodyRest toks (rests toks s).done i
  value_stmt k i s g r b q w h n = whole_stmt i s (ap is_brace q ∙ b) (value_rest toks k i s g r w h n)

  continue_stmt : (i m : ℕ) (x : Option TextId) → HasKey toks i keys.Continue → LabelStands toks x (i + 1) m → (end : End) (n : ℕ) → Ends toks Complete end m n → (t : Stmt) × (is_open_if t ≡ false) × StmtShaped t × StmtStands toks t i n
  continue_stmt i m x k l end n e = (Continue x end, refl, tt, (m, k, l, e))

  break_stmt : (i m : ℕ) (x : Option TextId) → HasKey toks i keys.Break → LabelStands toks x (i + 1) m → (end : End) (n : ℕ) → Ends toks Complete end m n → (t : Stmt) × (is_open_if t ≡ false) × StmtShaped t × StmtStands toks t i n
  break_stmt i m x k l end n e = (Break x end, refl, tt, (m, k, l, e))

  from_two : (i : ℕ) (e : Expr) (m : ℕ) → Stands toks e (i + 1 + 1) m → Stands toks e (i + 2) m
  from_two i e m h = subst (λ (z : ℕ). Stands toks e z m) (let q : i + 1 + 1 ≡ i + 2 = omega arith in q) h

  two : (P : ℕ → Type 0) (i : ℕ) → P (i + 1 + 1) → P (i + 2)
  two P i h = subst P (let q : i + 1 + 1 ≡ i + 2 = omega arith in q) h

  pub statement_rest : (k : Class) (i : ℕ) (s : List Form) (g : Again) (r : State) → class_here toks i ≡ k → Has toks i k → act (statement k) s g ≡ Some r → Rest toks r (i + 1) → BodyRest toks (rests toks s).done i
  statement_rest classes.OpenBrace i s g r q w h n =
      block toks (rests toks s).done i (got toks i classes.OpenBrace (tokens.Sign signs.OpenBrace) w) ((back toks controls.List (forms.Block ∷ s) r (i + 1) h n) refl)
  statement_rest classes.Semicolon i s g r q w h n =
      empty toks (rests toks s).done i (got toks i classes.Semicolon (tokens.Sign signs.Semicolon) w) (back toks controls.Done s r (i + 1) h n)
  statement_rest classes.Word i s g r q w h n =
      (back toks controls.NameOrLabel (forms.Value ∷ s) r (i + 1) h n) w.3.0 i refl (w.1 ∙ ap Some w.3.1)
  statement_rest classes.Var i s g r q w h n =
      let x = back toks controls.Name (forms.Var ∷ s) r (i + 1) h n in
      variables toks (rests toks s).done i (got toks i classes.Var (tokens.Key keys.Var) w) x.0 x.1 (two (λ z. RestOf toks controls.Named (forms.Var ∷ s) z) i x.2)
  statement_rest classes.If i s g r q w h n =
      let x = back toks controls.Open (forms.If ∷ s) r (i + 1) h n in
      let y = x.1 in
      if_stmt toks (rests toks s).done y.tree i y.end (got toks i classes.If (tokens.Key keys.If) w) x.0 y.reading.formed (from_two i y.tree y.end y.reading.stands) y.then.0 y.then.1
  statement_rest classes.Do i s g r q w h n =
      do_stmt toks (rests toks s).done i (got toks i classes.Do (tokens.Key keys.Do) w) (back toks controls.Body (forms.Do ∷ s) r (i + 1) h n)
  statement_rest classes.While i s g r q w h n =
      let x = back toks controls.Open (forms.Header ∷ s) r (i + 1) h n in
      let y = x.1 in
      while_stmt toks (rests toks s).done y.tree i y.end (got toks i classes.While (tokens.Key keys.While) w) x.0 y.reading.formed (from_two i y.tree y.end y.reading.stands) y.then.0 y.then.1
  statement_rest classes.For i s g r q w h n =
      let x = back toks controls.ForOpen s r (i + 1) h n in
      for_stmt toks (rests toks s).done i (got toks i classes.For (tokens.Key keys.For) w) x.0 (two (InitRest toks (rests toks s).done) i x.1)
  statement_rest classes.Continue i s g r q w h n =
      let x = back toks controls.LabelOrEnd s r (i + 1) h n in
      jump_stmt toks (rests toks s).done i x.1 x.0 x.3 (continue_stmt i x.1 x.0 (got toks i classes.Continue (tokens.Key keys.Continue) w) x.2)
  statement_rest classes.Break i s g r q w h n =
      let x = back toks controls.LabelOrEnd s r (i + 1) h n in
      jump_stmt toks (rests toks s).done i x.1 x.0 x.3 (break_stmt i x.1 x.0 (got toks i classes.Break (tokens.Key keys.Break) w) x.2)
  statement_rest classes.Return i s g r q w h n = pick (back toks controls.ValueOrEnd s r (i + 1) h n)
    where
      pick : CompleteRest toks (rests toks s).done (i + 1) ⊎ (IsJoined toks (i + 1) × ValueRest toks s (i + 1)) → BodyRest toks (rests toks s).done i
      pick (inl c) = return_none toks (rests toks s).done i (got toks i classes.Return (tokens.Key keys.Return) w) c
      pick (inr v) = let y = v.1 in return_value toks (rests toks s).done y.tree i y.end (got toks i classes.Return (tokens.Key keys.Return) w) v.0 y.reading.formed y.reading.stands y.then
  statement_rest classes.Throw i s g r q w h n =
      let v = back toks controls.JoinedValue s r (i + 1) h n in
      let y = v.1 in
      throw_value toks (rests toks s).done y.tree i y.end (got toks i classes.Throw (tokens.Key keys.Throw) w) v.0 y.reading.formed y.reading.stands y.then
  statement_rest classes.Switch i s g r q w h n =
      let x = back toks controls.Open (forms.Switch ∷ s) r (i + 1) h n in
      let y = x.1 in
      switch_stmt toks (rests toks s).done y.tree i y.end (got toks i classes.Switch (tokens.Key keys.Switch) w) x.0 y.reading.formed (from_two i y.tree y.end y.reading.stands) y.then.0 y.then.1 y.then.2
  statement_rest classes.Try i s g r q w h n =
      let x = back toks controls.Brace (forms.TryBlock ∷ s) r (i + 1) h n in
      try_stmt toks (rests toks s).done i (got toks i classes.Try (tokens.Key keys.Try) w) x.0 (two (BlockRest toks (TriedRest toks (rests toks s).done)) i (x.1 refl))
  statement_rest classes.In i s g r q w h n =
      let y = back toks (controls.Want places.Whole) (forms.Within ∷ s) r (i + 1) h n in
      within_stmt toks (rests toks s).done y.tree i y.end (got toks i classes.In (tokens.Key keys.In) w) y.reading.formed y.reading.stands y.then.0 y.then.1
  statement_rest classes.Function i s g r q w h n = cc
  statement_rest k i s g r q w h n = value_stmt k i s g r refl q w h n

  -- a statement before others, in a list
  cons_list : (i : ℕ) (s : List Form) → (rests toks s).listed ≡ true → BodyRest toks (rests toks s).done i → (rests toks s).done i
  cons_list i [] l b = cons_program toks i b
  cons_list i (forms.Block ∷ s) l b = cons_block toks (rests toks s).done i b
  cons_list i (forms.TryBlock ∷ s) l b = cons_block toks (TriedRest toks (rests toks s).done) i b
  cons_list i (forms.CatchBlock ∷ s) l b = cons_block toks (CaughtRest toks (rests toks s).done) i b
  cons_list i (forms.Clauses ∷ s) l b = cons_clause toks (rests toks s).done i b
  cons_list i (forms.Declaration ∷ s) l b = cons_elements toks (ListRest toks (rests toks s)) i b
  cons_list i (forms.Function p ∷ s) l b = cons_elements toks (HaveRest toks (rests toks s) p false) i b
  cons_list i (_ ∷ s) l b = absurd (let w : false ≡ true = l in cc)

  -- `}` in a list
  closes_list : (i : ℕ) (s : List Form) (g : Again) (r : State) → (rests toks s).listed ≡ true → HasSign toks i signs.CloseBrace → act (closes (top s)) s g ≡ Some r → Rest toks r (i + 1) → (rests toks s).done i
  closes_list i [] g r l c h n = cc
  closes_list i (forms.Block ∷ s) g r l c h n = nil_block toks (rests toks s).done i c (back toks controls.Done s r (i + 1) h n)
  closes_list i (forms.Clauses ∷ s) g r l c h n = in_clause toks (rests toks s).done i (nil_clauses toks (rests toks s).done i c (back toks controls.Done s r (i + 1) h n))
  closes_list i (forms.TryBlock ∷ s) g r l c h n = nil_block toks (TriedRest toks (rests toks s).done) i c (back toks controls.CatchOrFinally s r (i + 1) h n)
  closes_list i (forms.CatchBlock ∷ s) g r l c h n = nil_block toks (CaughtRest toks (rests toks s).done) i c (back toks controls.FinallyOrDone s r (i + 1) h n)
  closes_list i (forms.Declaration ∷ s) g r l c h n = nil_elements toks (ListRest toks (rests toks s)) i c (back toks controls.List s r (i + 1) h n)
  closes_list i (forms.Function p ∷ s) g r l c h n = nil_elements toks (HaveRest toks (rests toks s) p false) i c (back toks (controls.Have p false) s r (i + 1) h n)
  closes_list i (_ ∷ s) g r l c h n = cc

  end_list : (i : ℕ) (s : List Form) (g : Again) (r : State) → (rests toks s).listed ≡ true → act (listed classes.End (top s)) s g ≡ Some r → Rest toks r (i + 1) → (rests toks s).done i
  end_list i [] g r l h n = (NoElement, tt, (let q : i + 1 ≡ length toks + 1 = back toks controls.Accepted [] r (i + 1) h n in let w : length toks ≡ i = omega arith in w))
  end_list i (f ∷ s) g r l h n = cc

  case_list : (i : ℕ) (s : List Form) (g : Again) (r : State) → HasKey toks i keys.Case → act (in_clauses (top s) (moves.Push forms.CaseHead (controls.Want places.Whole))) s g ≡ Some r → Rest toks r (i + 1) → (rests toks s).done i
  case_list i [] g r k h n = cc
  case_list i (forms.Clauses ∷ s) g r k h n =
      let y = back toks (controls.Want places.Whole) (forms.CaseHead ∷ forms.Clauses ∷ s) r (i + 1) h n in
      in_clause toks (rests toks s).done i (case_clauses toks (rests toks s).done y.tree i y.end k y.reading.formed y.reading.stands y.then.0 (y.then.1 refl))
  case_list i (_ ∷ s) g r k h n = cc

  default_list : (i : ℕ) (s : List Form) (g : Again) (r : State) → HasKey toks i keys.Default → act (in_clauses (top s) (moves.Stay controls.DefaultColon)) s g ≡ Some r → Rest toks r (i + 1) → (rests toks s).done i
  default_list i [] g r k h n = cc
  default_list i (forms.Clauses ∷ s) g r k h n =
      let y = back toks controls.DefaultColon (forms.Clauses ∷ s) r (i + 1) h n in
      in_clause toks (rests toks s).done i (default_clauses toks (rests toks s).done i k y.0 (two (ClauseRest toks (rests toks s).done) i (y.1 refl)))
  default_list i (_ ∷ s) g r k h n = cc

  -- the head and the body of a declared function
  declared_elements : (i : ℕ) (s : List Form) (done : ℕ → Type 0) → HasKey toks i keys.Function → ((m : ℕ) → ListRest toks (rests toks s) m → ElementsRest toks done m) → DeclaredNameRest toks (forms.Declaration ∷ s) (i + 1) → ElementsRest toks done i
  declared_elements i s done k f x =
      let y = x.2 in
      let z = y.1 in
      let b = z.4 in
      let e = b.1 refl in
      cons_declared toks done x.0 z.0 i z.1 k x.1 (place_sign toks (i + 1 + 1) (i + 2) signs.OpenParen (omega arith) y.0) (subst (λ (v : ℕ). FormalsStand toks z.0 v z.1) (let q : i + 1 + 1 + 1 ≡ i + 3 = omega arith in q) z.2) z.3 b.0
      (e.0, e.1, e.2, subst (λ (v : ℕ). ElementsStand toks e.0 v e.1) (let q : z.1 + 1 + 1 ≡ z.1 + 2 = omega arith in q) e.3, e.4, f (e.1 + 1) e.5)

  declared_at_top : (i : ℕ) → HasKey toks i keys.Function → DeclaredNameRest toks (forms.Declaration ∷ []) (i + 1) → ProgramRest toks i
  declared_at_top i k x =
      let y = x.2 in
      let z = y.1 in
      let b = z.4 in
      let e = b.1 refl in
      declared_program toks x.0 z.0 i z.1 k x.1 (place_sign toks (i + 1 + 1) (i + 2) signs.OpenParen (omega arith) y.0) (subst (λ (v : ℕ). FormalsStand toks z.0 v z.1) (let q : i + 1 + 1 + 1 ≡ i + 3 = omega arith in q) z.2) z.3 b.0
      (e.0, e.1, e.2, subst (λ (v : ℕ). ElementsStand toks e.0 v e.1) (let q : z.1 + 1 + 1 ≡ z.1 + 2 = omega arith in q) e.3, e.4, e.5 refl)

  declares_list : (i : ℕ) (s : List Form) (g : Again) (r : State) → HasKey toks i keys.Function → act (declares (top s)) s g ≡ Some r → Rest toks r (i + 1) → (rests toks s).done i
  declares_list i [] g r k h n = declared_at_top i k (back toks controls.DeclaredName (forms.Declaration ∷ []) r (i + 1) h n)
  declares_list i (forms.Declaration ∷ s) g r k h n =
      declared_elements i (forms.Declaration ∷ s) (ListRest toks (rests toks s)) k (λ m f. f refl) (back toks controls.DeclaredName (forms.Declaration ∷ forms.Declaration ∷ s) r (i + 1) h n)
  declares_list i (forms.Function p ∷ s) g r k h n =
      declared_elements i (forms.Function p ∷ s) (HaveRest toks (rests toks s) p false) k (λ m f. f refl) (back toks controls.DeclaredName (forms.Declaration ∷ forms.Function p ∷ s) r (i + 1) h n)
  declares_list i (_ ∷ s) g r k h n = cc

  pub listed_rest : (k : Class) (i : ℕ) (s : List Form) (g : Again) (r : State) → (rests toks s).listed ≡ true → class_here toks i ≡ k → Has toks i k → act (listed k (top s)) s g ≡ Some r → Rest toks r (i + 1) → (rests toks s).done i
  listed_rest classes.End i s g r l q w h n = end_list i s g r l h n
  listed_rest classes.CloseBrace i s g r l q w h n = closes_list i s g r l (got toks i classes.CloseBrace (tokens.Sign signs.CloseBrace) w) h n
  listed_rest classes.Case i s g r l q w h n = case_list i s g r (got toks i classes.Case (tokens.Key keys.Case) w) h n
  listed_rest classes.Default i s g r l q w h n = default_list i s g r (got toks i classes.Default (tokens.Key keys.Default) w) h n
  listed_rest classes.Function i s g r l q w h n = declares_list i s g r (got toks i classes.Function (tokens.Key keys.Function) w) h n
  listed_rest k i s g r l q w h n = cons_list i s l (statement_rest k i s g r q w h n)

  then_rest : (k : Class) (i : ℕ) (j : Bool) (s : List Form) (r : State) → class_here toks i ≡ k → Has toks i k → (step k j s controls.Done ≡ Some r → (rests toks s).done i) → step k j (forms.Then ∷ s) controls.Done ≡ Some r → Rest toks r (i + 1) → ThenRest toks (rests toks s).done i
  then_rest classes.Else i j s r q w f h n = inl (got toks i classes.Else (tokens.Key keys.Else) w, back toks controls.Body s r (i + 1) h n)
  then_rest _ i j s r q w f h n = inr ((λ e. let v = sym q ∙ e in absurd (cc)), f h)

  do_rest : (k : Class) (i : ℕ) (j : Bool) (s : List Form) (r : State) → Has toks i k → step k j (forms.Do ∷ s) controls.Done ≡ Some r → Rest toks r (i + 1) → (rests toks (forms.Do ∷ s)).done i
  do_rest classes.While i j s r w h n =
      let x = back toks controls.Open (forms.DoWhile ∷ s) r (i + 1) h n in
      let y = x.1 in
      (got toks i classes.While (tokens.Key keys.While) w, x.0, (y.tree, y.end, y.reading.formed, from_two i y.tree y.end y.reading.stands, y.then.0, y.then.1))
  do_rest _ i j s r w h n = cc

  pub done_rest : (s : List Form) (k : Class) (i : ℕ) (j : Bool) (r : State) → class_here toks i ≡ k → Has toks i k → step k j s controls.Done ≡ Some r → Rest toks r (i + 1) → (rests toks s).done i
  done_rest [] k i j r q w h n = listed_rest k i [] (λ d. below k j [] d) r refl q w h n
  done_rest (forms.Then ∷ s) k i j r q w h n = then_rest k i j s r q w (λ z. done_rest s k i j r q w z n) h n
  done_rest (forms.Do ∷ s) k i j r q w h n = do_rest k i j s r w h n
  done_rest (forms.Block ∷ s) k i j r q w h n = listed_rest k i (forms.Block ∷ s) (λ d. below k j (forms.Block ∷ s) d) r refl q w h n
  done_rest (forms.TryBlock ∷ s) k i j r q w h n = listed_rest k i (forms.TryBlock ∷ s) (λ d. below k j (forms.TryBlock ∷ s) d) r refl q w h n
  done_rest (forms.CatchBlock ∷ s) k i j r q w h n = listed_rest k i (forms.CatchBlock ∷ s) (λ d. below k j (forms.CatchBlock ∷ s) d) r refl q w h n
  done_rest (forms.Clauses ∷ s) k i j r q w h n = listed_rest k i (forms.Clauses ∷ s) (λ d. below k j (forms.Clauses ∷ s) d) r refl q w h n
  done_rest (forms.Declaration ∷ s) k i j r q w h n = listed_rest k i (forms.Declaration ∷ s) (λ d. below k j (forms.Declaration ∷ s) d) r refl q w h n
  done_rest (forms.Function p ∷ s) k i j r q w h n = listed_rest k i (forms.Function p ∷ s) (λ d. below k j (forms.Function p ∷ s) d) r refl q w h n
  done_rest (_ ∷ s) k i j r q w h n = tt

  not_semicolon : (t : Token) (k : Class) → class_of t ≡ k → (k ≡ classes.Semicolon → ⊥) → class_of t ≡ classes.Semicolon → ⊥
  not_semicolon t k e f q = f (sym e ∙ q)

  line_rest : (k : Class) (i : ℕ) (s : List Form) (r : State) → (k ≡ classes.Semicolon → ⊥) → joined_here toks i ≡ false → (t : Token) → HasToken toks i t → class_of t ≡ k → (rests toks s).done i → CompleteRest toks (rests toks s).done i
  line_rest k i s r f j t h e d = at_line toks (rests toks s).done i t h j (not_semicolon t k e f) d

  pub complete_rest : (k : Class) (i : ℕ) (j : Bool) (s : List Form) (r : State) → joined_here toks i ≡ j → class_here toks i ≡ k → Has toks i k → step k j s controls.Complete ≡ Some r → Rest toks r (i + 1) → CompleteRest toks (rests toks s).done i
  complete_rest classes.Semicolon i j s r u q w h n = written toks (rests toks s).done i (got toks i classes.Semicolon (tokens.Sign signs.Semicolon) w) (back toks controls.Done s r (i + 1) h n)
  complete_rest classes.CloseBrace i j s r u q w h n = at_brace toks (rests toks s).done i (got toks i classes.CloseBrace (tokens.Sign signs.CloseBrace) w) (done_rest s classes.CloseBrace i j r q w h n)
  complete_rest classes.End i j s r u q w h n = at_end toks (rests toks s).done i w (done_rest s classes.End i j r q w h n)
  complete_rest _ i true s r u q w h n = cc
  complete_rest k i false s r u q w h n = line_rest k i s r (λ e. cc) u w.0 w.1 w.2 (done_rest s k i false r q w h n)

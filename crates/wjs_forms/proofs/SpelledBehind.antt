-- A run is read backward: what is behind an operand.
use Rattle.std.proofs.Common.{◌≡◌, ℕ, zero, suc, ◌+◌, ◌≤◌, ◌⊎◌, inl, inr, Bool, true, false, not, List, [], ◌∷◌, length, Option, Some, None, refl, sym, ap, ◌∙◌, subst, arith}
use Rattle.wjs_tree.specs.declared.tokens.Tok.{Tok}
use Rattle.wjs_tree.specs.declared.tokens.Token.{Token}
use Rattle.wjs_tree.specs.declared.tokens.Token.TheVariants as tokens
use Rattle.wjs_tree.specs.declared.signs.Sign.TheVariants as signs
use Rattle.wjs_tree.specs.declared.keys.Key.TheVariants as keys
use Rattle.wjs_tree.specs.declared.operators.UpdateOperator.{UpdateOperator}
use Rattle.wjs_tree.specs.declared.operators.AssignOperator.TheVariants as assigns
use Rattle.wjs_tree.specs.declared.operators.AssignOperator.{AssignOperator}
use Rattle.wjs_tree.specs.declared.operators.BinaryOperator.TheVariants as binaries
use Rattle.wjs_tree.specs.Operators.{IsAllowed, assign_token, update_token}
use Rattle.wjs_tree.specs.Trees.{Expr, Dot, At, Call, NewWith, Postfix, Argument, NoArgument, Variable, NoVariable}
use Rattle.wjs_tree.specs.Levels.{level, is_target, ends_in_update}
use Rattle.wjs_tree.specs.Formed.{Shaped}
use Rattle.wjs_tree.specs.Ends.{HasToken, HasSign, HasKey, IsJoined, Ending, Complete, InName, InExpr, Ends}
use Rattle.wjs_tree.specs.Spelling.{Stands}
use Rattle.wjs_forms.specs.declared.class.Class.{Class}
use Rattle.wjs_forms.specs.declared.class.Class.TheVariants as classes
use Rattle.wjs_forms.specs.declared.forms.Place.{Place}
use Rattle.wjs_forms.specs.declared.forms.Place.TheVariants as places
use Rattle.wjs_forms.specs.declared.forms.Form.{Form}
use Rattle.wjs_forms.specs.declared.forms.Form.TheVariants as forms
use Rattle.wjs_forms.specs.declared.forms.Control.{Control}
use Rattle.wjs_forms.specs.declared.forms.Control.TheVariants as controls
use Rattle.wjs_forms.specs.declared.forms.Move.{Move}
use Rattle.wjs_forms.specs.declared.forms.Move.TheVariants as moves
use Rattle.wjs_forms.specs.Classes.{class_of}
use Rattle.wjs_forms.specs.Table.{unless, on_colon, on_semicolon, on_close_paren, on_close_bracket, on_open_brace, on_close_brace, ends, behind, behind_top, bars_in, after_update, comma, have, bare, bare_top, target, target_in, target_closed, postfix, call, assigns as assign_move}
use Rattle.wjs_forms.specs.States.{State, state, top, act, below, step}
use Rattle.wjs_forms.proofs.Runs.{class_here, joined_here}
use Rattle.wjs_forms.proofs.Tops.{is_new, behind_is, bare_is, Again, unless_false, unless_is}
use Rattle.wjs_forms.proofs.Endings.{is_suffix_class, is_operator_class, continues_name_class, Ended}
use Rattle.wjs_forms.proofs.Declared.{part_ending, final}
use Rattle.wjs_forms.proofs.Follows.{target_high}
use Rattle.wjs_forms.proofs.Standing.{Has, Is}
use Rattle.wjs_forms.proofs.Rests.{Rests, Nested, least, have_level, Reading, NoSuffix, Sealed, Whole, AssignFed, First, UnaryFed, Later, Updated, WantOver, WantNew, WantRest, HaveRest, CompleteRest, ValueEnd, MoreArgumentsRest, ArgumentsRest, MoreRest, VarEnd, HeaderEnd, ListRest, rests, RestOf, Rest}
use Rattle.wjs_forms.proofs.Grown.{weaken, first_whole, want_unary, not_update, operator_over, choice_over, assign_over, assigned, closed_over, comma_over, bare_new}
use Rattle.wjs_forms.proofs.SpelledEnds.{ends_as}
use Rattle.wjs_forms.proofs.SpelledExpr.{back, got, want_in, want_out, have_low, more_name}
use Rattle.wjs_forms.proofs.SpelledLists.{complete_rest}

on_colon_is : (k : Class) (m : Move) (s : List Form) (g : Again) (r : State) → act (on_colon k m) s g ≡ Some r → (k ≡ classes.Colon) × (act m s g ≡ Some r)
on_colon_is classes.Colon m s g r h = (refl, h)
on_colon_is _ m s g r h = cc

on_semicolon_is : (k : Class) (m : Move) (s : List Form) (g : Again) (r : State) → act (on_semicolon k m) s g ≡ Some r → (k ≡ classes.Semicolon) × (act m s g ≡ Some r)
on_semicolon_is classes.Semicolon m s g r h = (refl, h)
on_semicolon_is _ m s g r h = cc

on_close_paren_is : (k : Class) (m : Move) (s : List Form) (g : Again) (r : State) → act (on_close_paren k m) s g ≡ Some r → (k ≡ classes.CloseParen) × (act m s g ≡ Some r)
on_close_paren_is classes.CloseParen m s g r h = (refl, h)
on_close_paren_is _ m s g r h = cc

on_close_bracket_is : (k : Class) (m : Move) (s : List Form) (g : Again) (r : State) → act (on_close_bracket k m) s g ≡ Some r → (k ≡ classes.CloseBracket) × (act m s g ≡ Some r)
on_close_bracket_is classes.CloseBracket m s g r h = (refl, h)
on_close_bracket_is _ m s g r h = cc

on_open_brace_is : (k : Class) (m : Move) (s : List Form) (g : Again) (r : State) → act (on_open_brace k m) s g ≡ Some r → (k ≡ classes.OpenBrace) × (act m s g ≡ Some r)
on_open_brace_is classes.OpenBrace m s g r h = (refl, h)
on_open_brace_is _ m s g r h = cc

on_close_brace_is : (k : Class) (m : Move) (s : List Form) (g : Again) (r : State) → act (on_close_brace k m) s g ≡ Some r → (k ≡ classes.CloseBrace) × (act m s g ≡ Some r)
on_close_brace_is classes.CloseBrace m s g r h = (refl, h)
on_close_brace_is _ m s g r h = cc

allowed_instanceof : (b : Bool) → IsAllowed b binaries.Instanceof
allowed_instanceof true = tt
allowed_instanceof false = tt

allowed_in : (b : Bool) → b ≡ false → IsAllowed b binaries.In
allowed_in true h = absurd (let w : true ≡ false = h in cc)
allowed_in false h = tt

-- another class than that of a suffix
suffix_other : (toks : List Tok) (i : ℕ) (k : Class) → class_here toks i ≡ k → is_suffix_class k ≡ false → is_suffix_class (class_here toks i) ≡ true → ⊥
suffix_other toks i k q f h = let w : false ≡ true = sym f ∙ ap is_suffix_class (sym q) ∙ h in cc

module _ (toks : List Tok) where
  bars_is : (s : List Form) → is_new s ≡ false → (rests toks s).core.bars ≡ bars_in (top s)
  bars_is [] h = refl
  bars_is (forms.New ∷ s) h = cc
  bars_is (forms.ForInit ∷ s) h = refl
  bars_is (forms.ForVar ∷ s) h = refl
  bars_is (f ∷ s) h = refl

  -- arguments behind a comma
  more_arguments : (done : ℕ → Type 0) (i : ℕ) → HasSign toks i signs.Comma → (e : Expr) (m : ℕ) → Reading toks false 1 (i + 1) e m → MoreArgumentsRest toks done m → MoreArgumentsRest toks done i
  more_arguments done i c e m q a = (Argument e a.0, a.1, (q.binds, q.formed, a.2), (m, c, q.stands, a.3), a.4, a.5)

  comma_rest : (i : ℕ) (s : List Form) (g : Again) (r : State) → is_new s ≡ false → HasSign toks i signs.Comma → act (comma (top s)) s g ≡ Some r → Rest toks r (i + 1) → UnaryFed toks (rests toks s).core i
  comma_rest i [] g r z c h n = comma_over toks (rests toks []).core i refl c (back toks (controls.Want places.First) [] r (i + 1) h n)
  comma_rest i (forms.New ∷ s) g r z c h n = cc
  comma_rest i (forms.Cond ∷ s) g r z c h n = cc
  comma_rest i (forms.Array p ∷ s) g r z c h n =
      let x = back toks controls.Item (forms.Array p ∷ s) r (i + 1) h n in
      closed_over toks (rests toks (forms.Array p ∷ s)).core i (λ e ns sl. inr (c, x))
  comma_rest i (forms.Object p ∷ s) g r z c h n =
      let x = back toks controls.KeyOrEnd (forms.Object p ∷ s) r (i + 1) h n in
      closed_over toks (rests toks (forms.Object p ∷ s)).core i (λ e ns sl. inr (c, x))
  comma_rest i (forms.Var ∷ s) g r z c h n =
      let x = back toks controls.Name (forms.Var ∷ s) r (i + 1) h n in
      closed_over toks (rests toks (forms.Var ∷ s)).core i (λ e ns sl. more_name toks false (VarEnd toks (rests toks s).done) (InExpr (ends_in_update e)) i c x.0 x.1
      (subst (λ (v : ℕ). RestOf toks controls.Named (forms.Var ∷ s) v) (let q : i + 1 + 1 ≡ i + 2 = omega arith in q) x.2))
  comma_rest i (forms.ForVar ∷ s) g r z c h n =
      let x = back toks controls.Name (forms.ForVar ∷ s) r (i + 1) h n in
      closed_over toks (rests toks (forms.ForVar ∷ s)).core i (λ e ns sl. more_name toks true (HeaderEnd toks (rests toks s).done) (InExpr (ends_in_update e)) i c x.0 x.1
      (subst (λ (v : ℕ). RestOf toks controls.Named (forms.ForVar ∷ s) v) (let q : i + 1 + 1 ≡ i + 2 = omega arith in q) x.2))
  comma_rest i (forms.Arguments p ∷ s) g r z c h n =
      let x = back toks (controls.Want places.First) (forms.Arguments p ∷ s) r (i + 1) h n in
      let y = x.then x.tree (i + 1) x.reading x.plain (λ w v. absurd (let u : false ≡ true = w in cc)) in
      closed_over toks (rests toks (forms.Arguments p ∷ s)).core i (λ e ns sl. more_arguments (HaveRest toks (rests toks s) p false) i c y.tree y.end y.reading y.then)
  comma_rest i (f ∷ s) g r z c h n = comma_over toks (rests toks (f ∷ s)).core i refl c (back toks (controls.Want places.First) (f ∷ s) r (i + 1) h n)

  -- the statement ends behind its expression
  value_end : (k : Class) (i : ℕ) (done : ℕ → Type 0) (e : Expr) → class_here toks i ≡ k → is_operator_class k ≡ false → NoSuffix toks i e → CompleteRest toks done i → ValueEnd toks done e i
  value_end k i done e q f ns c = (c.0, c.1, ends_as toks (InExpr (ends_in_update e)) c.0 i c.1 (ap is_operator_class q ∙ f, ns) c.2, c.3)

  paren_fed : (p : Place) (s : List Form) (i : ℕ) (e : Expr) → is_target e ≡ false → HaveRest toks (rests toks s) p false (i + 1) → HaveRest toks (rests toks s) p (is_target e) (i + 1)
  paren_fed p s i e q f = subst (λ (t : Bool). HaveRest toks (rests toks s) p t (i + 1)) (sym q) f

  ends_rest : (s : List Form) (k : Class) (i : ℕ) (j : Bool) (r : State) → joined_here toks i ≡ j → class_here toks i ≡ k → is_operator_class k ≡ false → Has toks i k → act (ends (top s) k) s (λ d. below k j s d) ≡ Some r → Rest toks r (i + 1) → UnaryFed toks (rests toks s).core i
  ends_rest [] k i j r u q f w h n = cc
  ends_rest (forms.Value ∷ s) k i j r u q f w h n = closed_over toks (rests toks (forms.Value ∷ s)).core i (λ e ns sl. value_end k i (rests toks s).done e q f ns (complete_rest toks k i j s r u q w h n))
  ends_rest (forms.Var ∷ s) k i j r u q f w h n =
      closed_over toks (rests toks (forms.Var ∷ s)).core i (λ e ns sl. (NoVariable, i, tt, refl, value_end k i (rests toks s).done e q f ns (complete_rest toks k i j s r u q w h n)))
  ends_rest (forms.Cond ∷ s) k i j r u q f w h n =
      let v = on_colon_is k (moves.Pop (controls.Want places.First)) (forms.Cond ∷ s) (λ d. below k j (forms.Cond ∷ s) d) r h in
      closed_over toks (rests toks (forms.Cond ∷ s)).core i (λ e ns sl. (got toks i classes.Colon (tokens.Sign signs.Colon) (subst (Has toks i) v.0 w), back toks (controls.Want places.First) s r (i + 1) v.1 n))
  ends_rest (forms.Paren p ∷ s) k i j r u q f w h n =
      let v = on_close_paren_is k (moves.Pop (controls.Have p false)) (forms.Paren p ∷ s) (λ d. below k j (forms.Paren p ∷ s) d) r h in
      closed_over toks (rests toks (forms.Paren p ∷ s)).core i (λ e ns sl. (got toks i classes.CloseParen (tokens.Sign signs.CloseParen) (subst (Has toks i) v.0 w), paren_fed p s i e (sl refl (q ∙ v.0)) (back toks (controls.Have p false) s r (i + 1) v.1 n)))
  ends_rest (forms.Index p ∷ s) k i j r u q f w h n =
      let v = on_close_bracket_is k (moves.Pop (controls.Have p true)) (forms.Index p ∷ s) (λ d. below k j (forms.Index p ∷ s) d) r h in
      closed_over toks (rests toks (forms.Index p ∷ s)).core i (λ e ns sl. (got toks i classes.CloseBracket (tokens.Sign signs.CloseBracket) (subst (Has toks i) v.0 w), back toks (controls.Have p true) s r (i + 1) v.1 n))
  ends_rest (forms.Arguments p ∷ s) k i j r u q f w h n =
      let v = on_close_paren_is k (moves.Pop (controls.Have p false)) (forms.Arguments p ∷ s) (λ d. below k j (forms.Arguments p ∷ s) d) r h in
      closed_over toks (rests toks (forms.Arguments p ∷ s)).core i (λ e ns sl. (NoArgument, i, tt, refl, got toks i classes.CloseParen (tokens.Sign signs.CloseParen) (subst (Has toks i) v.0 w), back toks (controls.Have p false) s r (i + 1) v.1 n))
  ends_rest (forms.Array p ∷ s) k i j r u q f w h n =
      let v = on_close_bracket_is k (moves.Pop (controls.Have p false)) (forms.Array p ∷ s) (λ d. below k j (forms.Array p ∷ s) d) r h in
      closed_over toks (rests toks (forms.Array p ∷ s)).core i (λ e ns sl. inl (got toks i classes.CloseBracket (tokens.Sign signs.CloseBracket) (subst (Has toks i) v.0 w), back toks (controls.Have p false) s r (i + 1) v.1 n))
  ends_rest (forms.Object p ∷ s) k i j r u q f w h n =
      let v = on_close_brace_is k (moves.Pop (controls.Have p false)) (forms.Object p ∷ s) (λ d. below k j (forms.Object p ∷ s) d) r h in
      closed_over toks (rests toks (forms.Object p ∷ s)).core i (λ e ns sl. inl (got toks i classes.CloseBrace (tokens.Sign signs.CloseBrace) (subst (Has toks i) v.0 w), back toks (controls.Have p false) s r (i + 1) v.1 n))
  ends_rest (forms.If ∷ s) k i j r u q f w h n =
      let v = on_close_paren_is k (moves.Swap forms.Then controls.Body) (forms.If ∷ s) (λ d. below k j (forms.If ∷ s) d) r h in
      closed_over toks (rests toks (forms.If ∷ s)).core i (λ e ns sl. (got toks i classes.CloseParen (tokens.Sign signs.CloseParen) (subst (Has toks i) v.0 w), back toks controls.Body (forms.Then ∷ s) r (i + 1) v.1 n))
  ends_rest (forms.Header ∷ s) k i j r u q f w h n =
      let v = on_close_paren_is k (moves.Pop controls.Body) (forms.Header ∷ s) (λ d. below k j (forms.Header ∷ s) d) r h in
      closed_over toks (rests toks (forms.Header ∷ s)).core i (λ e ns sl. (got toks i classes.CloseParen (tokens.Sign signs.CloseParen) (subst (Has toks i) v.0 w), back toks controls.Body s r (i + 1) v.1 n))
  ends_rest (forms.Switch ∷ s) k i j r u q f w h n =
      let v = on_close_paren_is k (moves.Swap forms.Clauses controls.SwitchBrace) (forms.Switch ∷ s) (λ d. below k j (forms.Switch ∷ s) d) r h in
      let x = back toks controls.SwitchBrace (forms.Clauses ∷ s) r (i + 1) v.1 n in
      closed_over toks (rests toks (forms.Switch ∷ s)).core i (λ e ns sl. (got toks i classes.CloseParen (tokens.Sign signs.CloseParen) (subst (Has toks i) v.0 w), x.0, subst (λ (v : ℕ). RestOf toks controls.ClauseOrEnd (forms.Clauses ∷ s) v) (let y : i + 1 + 1 ≡ i + 2 = omega arith in y) x.1))
  ends_rest (forms.DoWhile ∷ s) k i j r u q f w h n =
      let v = on_close_paren_is k (moves.Pop controls.Complete) (forms.DoWhile ∷ s) (λ d. below k j (forms.DoWhile ∷ s) d) r h in
      closed_over toks (rests toks (forms.DoWhile ∷ s)).core i (λ e ns sl. (got toks i classes.CloseParen (tokens.Sign signs.CloseParen) (subst (Has toks i) v.0 w), back toks controls.Complete s r (i + 1) v.1 n))
  ends_rest (forms.ForInit ∷ s) k i j r u q f w h n =
      let v = on_semicolon_is k (moves.Swap forms.ForTest controls.Test) (forms.ForInit ∷ s) (λ d. below k j (forms.ForInit ∷ s) d) r h in
      closed_over toks (rests toks (forms.ForInit ∷ s)).core i (λ e ns sl. inl (got toks i classes.Semicolon (tokens.Sign signs.Semicolon) (subst (Has toks i) v.0 w), back toks controls.Test (forms.ForTest ∷ s) r (i + 1) v.1 n))
  ends_rest (forms.ForVar ∷ s) k i j r u q f w h n =
      let v = on_semicolon_is k (moves.Swap forms.ForTest controls.Test) (forms.ForVar ∷ s) (λ d. below k j (forms.ForVar ∷ s) d) r h in
      closed_over toks (rests toks (forms.ForVar ∷ s)).core i (λ e ns sl. (NoVariable, i, tt, refl, (got toks i classes.Semicolon (tokens.Sign signs.Semicolon) (subst (Has toks i) v.0 w), back toks controls.Test (forms.ForTest ∷ s) r (i + 1) v.1 n)))
  ends_rest (forms.ForTest ∷ s) k i j r u q f w h n =
      let v = on_semicolon_is k (moves.Swap forms.Header controls.Update) (forms.ForTest ∷ s) (λ d. below k j (forms.ForTest ∷ s) d) r h in
      closed_over toks (rests toks (forms.ForTest ∷ s)).core i (λ e ns sl. (got toks i classes.Semicolon (tokens.Sign signs.Semicolon) (subst (Has toks i) v.0 w), back toks controls.Update (forms.Header ∷ s) r (i + 1) v.1 n))
  ends_rest (forms.Within ∷ s) k i j r u q f w h n =
      let v = on_open_brace_is k (moves.Swap forms.Block controls.List) (forms.Within ∷ s) (λ d. below k j (forms.Within ∷ s) d) r h in
      closed_over toks (rests toks (forms.Within ∷ s)).core i (λ e ns sl. (got toks i classes.OpenBrace (tokens.Sign signs.OpenBrace) (subst (Has toks i) v.0 w), (back toks controls.List (forms.Block ∷ s) r (i + 1) v.1 n) refl))
  ends_rest (forms.CaseHead ∷ s) k i j r u q f w h n =
      let v = on_colon_is k (moves.Pop controls.List) (forms.CaseHead ∷ s) (λ d. below k j (forms.CaseHead ∷ s) d) r h in
      closed_over toks (rests toks (forms.CaseHead ∷ s)).core i (λ e ns sl. (got toks i classes.Colon (tokens.Sign signs.Colon) (subst (Has toks i) v.0 w), back toks controls.List s r (i + 1) v.1 n))
  ends_rest (_ ∷ s) k i j r u q f w h n = cc

  -- behind an operand that gets no suffix
  top_rest : (k : Class) (i : ℕ) (j : Bool) (s : List Form) (r : State) → is_new s ≡ false → joined_here toks i ≡ j → class_here toks i ≡ k → Has toks i k → act (behind_top k (top s)) s (λ d. below k j s d) ≡ Some r → Rest toks r (i + 1) → UnaryFed toks (rests toks s).core i
  top_rest classes.In i j s r z u q w h n =
      let m = moves.Stay (controls.Want places.Later) in
      let g : Again = λ d. below classes.In j s d in
      let x = back toks (controls.Want places.Later) s r (i + 1) (unless_is (bars_in (top s)) m s g r h) n in
      operator_over toks (rests toks s).core binaries.In i (allowed_in (rests toks s).core.bars (bars_is s z ∙ unless_false (bars_in (top s)) m s g r h)) (got toks i classes.In (tokens.Key keys.In) w) (want_in toks s places.Later (i + 1) z x)
  top_rest classes.Operator i j s r z u q w h n =
      operator_over toks (rests toks s).core w.3.0 i (w.3.2 (rests toks s).core.bars) (w.1 ∙ ap Some w.3.1) (want_in toks s places.Later (i + 1) z (back toks (controls.Want places.Later) s r (i + 1) h n))
  top_rest classes.Instanceof i j s r z u q w h n =
      operator_over toks (rests toks s).core binaries.Instanceof i (allowed_instanceof (rests toks s).core.bars) (got toks i classes.Instanceof (tokens.Key keys.Instanceof) w) (want_in toks s places.Later (i + 1) z (back toks (controls.Want places.Later) s r (i + 1) h n))
  top_rest classes.Sum i j s r z u q w h n =
      operator_over toks (rests toks s).core w.3.0.0 i (w.3.0.2 (rests toks s).core.bars) (w.1 ∙ ap Some w.3.0.1) (want_in toks s places.Later (i + 1) z (back toks (controls.Want places.Later) s r (i + 1) h n))
  top_rest classes.Question i j s r z u q w h n =
      let x = back toks (controls.Want places.First) (forms.Cond ∷ s) r (i + 1) h n in
      let y = x.then x.tree (i + 1) x.reading x.plain (λ a b. absurd (let c : false ≡ true = a in cc)) in
      choice_over toks (rests toks s).core i y.end y.tree (got toks i classes.Question (tokens.Sign signs.Question) w) y.reading y.then.0 (want_in toks s places.First (y.end + 1) z y.then.1)
  top_rest classes.Assign i j s r z u q w h n = cc
  top_rest classes.AssignWith i j s r z u q w h n = cc
  top_rest classes.Comma i j s r z u q w h n = comma_rest i s (λ d. below classes.Comma j s d) r z (got toks i classes.Comma (tokens.Sign signs.Comma) w) h n
  top_rest k i j s r z u q w h n = ends_rest s k i j r u q refl w h n

  pub behind_rest : (s : List Form) (k : Class) (i : ℕ) (j : Bool) (r : State) → joined_here toks i ≡ j → class_here toks i ≡ k → Has toks i k → step k j s controls.Behind ≡ Some r → Rest toks r (i + 1) → UnaryFed toks (rests toks s).core i
  behind_rest [] k i j r u q w h n = top_rest k i j [] r refl u q w h n
  behind_rest (forms.New ∷ s) k i j r u q w h n = behind_rest s k i j r u q w h n
  behind_rest (f ∷ s) k i j r u q w h n = top_rest k i j (f ∷ s) r refl u q w h n

  high : (k l : ℕ) → have_level k ≤ l → 16 ≤ l
  high zero l h = h
  high (suc k) l h = omega arith

  dot_rest : (p : Place) (t : Bool) (i : ℕ) (s : List Form) (r : State) → HasSign toks i signs.Dot → Some (state (controls.Dot p) s) ≡ Some r → Rest toks r (i + 1) → HaveRest toks (rests toks s) p t i
  dot_rest p t i s r c h n e j q g =
      let x = back toks (controls.Dot p) s r (i + 1) h n in
      let l = high (rests toks s).news (level e) q.binds in
      x.2 (Dot e x.0) j (record { binds = (let a = q.binds in let b = have_low (rests toks s).news in omega arith); formed = (l, q.formed); stands = (i, q.stands, c, x.1, (let v : i + 1 + 1 ≡ i + 2 = omega arith in v)) }) refl

  index_rest : (p : Place) (t : Bool) (i : ℕ) (s : List Form) (r : State) → HasSign toks i signs.OpenBracket → Some (state (controls.Want places.Whole) (forms.Index p ∷ s)) ≡ Some r → Rest toks r (i + 1) → HaveRest toks (rests toks s) p t i
  index_rest p t i s r c h n e j q g =
      let x = back toks (controls.Want places.Whole) (forms.Index p ∷ s) r (i + 1) h n in
      let l = high (rests toks s).news (level e) q.binds in
      x.then.1 (At e x.tree) j (record { binds = (let a = q.binds in let b = have_low (rests toks s).news in omega arith); formed = (l, q.formed, x.reading.formed); stands = (i, x.end, q.stands, c, x.reading.stands, x.then.0, refl) }) refl

  call_rest : (s : List Form) (p : Place) (t : Bool) (i : ℕ) (g : Again) (r : State) → HasSign toks i signs.OpenParen → act (call p (top s)) s g ≡ Some r → Rest toks r (i + 1) → HaveRest toks (rests toks s) p t i
  call_rest [] p t i g r c h n e j q f =
      let x = back toks controls.ArgumentOrEnd (forms.Arguments p ∷ []) r (i + 1) h n in
      x.5 (Call e x.0) j (record { binds = omega arith; formed = (q.binds, q.formed, x.2); stands = (i, x.1, q.stands, c, x.3, x.4, refl) }) refl
  call_rest (forms.New ∷ s) p t i g r c h n e j q f = λ j' v k.
      let x = back toks controls.ArgumentOrEnd (forms.Arguments p ∷ s) r (i + 1) h n in
      x.5 (NewWith e x.0) j' (record { binds = have_low (rests toks s).news; formed = (q.binds, q.formed, x.2); stands = (i, x.1, k, subst (λ (z : ℕ). Stands toks e z i) v q.stands, c, x.3, x.4, refl) }) refl
  call_rest (y ∷ s) p t i g r c h n e j q f =
      let x = back toks controls.ArgumentOrEnd (forms.Arguments p ∷ y ∷ s) r (i + 1) h n in
      x.5 (Call e x.0) j (record { binds = omega arith; formed = (q.binds, q.formed, x.2); stands = (i, x.1, q.stands, c, x.3, x.4, refl) }) refl

  -- the operand ends
  chain_rest : (s : List Form) (p : Place) (t : Bool) (i : ℕ) → is_new s ≡ false → (is_suffix_class (class_here toks i) ≡ true → ⊥) → UnaryFed toks (rests toks s).core i → (p ≡ places.Update → t ≡ true) → (p ≡ places.Whole → (rests toks s).core.paren ≡ true → class_here toks i ≡ classes.CloseParen → t ≡ false)
      → HaveRest toks (rests toks s) p t i
  chain_rest s p t i z ns u up sl e j q g =
      let l = high (rests toks s).news (level e) q.binds in
      want_out toks s p j z (want_unary toks (rests toks s).core p e j i (record { binds = omega arith; formed = q.formed; stands = q.stands }) (λ v. absurd (ns v)) u (λ w a b. g ∙ sl w a b) (λ w. (g ∙ up w, l)))

  -- the same below `new`s
  new_rest : (s : List Form) (p : Place) (t : Bool) (i : ℕ) → after_update p ≡ false → (is_suffix_class (class_here toks i) ≡ true → ⊥) → UnaryFed toks (rests toks s).core i → HaveRest toks (rests toks (forms.New ∷ s)) p t i
  new_rest s p t i a ns u e j q g = λ j' v k. bare_new toks (rests toks s).core (rests toks s).news p e j i a u ns (inl q.binds) q.formed q.stands j' v k

  postfix_rest : (s : List Form) (p : Place) (i : ℕ) (op : UpdateOperator) → is_new s ≡ false → after_update p ≡ false → HasToken toks i (update_token op) → IsJoined toks i → UnaryFed toks (rests toks s).core (i + 1) → HaveRest toks (rests toks s) p true i
  postfix_rest s p i op z a c j u e b q g =
      let l = high (rests toks s).news (level e) q.binds in
      want_out toks s p b z (want_unary toks (rests toks s).core p (Postfix e op) b (i + 1) (record { binds = omega arith; formed = (g, (let v : 15 ≤ level e = omega arith in v), q.formed); stands = (i, q.stands, c, j, refl) })
      (λ v. refl) u (λ w x y. refl) (not_update toks (rests toks s).core p a _))

  assign_rest : (s : List Form) (p : Place) (i : ℕ) (op : AssignOperator) (g : Again) (r : State) → is_new s ≡ false → HasToken toks i (assign_token op) → act (assign_move p) s g ≡ Some r → Rest toks r (i + 1) → HaveRest toks (rests toks s) p true i
  assign_rest s places.Whole i op g r z c h n e j q f =
      let x = want_in toks s places.First (i + 1) z (back toks (controls.Want places.First) s r (i + 1) h n) in
      let l = high (rests toks s).news (level e) q.binds in
      let v : 15 ≤ level e = omega arith in
      want_out toks s places.Whole j z (first_whole toks (rests toks s).core j (assign_over toks (rests toks s).core e op j i f v q.formed q.stands c x) (λ a b. assigned toks (rests toks s).core e op j i f v q.formed q.stands c x))
  assign_rest s places.First i op g r z c h n e j q f =
      let x = want_in toks s places.First (i + 1) z (back toks (controls.Want places.First) s r (i + 1) h n) in
      let l = high (rests toks s).news (level e) q.binds in
      want_out toks s places.First j z (assign_over toks (rests toks s).core e op j i f (let v : 15 ≤ level e = omega arith in v) q.formed q.stands c x)
  assign_rest s places.Later i op g r z c h n e j q f = cc
  assign_rest s places.Update i op g r z c h n e j q f = cc

  always : (s : List Form) (p : Place) (i : ℕ) (k : Class) (j : Bool) (r : State) → is_new s ≡ false → joined_here toks i ≡ j → class_here toks i ≡ k → Has toks i k → is_suffix_class k ≡ false → ((rests toks s).core.paren ≡ true → k ≡ classes.CloseParen → p ≡ places.Whole → ⊥)
      → step k j s controls.Behind ≡ Some r → Rest toks r (i + 1) → HaveRest toks (rests toks s) p true i
  always s p i k j r z u q w f sl h n =
      chain_rest s p true i z (suffix_other toks i k q f) (behind_rest s k i j r u q w h n) (λ v. refl) (λ a b c. absurd (sl b (sym q ∙ c) a))

  in_rest : (s : List Form) (p : Place) (i : ℕ) (j : Bool) (r : State) → is_new s ≡ false → joined_here toks i ≡ j → class_here toks i ≡ classes.In → Has toks i classes.In → act (target_in p (top s)) s (λ d. below classes.In j s d) ≡ Some r → Rest toks r (i + 1)
      → HaveRest toks (rests toks s) p true i
  in_rest (forms.ForInit ∷ s) places.Whole i j r z u q w h n = λ e b x g.
      let y = back toks (controls.Want places.Whole) (forms.Header ∷ s) r (i + 1) h n in
      record {
        tree = e;
        end = i;
        reading = weaken toks true 16 0 b e i (omega arith) x;
        then = inr (g, got toks i classes.In (tokens.Key keys.In) w, (y.tree, y.end, y.reading.formed, y.reading.stands, y.then.0, y.then.1));
      }
  in_rest [] places.Whole i j r z u q w h n = always [] places.Whole i classes.In j r z u q w refl (λ a b. let v : classes.In ≡ classes.CloseParen = b in λ c. cc) h n
  in_rest (f ∷ s) places.Whole i j r z u q w h n = always (f ∷ s) places.Whole i classes.In j r z u q w refl (λ a b c. let v : classes.In ≡ classes.CloseParen = b in cc) h n
  in_rest s p i j r z u q w h n = always s p i classes.In j r z u q w refl (λ a b c. let v : classes.In ≡ classes.CloseParen = b in cc) h n

  closed_rest : (s : List Form) (p : Place) (i : ℕ) (j : Bool) (r : State) → is_new s ≡ false → joined_here toks i ≡ j → class_here toks i ≡ classes.CloseParen → Has toks i classes.CloseParen → act (target_closed p (top s)) s (λ d. below classes.CloseParen j s d) ≡ Some r → Rest toks r (i + 1)
      → HaveRest toks (rests toks s) p true i
  closed_rest (forms.Paren o ∷ s) places.Whole i j r z u q w h n = λ e b x g.
      let y = back toks (controls.Have o true) s r (i + 1) h n in
      record {
        tree = e;
        end = i;
        reading = weaken toks false 16 0 b e i (omega arith) x;
        then = (got toks i classes.CloseParen (tokens.Sign signs.CloseParen) w, subst (λ (t : Bool). HaveRest toks (rests toks s) o t (i + 1)) (sym g) y);
      }
  closed_rest [] places.Whole i j r z u q w h n = always [] places.Whole i classes.CloseParen j r z u q w refl (λ a b c. let v : false ≡ true = a in cc) h n
  closed_rest (forms.New ∷ s) places.Whole i j r z u q w h n = absurd (cc)
  closed_rest (f ∷ s) places.Whole i j r z u q w h n = always (f ∷ s) places.Whole i classes.CloseParen j r z u q w refl (λ a b c. let v : false ≡ true = a in cc) h n
  closed_rest s places.First i j r z u q w h n = always s places.First i classes.CloseParen j r z u q w refl (λ a b c. cc) h n
  closed_rest s places.Later i j r z u q w h n = always s places.Later i classes.CloseParen j r z u q w refl (λ a b c. cc) h n
  closed_rest s places.Update i j r z u q w h n = always s places.Update i classes.CloseParen j r z u q w refl (λ a b c. cc) h n

  target_rest : (k : Class) (s : List Form) (p : Place) (i : ℕ) (j : Bool) (r : State) → is_new s ≡ false → joined_here toks i ≡ j → class_here toks i ≡ k → Has toks i k → is_suffix_class k ≡ false → act (target k j p (top s)) s (λ d. below k j s d) ≡ Some r → Rest toks r (i + 1)
      → HaveRest toks (rests toks s) p true i
  target_rest classes.Update s p i true r z u q w f h n =
      let m = moves.Stay controls.Behind in
      let g : Again = λ d. below classes.Update true s d in
      postfix_rest s p i w.3.0.0 z (unless_false (after_update p) m s g r h) (w.1 ∙ ap Some w.3.0.1) u (back toks controls.Behind s r (i + 1) (unless_is (after_update p) m s g r h) n)
  target_rest classes.Update s p i false r z u q w f h n = always s p i classes.Update false r z u q w refl (λ a b c. let v : classes.Update ≡ classes.CloseParen = b in cc) h n
  target_rest classes.Assign s p i j r z u q w f h n = assign_rest s p i assigns.Plain (λ d. below classes.Assign j s d) r z (got toks i classes.Assign (tokens.Sign signs.Assign) w) h n
  target_rest classes.AssignWith s p i j r z u q w f h n = assign_rest s p i w.3.0 (λ d. below classes.AssignWith j s d) r z (w.1 ∙ ap Some w.3.1) h n
  target_rest classes.In s p i j r z u q w f h n = in_rest s p i j r z u q w h n
  target_rest classes.CloseParen s p i j r z u q w f h n = closed_rest s p i j r z u q w h n
  target_rest k s p i j r z u q w f h n = always s p i k j r z u q w f (λ a b c. cc) h n

  bare_top_rest : (t : Bool) (k : Class) (s : List Form) (p : Place) (i : ℕ) (j : Bool) (r : State) → is_new s ≡ false → joined_here toks i ≡ j → class_here toks i ≡ k → Has toks i k → is_suffix_class k ≡ false → act (bare_top t k j p (top s)) s (λ d. below k j s d) ≡ Some r → Rest toks r (i + 1)
      → HaveRest toks (rests toks s) p t i
  bare_top_rest true k s p i j r z u q w f h n = target_rest k s p i j r z u q w f h n
  bare_top_rest false k s p i j r z u q w f h n =
      let g : Again = λ d. below k j s d in
      let a = unless_false (after_update p) (behind (top s) k) s g r h in
      chain_rest s p false i z (suffix_other toks i k q f) (behind_rest s k i j r u q w (unless_is (after_update p) (behind (top s) k) s g r h) n) (not_update toks (rests toks s).core p a _) (λ x y v. refl)

  bare_rest : (s : List Form) (k : Class) (p : Place) (t : Bool) (i : ℕ) (j : Bool) (r : State) → joined_here toks i ≡ j → class_here toks i ≡ k → Has toks i k → is_suffix_class k ≡ false → act (bare (top s) k j p t) s (λ d. below k j s d) ≡ Some r → Rest toks r (i + 1) → HaveRest toks (rests toks s) p t i
  bare_rest [] k p t i j r u q w f h n = bare_top_rest t k [] p i j r refl u q w f h n
  bare_rest (forms.New ∷ s) k p t i j r u q w f h n =
      let m = moves.Again controls.Behind in
      let g : Again = λ d. below k j (forms.New ∷ s) d in
      new_rest s p t i (unless_false (after_update p) m (forms.New ∷ s) g r h) (suffix_other toks i k q f) (behind_rest s k i j r u q w (unless_is (after_update p) m (forms.New ∷ s) g r h) n)
  bare_rest (y ∷ s) k p t i j r u q w f h n = bare_top_rest t k (y ∷ s) p i j r refl u q w f h n

  pub have_rest : (k : Class) (p : Place) (t : Bool) (i : ℕ) (j : Bool) (s : List Form) (r : State) → joined_here toks i ≡ j → class_here toks i ≡ k → Has toks i k → step k j s (controls.Have p t) ≡ Some r → Rest toks r (i + 1) → HaveRest toks (rests toks s) p t i
  have_rest classes.Dot p t i j s r u q w h n = dot_rest p t i s r (got toks i classes.Dot (tokens.Sign signs.Dot) w) h n
  have_rest classes.OpenBracket p t i j s r u q w h n = index_rest p t i s r (got toks i classes.OpenBracket (tokens.Sign signs.OpenBracket) w) h n
  have_rest classes.OpenParen p t i j s r u q w h n = call_rest s p t i (λ d. below classes.OpenParen j s d) r (got toks i classes.OpenParen (tokens.Sign signs.OpenParen) w) h n
  have_rest k p t i j s r u q w h n = bare_rest s k p t i j r u q w refl h n

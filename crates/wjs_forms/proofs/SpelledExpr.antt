-- A run is read backward: operands, and what is behind them.
use Rattle.std.proofs.Common.{◌≡◌, ℕ, zero, suc, ◌+◌, ◌≤◌, ◌⊎◌, inl, inr, Bool, true, false, not, List, [], ◌∷◌, length, Option, Some, None, refl, sym, ap, ◌∙◌, subst, arith}
use Rattle.wjs_base.specs.declared.ids.TextId.{TextId}
use Rattle.wjs_tree.specs.declared.tokens.Tok.{Tok}
use Rattle.wjs_tree.specs.declared.tokens.Token.{Token}
use Rattle.wjs_tree.specs.declared.tokens.Token.TheVariants as tokens
use Rattle.wjs_tree.specs.declared.signs.Sign.{Sign}
use Rattle.wjs_tree.specs.declared.signs.Sign.TheVariants as signs
use Rattle.wjs_tree.specs.declared.keys.Key.{Key}
use Rattle.wjs_tree.specs.declared.keys.Key.TheVariants as keys
use Rattle.wjs_tree.specs.declared.operators.AssignOperator.TheVariants as assigns
use Rattle.wjs_tree.specs.declared.operators.AssignOperator.{AssignOperator}
use Rattle.wjs_tree.specs.declared.operators.BinaryOperator.TheVariants as binaries
use Rattle.wjs_tree.specs.Operators.{IsAllowed, assign_token, update_token}
use Rattle.wjs_tree.specs.Trees.{Expr, Name, Paren, ArrayLit, ObjectLit, Function, Dot, At, Call, NewWith, NewBare, Postfix, Argument, NoArgument, Variable, NoVariable, Elements}
use Rattle.wjs_tree.specs.Levels.{level, is_target, ends_in_update}
use Rattle.wjs_tree.specs.Formed.{Shaped}
use Rattle.wjs_tree.specs.Ends.{HasToken, HasSign, HasKey, IsJoined, Ending, Complete, InName, InExpr, Ends}
use Rattle.wjs_tree.specs.Spelling.{Stands, ElementsStand, InitialiserStands}
use Rattle.wjs_forms.specs.declared.class.Class.{Class}
use Rattle.wjs_forms.specs.declared.class.Class.TheVariants as classes
use Rattle.wjs_forms.specs.declared.forms.Place.{Place}
use Rattle.wjs_forms.specs.declared.forms.Place.TheVariants as places
use Rattle.wjs_forms.specs.declared.forms.Form.{Form}
use Rattle.wjs_forms.specs.declared.forms.Form.TheVariants as forms
use Rattle.wjs_forms.specs.declared.forms.Control.{Control}
use Rattle.wjs_forms.specs.declared.forms.Control.TheVariants as controls
use Rattle.wjs_forms.specs.declared.forms.Move.{Move}
use Rattle.wjs_forms.specs.declared.forms.Move.TheVariants as moves
use Rattle.wjs_forms.specs.Classes.{class_of}
use Rattle.wjs_forms.specs.Table.{unless, operand, ends, behind, behind_top, bars_operator, bars_in, after_update, comma, have, bare, bare_top, target, target_in, target_closed, call, assigns as assign_move}
use Rattle.wjs_forms.specs.Moves.{value}
use Rattle.wjs_forms.specs.States.{State, state, top, act, below, step}
use Rattle.wjs_forms.proofs.Runs.{class_here, joined_here}
use Rattle.wjs_forms.proofs.Tops.{is_new, Again, unless_false, unless_is}
use Rattle.wjs_forms.proofs.Endings.{is_suffix_class, is_operator_class, continues_name_class, Ended}
use Rattle.wjs_forms.proofs.Declared.{part_ending, final}
use Rattle.wjs_forms.proofs.Standing.{Has, Is, Primary}
use Rattle.wjs_forms.proofs.Rests.{Rests, Nested, least, have_level, Reading, NoSuffix, Sealed, Whole, AssignFed, First, UnaryFed, Later, Updated, WantOver, WantNew, WantRest, HaveRest, CompleteRest, ElementsRest, MoreArgumentsRest, ArgumentsRest, ItemsRest, PropertiesRest, MoreRest, NamedRest, VarEnd, HeaderEnd, ListRest, rests, NameRest, named_rest, RestOf, Rest, arguments_rest}
use Rattle.wjs_forms.proofs.Grown.{weaken, first_whole, want_unary, not_update, prefix_later, prefix_update, operator_over, choice_over, assign_over, part_over, closed_over, comma_over, bare_new}
use Rattle.wjs_forms.proofs.SpelledEnds.{ends_as}

-- what is looked at below the innermost form
pub have_low : (k : ℕ) → have_level k ≤ 17
have_low zero = omega arith
have_low (suc k) = omega arith

primary_have : (k l : ℕ) → 17 ≤ l → have_level k ≤ l
primary_have k l h = let g = have_low k in omega arith

module _ (toks : List Tok) where
  -- what is behind the token, of the state that it leads to
  pub back : (c : Control) (s : List Form) (r : State) (i : ℕ) → Some (state c s) ≡ Some r → Rest toks r i → RestOf toks c s i
  back c s r i h n = subst (λ (z : State). Rest toks z i) (sym (let q : state c s ≡ r = cc in q)) n

  pub got : (i : ℕ) (k : Class) (u : Token) → (t : Token) × HasToken toks i t × (class_of t ≡ k) × (t ≡ u) → HasToken toks i u
  got i k u w = w.1 ∙ ap Some w.3

  news_zero : (s : List Form) → is_new s ≡ false → (rests toks s).news ≡ 0
  news_zero [] h = refl
  news_zero (forms.New ∷ s) h = cc
  news_zero (f ∷ s) h = refl

  pub want_in : (s : List Form) (p : Place) (i : ℕ) → is_new s ≡ false → WantRest toks (rests toks s) p i → WantOver toks (rests toks s).core p i
  want_in s p i h w = subst (λ (k : ℕ). WantNew toks (rests toks s).core p k i) (news_zero s h) w

  pub want_out : (s : List Form) (p : Place) (i : ℕ) → is_new s ≡ false → WantOver toks (rests toks s).core p i → WantRest toks (rests toks s) p i
  want_out s p i h w = subst (λ (k : ℕ). WantNew toks (rests toks s).core p k i) (sym (news_zero s h)) w

  bars_none : (s : List Form) (p : Place) → bars_operator p (top s) ≡ false → (is_new s ≡ false) × (after_update p ≡ false)
  bars_none [] p h = (refl, h)
  bars_none (forms.New ∷ s) p h = absurd (let w : true ≡ false = h in cc)
  bars_none (f ∷ s) p h = (refl, h)

  primary_rest : (i : ℕ) (p : Place) (s : List Form) (t : Token) → HasToken toks i t → Primary t → HaveRest toks (rests toks s) p false (i + 1) → WantRest toks (rests toks s) p i
  primary_rest i p s t h w f =
      f w.tree i (record { binds = primary_have (rests toks s).news (level w.tree) w.binds; formed = w.formed (rests toks s).core.bars; stands = w.stands toks i h }) w.no_target

  pub operand_rest : (k : Class) (i : ℕ) (p : Place) (s : List Form) (g : Again) (r : State) → Has toks i k → act (operand k p (top s)) s g ≡ Some r → Rest toks r (i + 1) → WantRest toks (rests toks s) p i
  operand_rest classes.Word i p s g r w h n =
      let f = back (controls.Have p true) s r (i + 1) h n in
      f (Name w.3.0) i (record { binds = primary_have (rests toks s).news 18 (omega arith); formed = tt; stands = (w.1 ∙ ap Some w.3.1, refl) }) refl
  operand_rest classes.Literal i p s g r w h n = primary_rest i p s w.0 w.1 w.3.0 (back (controls.Have p false) s r (i + 1) h n)
  operand_rest classes.Constant i p s g r w h n = primary_rest i p s w.0 w.1 w.3 (back (controls.Have p false) s r (i + 1) h n)
  operand_rest classes.OpenParen i p s g r w h n =
      let x = back (controls.Want places.Whole) (forms.Paren p ∷ s) r (i + 1) h n in
      x.then.1 (Paren x.tree) i (record { binds = primary_have (rests toks s).news 18 (omega arith); formed = x.reading.formed; stands = (x.end, got i classes.OpenParen (tokens.Sign signs.OpenParen) w, x.reading.stands, x.then.0, refl) }) refl
  operand_rest classes.OpenBracket i p s g r w h n =
      let x = back controls.Item (forms.Array p ∷ s) r (i + 1) h n in
      x.5 (ArrayLit x.0) i (record { binds = primary_have (rests toks s).news 18 (omega arith); formed = x.2; stands = (x.1, got i classes.OpenBracket (tokens.Sign signs.OpenBracket) w, x.3, x.4, refl) }) refl
  operand_rest classes.OpenBrace i p s g r w h n =
      let x = back controls.KeyOrEnd (forms.Object p ∷ s) r (i + 1) h n in
      x.5 (ObjectLit x.0) i (record { binds = primary_have (rests toks s).news 18 (omega arith); formed = x.2; stands = (x.1, got i classes.OpenBrace (tokens.Sign signs.OpenBrace) w, x.3, x.4, refl) }) refl
  operand_rest classes.Function i p s g r w h n =
      let x = back controls.NameOrFormals (forms.Function p ∷ s) r (i + 1) h n in
      let y = x.3 in
      let z = y.1 in
      let b = z.4 in
      let e = b.1 refl in
      e.5 (Function x.0 z.0 e.0) i
      (record {
        binds = primary_have (rests toks s).news 18 (omega arith);
        formed = (e.2, tt);
        stands = (x.1, z.1, e.1, got i classes.Function (tokens.Key keys.Function) w, x.2, y.0, z.2, z.3, b.0, subst (λ (v : ℕ). ElementsStand toks e.0 v e.1) (let q : z.1 + 1 + 1 ≡ z.1 + 2 = omega arith in q) e.3, e.4, refl);
      }) refl
  operand_rest classes.New i p s g r w h n = (back (controls.Want p) (forms.New ∷ s) r (i + 1) h n) i refl (got i classes.New (tokens.Key keys.New) w)
  operand_rest classes.Update i p s g r w h n =
      let m = moves.Stay (controls.Want places.Update) in
      let v = bars_none s p (unless_false (bars_operator p (top s)) m s g r h) in
      let x = back (controls.Want places.Update) s r (i + 1) (unless_is (bars_operator p (top s)) m s g r h) n in
      want_out s p i v.0 (prefix_update toks (rests toks s).core p w.3.1.0 i v.1 (w.1 ∙ ap Some w.3.1.1) (want_in s places.Update (i + 1) v.0 x))
  operand_rest classes.Sum i p s g r w h n =
      let m = moves.Stay (controls.Want places.Later) in
      let v = bars_none s p (unless_false (bars_operator p (top s)) m s g r h) in
      let x = back (controls.Want places.Later) s r (i + 1) (unless_is (bars_operator p (top s)) m s g r h) n in
      want_out s p i v.0 (prefix_later toks (rests toks s).core p w.3.1.0 i v.1 w.3.1.2 (w.1 ∙ ap Some w.3.1.1) (want_in s places.Later (i + 1) v.0 x))
  operand_rest classes.SignBefore i p s g r w h n =
      let m = moves.Stay (controls.Want places.Later) in
      let v = bars_none s p (unless_false (bars_operator p (top s)) m s g r h) in
      let x = back (controls.Want places.Later) s r (i + 1) (unless_is (bars_operator p (top s)) m s g r h) n in
      want_out s p i v.0 (prefix_later toks (rests toks s).core p w.3.0 i v.1 w.3.2 (w.1 ∙ ap Some w.3.1) (want_in s places.Later (i + 1) v.0 x))
  operand_rest classes.KeyBefore i p s g r w h n =
      let m = moves.Stay (controls.Want places.Later) in
      let v = bars_none s p (unless_false (bars_operator p (top s)) m s g r h) in
      let x = back (controls.Want places.Later) s r (i + 1) (unless_is (bars_operator p (top s)) m s g r h) n in
      want_out s p i v.0 (prefix_later toks (rests toks s).core p w.3.0 i v.1 w.3.2 (w.1 ∙ ap Some w.3.1) (want_in s places.Later (i + 1) v.0 x))
  operand_rest _ i p s g r w h n = cc

  value_same : (k : Class) (s : List Form) (g u : Again) → act (value forms.Value k) s g ≡ act (operand k places.Whole (Some forms.Value)) (forms.Value ∷ s) u
  value_same classes.Word s g u = refl
  value_same _ s g u = refl

  init_same : (k : Class) (s : List Form) (g u : Again) → act (value forms.ForInit k) s g ≡ act (operand k places.Whole (Some forms.ForInit)) (forms.ForInit ∷ s) u
  init_same classes.Word s g u = refl
  init_same _ s g u = refl

  pub value_rest : (k : Class) (i : ℕ) (s : List Form) (g : Again) (r : State) → Has toks i k → act (value forms.Value k) s g ≡ Some r → Rest toks r (i + 1) → Whole toks (rests toks (forms.Value ∷ s)).core i
  value_rest k i s g r w h n = operand_rest k i places.Whole (forms.Value ∷ s) g r w (sym (value_same k s g g) ∙ h) n

  pub init_value_rest : (k : Class) (i : ℕ) (s : List Form) (g : Again) (r : State) → Has toks i k → act (value forms.ForInit k) s g ≡ Some r → Rest toks r (i + 1) → Whole toks (rests toks (forms.ForInit ∷ s)).core i
  init_value_rest k i s g r w h n = operand_rest k i places.Whole (forms.ForInit ∷ s) g r w (sym (init_same k s g g) ∙ h) n

  -- a further variable
  pub more_name : (b : Bool) (closed : Ending → ℕ → Type 0) (prior : Ending) (i : ℕ) → HasSign toks i signs.Comma → (x : TextId) → HasToken toks (i + 1) (tokens.Word x) → NamedRest toks b closed (i + 2) → MoreRest toks b closed prior i
  more_name b closed prior i c x w n = let more = n.4 in (Variable x n.0 more.0, more.1, (n.2, more.2), (n.1, c, w, n.3, more.3), more.4)

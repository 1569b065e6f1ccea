-- A run is read backward: whatever is to come next.
use Rattle.std.proofs.Common.{◌≡◌, ℕ, zero, suc, ◌+◌, ◌≤◌, ◌⊎◌, inl, inr, Bool, true, false, not, List, [], ◌∷◌, length, Option, Some, None, slice_get, refl, sym, ap, ◌∙◌, subst, arith}
use Rattle.wjs_base.specs.declared.ids.TextId.{TextId}
use Rattle.wjs_tree.specs.declared.tokens.Tok.{Tok}
use Rattle.wjs_tree.specs.declared.tokens.Token.{Token}
use Rattle.wjs_tree.specs.declared.tokens.Token.TheVariants as tokens
use Rattle.wjs_tree.specs.declared.signs.Sign.TheVariants as signs
use Rattle.wjs_tree.specs.declared.keys.Key.TheVariants as keys
use Rattle.wjs_tree.specs.declared.node.PropertyKey.{PropertyKey}
use Rattle.wjs_tree.specs.declared.node.PropertyKey.TheVariants as property_keys
use Rattle.wjs_tree.specs.Trees.{Expr, Name, Absent, Present, NoArgument, Argument, NoItem, Hole, Item, LastItem, NoProperty, Property, LastProperty, NoVariable, Variable, NoInit, InitExpr, InitVar}
use Rattle.wjs_tree.specs.Levels.{level, is_target, ends_in_update}
use Rattle.wjs_tree.specs.Ends.{token_at, HasToken, HasSign, HasKey, Ending, InName}
use Rattle.wjs_tree.specs.Spelling.{property_token, Stands, InitialiserStands}
use Rattle.wjs_forms.specs.declared.class.Class.{Class}
use Rattle.wjs_forms.specs.declared.class.Class.TheVariants as classes
use Rattle.wjs_forms.specs.declared.forms.Place.{Place}
use Rattle.wjs_forms.specs.declared.forms.Place.TheVariants as places
use Rattle.wjs_forms.specs.declared.forms.Form.{Form}
use Rattle.wjs_forms.specs.declared.forms.Form.TheVariants as forms
use Rattle.wjs_forms.specs.declared.forms.Control.{Control}
use Rattle.wjs_forms.specs.declared.forms.Control.TheVariants as controls
use Rattle.wjs_forms.specs.declared.forms.Move.{Move}
use Rattle.wjs_forms.specs.declared.forms.Move.TheVariants as moves
use Rattle.wjs_forms.specs.Classes.{class_of, class_at, is_name}
use Rattle.wjs_forms.specs.Table.{unless, after_update, behind, ends}
use Rattle.wjs_forms.specs.Moves.{named_key, dotted, value}
use Rattle.wjs_forms.specs.States.{State, state, start, top, act, below, step, step_at, Runs, halts, goes, Accepts}
use Rattle.wjs_forms.specs.Spells.{Spells}
use Rattle.wjs_forms.proofs.Tops.{unless_is}
use Rattle.wjs_forms.proofs.Runs.{class_here, joined_here}
use Rattle.wjs_forms.proofs.Endings.{continues_name_class, Ended}
use Rattle.wjs_forms.proofs.Follows.{target_high}
use Rattle.wjs_forms.proofs.Standing.{Has, Is, has_token, name_is}
use Rattle.wjs_forms.proofs.Rests.{Rests, Nested, Reading, Whole, First, BodyRest, CompleteRest, BlockRest, ElementsRest, ClausesRest, ClauseRest, CaughtRest, TriedRest, CatchOpenRest, CatchNameRest, CatchCloseRest, EachRest, UpdateRest, TestRest, InitRest, MoreRest, NamedRest, VarEnd, HeaderEnd, ListRest, HaveRest, WantRest, BraceRest, FormalBehindRest, FormalOrEndRest, FormalsRest, NameOrFormalsRest, DeclaredNameRest, NameRest, rests, RestOf, Rest, value_rest as ValueRest, arguments_rest, items_rest, properties_rest, colon_rest, label_rest, named_rest, for_named_rest, test_rest, update_rest, clauses_rest}
use Rattle.wjs_forms.proofs.SpelledEnds.{ends_as}
use Rattle.wjs_forms.proofs.SpelledExpr.{back, got, operand_rest, value_rest, init_value_rest, more_name}
use Rattle.wjs_forms.proofs.SpelledStmt.{label, nil_clauses, case_clauses, default_clauses}
use Rattle.wjs_forms.proofs.Beginnings.{is_brace}
use Rattle.wjs_forms.proofs.Taken.{free_in}
use Rattle.wjs_forms.proofs.SpelledLists.{whole_stmt, statement_rest, listed_rest, done_rest, complete_rest}
use Rattle.wjs_forms.proofs.SpelledBehind.{behind_rest, have_rest}
use Rattle.wjs_forms.proofs.Folding.{accepts_runs, past_end, within}

-- What the end of the tokens does: it ends the program alone.
done_end : (s : List Form) (j : Bool) (r : State) → step classes.End j s controls.Done ≡ Some r → r ≡ state controls.Accepted []
done_end [] j r h = cc
done_end (forms.Then ∷ s) j r h = done_end s j r h
done_end (forms.Do ∷ s) j r h = cc
done_end (_ ∷ s) j r h = cc

ends_end : (s : List Form) (j : Bool) (r : State) → act (ends (top s) classes.End) s (λ d. below classes.End j s d) ≡ Some r → r ≡ state controls.Accepted []
ends_end [] j r h = cc
ends_end (forms.Value ∷ s) j r h = done_end s j r h
ends_end (forms.Var ∷ s) j r h = done_end s j r h
ends_end (_ ∷ s) j r h = cc

behind_end : (s : List Form) (j : Bool) (r : State) → step classes.End j s controls.Behind ≡ Some r → r ≡ state controls.Accepted []
behind_end [] j r h = cc
behind_end (forms.New ∷ s) j r h = behind_end s j r h
behind_end (f ∷ s) j r h = ends_end (f ∷ s) j r h

have_end : (s : List Form) (p : Place) (t : Bool) (j : Bool) (r : State) → step classes.End j s (controls.Have p t) ≡ Some r → r ≡ state controls.Accepted []
have_end [] p true j r h = cc
have_end [] p false j r h = behind_end [] j r (unless_is (after_update p) (behind None classes.End) [] (λ d. below classes.End j [] d) r h)
have_end (forms.New ∷ s) p t j r h = behind_end s j r (unless_is (after_update p) (moves.Again controls.Behind) (forms.New ∷ s) (λ d. below classes.End j (forms.New ∷ s) d) r h)
have_end (f ∷ s) p true j r h = behind_end (f ∷ s) j r h
have_end (f ∷ s) p false j r h = behind_end (f ∷ s) j r (unless_is (after_update p) (behind (Some f) classes.End) (f ∷ s) (λ d. below classes.End j (f ∷ s) d) r h)

list_end : (s : List Form) (j : Bool) (r : State) → step classes.End j s controls.List ≡ Some r → r ≡ state controls.Accepted []
list_end [] j r h = cc
list_end (_ ∷ s) j r h = cc

end_is : (c : Control) (s : List Form) (j : Bool) (r : State) → step classes.End j s c ≡ Some r → r ≡ state controls.Accepted []
end_is (controls.Have p t) s j r h = have_end s p t j r h
end_is controls.Behind s j r h = behind_end s j r h
end_is controls.List s j r h = list_end s j r h
end_is controls.Done s j r h = done_end s j r h
end_is controls.Complete s j r h = done_end s j r h
end_is controls.NameOrLabel s j r h = have_end s places.Whole true j r h
end_is controls.Named s j r h = ends_end s j r h
end_is controls.ForNamed s j r h = ends_end s j r h
end_is controls.LabelOrEnd s j r h = done_end s j r h
end_is controls.ValueOrEnd s j r h = done_end s j r h
end_is controls.FinallyOrDone s j r h = done_end s j r h
end_is controls.JoinedValue s true r h = cc
end_is controls.JoinedValue s false r h = cc
end_is _ s j r h = cc

module _ (toks : List Tok) where
  two : (P : ℕ → Type 0) (i : ℕ) → P (i + 1 + 1) → P (i + 2)
  two P i h = subst P (let q : i + 1 + 1 ≡ i + 2 = omega arith in q) h

  dot_rest : (b : Bool) (p : Place) (k : Class) (i : ℕ) (s : List Form) (g : Control → Option State) (r : State) → is_name k ≡ b → Has toks i k → act (dotted b p) s g ≡ Some r → Rest toks r (i + 1) → RestOf toks (controls.Dot p) s i
  dot_rest true p classes.End i s g r q w h n = cc
  dot_rest true p classes.Word i s g r q w h n = let x = name_is w.0 (ap is_name w.2 ∙ q) in (x.0, w.1 ∙ ap Some x.1, back toks (controls.Have p true) s r (i + 1) h n)
  dot_rest true p _ i s g r q w h n = let x = name_is w.0 (ap is_name w.2 ∙ q) in (x.0, w.1 ∙ ap Some x.1, back toks (controls.Have p true) s r (i + 1) h n)
  dot_rest false p k i s g r q w h n = cc

  -- an argument, and what is behind it
  argument_value : (p : Place) (s : List Form) (i : ℕ) → First toks (rests toks (forms.Arguments p ∷ s)).core i → arguments_rest toks (forms.Arguments p ∷ s) i
  argument_value p s i x =
      let y = x.then x.tree i x.reading x.plain (λ a b. absurd (let c : false ≡ true = a in cc)) in
      let m = y.then in
      (Argument y.tree m.0, m.1, (y.reading.binds, y.reading.formed, m.2), (y.end, y.reading.stands, m.3), m.4, m.5)

  argument_rest : (s : List Form) (k : Class) (i : ℕ) (j : Bool) (r : State) → Has toks i k → step k j s controls.ArgumentOrEnd ≡ Some r → Rest toks r (i + 1) → arguments_rest toks s i
  argument_rest [] k i j r w h n = tt
  argument_rest (forms.Arguments p ∷ s) classes.CloseParen i j r w h n = (NoArgument, i, tt, refl, got toks i classes.CloseParen (tokens.Sign signs.CloseParen) w, back toks (controls.Have p false) s r (i + 1) h n)
  argument_rest (forms.Arguments p ∷ s) k i j r w h n = argument_value p s i (operand_rest toks k i places.First (forms.Arguments p ∷ s) (λ d. below k j (forms.Arguments p ∷ s) d) r w h n)
  argument_rest (_ ∷ s) k i j r w h n = tt

  item_value : (p : Place) (s : List Form) (i : ℕ) → First toks (rests toks (forms.Array p ∷ s)).core i → items_rest toks (forms.Array p ∷ s) i
  item_value p s i x = pick (x.then x.tree i x.reading x.plain (λ a b. absurd (let c : false ≡ true = a in cc)))
    where
      pick : Whole toks (rests toks (forms.Array p ∷ s)).core i → items_rest toks (forms.Array p ∷ s) i
      pick y = elim (y.then) [
        | inl z ↦ (LastItem y.tree, y.end, (y.reading.binds, y.reading.formed), y.reading.stands, z.0, z.1)
        | inr z ↦ (let m = z.1 in (Item y.tree m.0, m.1, (y.reading.binds, y.reading.formed, m.2), (y.end, y.reading.stands, z.0, m.3), m.4, m.5))
      ]

  item_rest : (s : List Form) (k : Class) (i : ℕ) (j : Bool) (r : State) → Has toks i k → step k j s controls.Item ≡ Some r → Rest toks r (i + 1) → items_rest toks s i
  item_rest [] k i j r w h n = tt
  item_rest (forms.Array p ∷ s) classes.CloseBracket i j r w h n = (NoItem, i, tt, refl, got toks i classes.CloseBracket (tokens.Sign signs.CloseBracket) w, back toks (controls.Have p false) s r (i + 1) h n)
  item_rest (forms.Array p ∷ s) classes.Comma i j r w h n =
      let m = back toks controls.Item (forms.Array p ∷ s) r (i + 1) h n in
      (Hole m.0, m.1, m.2, (got toks i classes.Comma (tokens.Sign signs.Comma) w, m.3), m.4, m.5)
  item_rest (forms.Array p ∷ s) k i j r w h n = item_value p s i (operand_rest toks k i places.First (forms.Array p ∷ s) (λ d. below k j (forms.Array p ∷ s) d) r w h n)
  item_rest (_ ∷ s) k i j r w h n = tt

  -- a property from its name on
  property_value : (p : Place) (s : List Form) (i : ℕ) (t : Token) → HasToken toks i t → (key : PropertyKey) → t ≡ property_token key → colon_rest toks (forms.Object p ∷ s) (i + 1) → properties_rest toks (forms.Object p ∷ s) i
  property_value p s i t h key q x = pick x.1
    where
      name : HasToken toks i (property_token key)
      name = h ∙ ap Some q

      pick : Whole toks (rests toks (forms.Object p ∷ s)).core (i + 1 + 1) → properties_rest toks (forms.Object p ∷ s) i
      pick y = elim (y.then) [
        | inl z ↦ (LastProperty key y.tree, y.end, (y.reading.binds, y.reading.formed), (name, x.0, two (λ v. Stands toks y.tree v y.end) i y.reading.stands), z.0, z.1)
        | inr z ↦ (let m = z.1 in (Property key y.tree m.0, m.1, (y.reading.binds, y.reading.formed, m.2), (y.end, name, x.0, two (λ v. Stands toks y.tree v y.end) i y.reading.stands, z.0, m.3), m.4, m.5))
      ]

  key_rest : (b : Bool) (k : Class) (p : Place) (s : List Form) (i : ℕ) (g : Control → Option State) (r : State) → is_name k ≡ b → Has toks i k → act (named_key b) (forms.Object p ∷ s) g ≡ Some r → Rest toks r (i + 1) → properties_rest toks (forms.Object p ∷ s) i
  key_rest true classes.End p s i g r q w h n = cc
  key_rest true classes.Word p s i g r q w h n = let x = name_is w.0 (ap is_name w.2 ∙ q) in property_value p s i w.0 w.1 (property_keys.Spelt x.0) x.1 (back toks controls.KeyColon (forms.Object p ∷ s) r (i + 1) h n)
  key_rest true _ p s i g r q w h n = let x = name_is w.0 (ap is_name w.2 ∙ q) in property_value p s i w.0 w.1 (property_keys.Spelt x.0) x.1 (back toks controls.KeyColon (forms.Object p ∷ s) r (i + 1) h n)
  key_rest false k p s i g r q w h n = cc

  property_rest : (s : List Form) (k : Class) (i : ℕ) (j : Bool) (r : State) → Has toks i k → step k j s controls.KeyOrEnd ≡ Some r → Rest toks r (i + 1) → properties_rest toks s i
  property_rest [] k i j r w h n = tt
  property_rest (forms.Object p ∷ s) classes.CloseBrace i j r w h n = (NoProperty, i, tt, refl, got toks i classes.CloseBrace (tokens.Sign signs.CloseBrace) w, back toks (controls.Have p false) s r (i + 1) h n)
  property_rest (forms.Object p ∷ s) classes.Literal i j r w h n =
      property_value p s i w.0 w.1 w.3.1 w.3.2 (back toks controls.KeyColon (forms.Object p ∷ s) r (i + 1) h n)
  property_rest (forms.Object p ∷ s) k i j r w h n = key_rest (is_name k) k p s i (λ d. below k j (forms.Object p ∷ s) d) r refl w h n
  property_rest (_ ∷ s) k i j r w h n = tt

  first_held : (p : Place) (s : List Form) (i : ℕ) → First toks (rests toks (forms.Object p ∷ s)).core i → Whole toks (rests toks (forms.Object p ∷ s)).core i
  first_held p s i x = x.then x.tree i x.reading x.plain (λ a b. absurd (let c : false ≡ true = a in cc))

  key_colon_rest : (s : List Form) (k : Class) (i : ℕ) (j : Bool) (r : State) → Has toks i k → step k j s controls.KeyColon ≡ Some r → Rest toks r (i + 1) → colon_rest toks s i
  key_colon_rest [] k i j r w h n = tt
  key_colon_rest (forms.Object p ∷ s) classes.Colon i j r w h n = (got toks i classes.Colon (tokens.Sign signs.Colon) w, first_held p s (i + 1) (back toks (controls.Want places.First) (forms.Object p ∷ s) r (i + 1) h n))
  key_colon_rest (forms.Object p ∷ s) _ i j r w h n = cc
  key_colon_rest (_ ∷ s) k i j r w h n = tt

  function_rest : (k : Class) (i : ℕ) (j : Bool) (s : List Form) (r : State) → Has toks i k → step k j s controls.NameOrFormals ≡ Some r → Rest toks r (i + 1) → NameOrFormalsRest toks s i
  function_rest classes.Word i j s r w h n = (Some w.3.0, i + 1, (w.1 ∙ ap Some w.3.1, refl), back toks controls.Formals s r (i + 1) h n)
  function_rest classes.OpenParen i j s r w h n = (None, i, refl, (got toks i classes.OpenParen (tokens.Sign signs.OpenParen) w, back toks controls.FormalOrEnd s r (i + 1) h n))
  function_rest _ i j s r w h n = cc

  declared_rest : (k : Class) (i : ℕ) (j : Bool) (s : List Form) (r : State) → Has toks i k → step k j s controls.DeclaredName ≡ Some r → Rest toks r (i + 1) → DeclaredNameRest toks s i
  declared_rest classes.Word i j s r w h n = (w.3.0, w.1 ∙ ap Some w.3.1, back toks controls.Formals s r (i + 1) h n)
  declared_rest _ i j s r w h n = cc

  formals_rest : (k : Class) (i : ℕ) (j : Bool) (s : List Form) (r : State) → Has toks i k → step k j s controls.Formals ≡ Some r → Rest toks r (i + 1) → FormalsRest toks s i
  formals_rest classes.OpenParen i j s r w h n = (got toks i classes.OpenParen (tokens.Sign signs.OpenParen) w, back toks controls.FormalOrEnd s r (i + 1) h n)
  formals_rest _ i j s r w h n = cc

  formal_or_end_rest : (k : Class) (i : ℕ) (j : Bool) (s : List Form) (r : State) → Has toks i k → step k j s controls.FormalOrEnd ≡ Some r → Rest toks r (i + 1) → FormalOrEndRest toks s i
  formal_or_end_rest classes.Word i j s r w h n =
      let x = back toks controls.FormalBehind s r (i + 1) h n in
      (w.3.0 ∷ x.0, x.1, (w.1 ∙ ap Some w.3.1, x.2), x.3, x.4)
  formal_or_end_rest classes.CloseParen i j s r w h n = ([], i, refl, got toks i classes.CloseParen (tokens.Sign signs.CloseParen) w, back toks controls.Brace s r (i + 1) h n)
  formal_or_end_rest _ i j s r w h n = cc

  formal_behind_rest : (k : Class) (i : ℕ) (j : Bool) (s : List Form) (r : State) → Has toks i k → step k j s controls.FormalBehind ≡ Some r → Rest toks r (i + 1) → FormalBehindRest toks s i
  formal_behind_rest classes.Comma i j s r w h n =
      let x = back toks controls.Formal s r (i + 1) h n in
      let y = two (FormalBehindRest toks s) i x.2 in
      (x.0 ∷ y.0, y.1, (got toks i classes.Comma (tokens.Sign signs.Comma) w, x.1, y.2), y.3, y.4)
  formal_behind_rest classes.CloseParen i j s r w h n = ([], i, refl, got toks i classes.CloseParen (tokens.Sign signs.CloseParen) w, back toks controls.Brace s r (i + 1) h n)
  formal_behind_rest _ i j s r w h n = cc

  formal_rest : (k : Class) (i : ℕ) (j : Bool) (s : List Form) (r : State) → Has toks i k → step k j s controls.Formal ≡ Some r → Rest toks r (i + 1) → RestOf toks controls.Formal s i
  formal_rest classes.Word i j s r w h n = (w.3.0, w.1 ∙ ap Some w.3.1, back toks controls.FormalBehind s r (i + 1) h n)
  formal_rest _ i j s r w h n = cc

  brace_rest : (k : Class) (i : ℕ) (j : Bool) (s : List Form) (r : State) → Has toks i k → step k j s controls.Brace ≡ Some r → Rest toks r (i + 1) → BraceRest toks s i
  brace_rest classes.OpenBrace i j s r w h n = (got toks i classes.OpenBrace (tokens.Sign signs.OpenBrace) w, back toks controls.List s r (i + 1) h n)
  brace_rest _ i j s r w h n = cc

  -- behind a name that begins a statement
  value_label : (s : List Form) (i : ℕ) (x : TextId) (j : ℕ) → i ≡ j + 1 → HasToken toks j (tokens.Word x) → HaveRest toks (rests toks (forms.Value ∷ s)) places.Whole true i → BodyRest toks (rests toks s).done j
  value_label s i x j q t f =
      let y = f (Name x) j (record { binds = omega arith; formed = tt; stands = (t, q) }) refl in
      whole_stmt toks j s (ap is_brace (ap class_at t)) y

  name_or_label_rest : (s : List Form) (k : Class) (i : ℕ) (j : Bool) (r : State) → joined_here toks i ≡ j → class_here toks i ≡ k → Has toks i k → step k j s controls.NameOrLabel ≡ Some r → Rest toks r (i + 1) → label_rest toks s i
  name_or_label_rest [] k i j r u q w h n = tt
  name_or_label_rest (forms.Value ∷ s) classes.Colon i j r u q w h n = λ x b e t.
      label toks (rests toks s).done b x t (subst (λ (v : ℕ). HasSign toks v signs.Colon) e (got toks i classes.Colon (tokens.Sign signs.Colon) w))
      (subst (BodyRest toks (rests toks s).done) (let y : i + 1 ≡ b + 2 = omega arith in y) (back toks controls.Body s r (i + 1) h n))
  name_or_label_rest (forms.Value ∷ s) k i j r u q w h n = λ x b e t. value_label s i x b e t (have_rest toks k places.Whole true i j (forms.Value ∷ s) r u q w h n)
  name_or_label_rest (_ ∷ s) k i j r u q w h n = tt

  open_rest : (k : Class) (i : ℕ) (j : Bool) (s : List Form) (r : State) → Has toks i k → step k j s controls.Open ≡ Some r → Rest toks r (i + 1) → RestOf toks controls.Open s i
  open_rest classes.OpenParen i j s r w h n = (got toks i classes.OpenParen (tokens.Sign signs.OpenParen) w, back toks (controls.Want places.Whole) s r (i + 1) h n)
  open_rest _ i j s r w h n = cc

  name_rest : (k : Class) (i : ℕ) (j : Bool) (s : List Form) (r : State) → Has toks i k → step k j s controls.Name ≡ Some r → Rest toks r (i + 1) → NameRest toks s i
  name_rest classes.Word i j s r w h n = (w.3.0, w.1 ∙ ap Some w.3.1, back toks controls.Named s r (i + 1) h n)
  name_rest _ i j s r w h n = cc

  -- behind the name of a variable
  var_named : (k : Class) (i : ℕ) (j : Bool) (s : List Form) (r : State) → joined_here toks i ≡ j → class_here toks i ≡ k → Has toks i k → step k j (forms.Var ∷ s) controls.Named ≡ Some r → Rest toks r (i + 1) → NamedRest toks false (VarEnd toks (rests toks s).done) i
  var_named classes.Assign i j s r u q w h n =
      let x = back toks (controls.Want places.First) (forms.Var ∷ s) r (i + 1) h n in
      let y = x.then x.tree (i + 1) x.reading x.plain (λ a b. absurd (let c : false ≡ true = a in cc)) in
      (Present y.tree, y.end, (y.reading.binds, y.reading.formed), (got toks i classes.Assign (tokens.Sign signs.Assign) w, y.reading.stands), y.then)
  var_named classes.Comma i j s r u q w h n =
      let x = back toks controls.Name (forms.Var ∷ s) r (i + 1) h n in
      (Absent, i, tt, refl, more_name toks false (VarEnd toks (rests toks s).done) InName i (got toks i classes.Comma (tokens.Sign signs.Comma) w) x.0 x.1 (two (λ v. RestOf toks controls.Named (forms.Var ∷ s) v) i x.2))
  var_named k i j s r u q w h n =
      let c = complete_rest toks k i j s r u q w h n in
      (Absent, i, tt, refl, (NoVariable, i, tt, refl, (c.0, c.1, ends_as toks InName c.0 i c.1 (ap continues_name_class q) c.2, c.3)))

  header_named : (k : Class) (i : ℕ) (j : Bool) (s : List Form) (r : State) → Has toks i k → step k j (forms.ForVar ∷ s) controls.Named ≡ Some r → Rest toks r (i + 1) → NamedRest toks true (HeaderEnd toks (rests toks s).done) i
  header_named classes.Assign i j s r w h n =
      let x = back toks (controls.Want places.First) (forms.ForVar ∷ s) r (i + 1) h n in
      let y = x.then x.tree (i + 1) x.reading x.plain (λ a b. absurd (let c : false ≡ true = a in cc)) in
      (Present y.tree, y.end, (y.reading.binds, y.reading.formed), (got toks i classes.Assign (tokens.Sign signs.Assign) w, y.reading.stands), y.then)
  header_named classes.Comma i j s r w h n =
      let x = back toks controls.Name (forms.ForVar ∷ s) r (i + 1) h n in
      (Absent, i, tt, refl, more_name toks true (HeaderEnd toks (rests toks s).done) InName i (got toks i classes.Comma (tokens.Sign signs.Comma) w) x.0 x.1 (two (λ v. RestOf toks controls.Named (forms.ForVar ∷ s) v) i x.2))
  header_named classes.Semicolon i j s r w h n =
      (Absent, i, tt, refl, (NoVariable, i, tt, refl, (got toks i classes.Semicolon (tokens.Sign signs.Semicolon) w, back toks controls.Test (forms.ForTest ∷ s) r (i + 1) h n)))
  header_named _ i j s r w h n = cc

  named_any : (s : List Form) (k : Class) (i : ℕ) (j : Bool) (r : State) → joined_here toks i ≡ j → class_here toks i ≡ k → Has toks i k → step k j s controls.Named ≡ Some r → Rest toks r (i + 1) → named_rest toks s i
  named_any [] k i j r u q w h n = tt
  named_any (forms.Var ∷ s) k i j r u q w h n = var_named k i j s r u q w h n
  named_any (forms.ForVar ∷ s) k i j r u q w h n = header_named k i j s r w h n
  named_any (_ ∷ s) k i j r u q w h n = tt

  -- what a header visits
  each_rest : (s : List Form) (r : State) (i : ℕ) → Whole toks (rests toks (forms.Header ∷ s)).core i → EachRest toks (rests toks s).done i
  each_rest s r i y = (y.tree, y.end, y.reading.formed, y.reading.stands, y.then.0, y.then.1)

  for_named_any : (s : List Form) (k : Class) (i : ℕ) (j : Bool) (r : State) → Has toks i k → step k j s controls.ForNamed ≡ Some r → Rest toks r (i + 1) → for_named_rest toks s i
  for_named_any [] k i j r w h n = tt
  for_named_any (forms.ForVar ∷ s) classes.In i j r w h n = inl (got toks i classes.In (tokens.Key keys.In) w, each_rest s r (i + 1) (back toks (controls.Want places.Whole) (forms.Header ∷ s) r (i + 1) h n))
  for_named_any (forms.ForVar ∷ s) k i j r w h n = inr (header_named k i j s r w h n)
  for_named_any (_ ∷ s) k i j r w h n = tt

  for_name_rest : (k : Class) (i : ℕ) (j : Bool) (s : List Form) (r : State) → Has toks i k → step k j s controls.ForName ≡ Some r → Rest toks r (i + 1) → RestOf toks controls.ForName s i
  for_name_rest classes.Word i j s r w h n = (w.3.0, w.1 ∙ ap Some w.3.1, back toks controls.ForNamed s r (i + 1) h n)
  for_name_rest _ i j s r w h n = cc

  for_open_rest : (k : Class) (i : ℕ) (j : Bool) (s : List Form) (r : State) → Has toks i k → step k j s controls.ForOpen ≡ Some r → Rest toks r (i + 1) → RestOf toks controls.ForOpen s i
  for_open_rest classes.OpenParen i j s r w h n = (got toks i classes.OpenParen (tokens.Sign signs.OpenParen) w, back toks controls.Init s r (i + 1) h n)
  for_open_rest _ i j s r w h n = cc

  -- an expression first in a header
  init_value : (s : List Form) (i : ℕ) → Whole toks (rests toks (forms.ForInit ∷ s)).core i → InitRest toks (rests toks s).done i
  init_value s i y = elim (y.then) [
    | inl z ↦ inl (InitExpr y.tree, y.end, y.reading.formed, y.reading.stands, z.0, z.1)
    | inr z ↦ (let l = target_high true y.tree z.0 y.reading.formed in inr (inl (y.tree, y.end, z.0, (let v : 15 ≤ level y.tree = omega arith in v), free_in true false y.tree (let v : 15 ≤ level y.tree = omega arith in v) y.reading.formed, y.reading.stands, z.1, z.2)))
  ]

  -- declared variables first in a header
  init_var : (s : List Form) (i : ℕ) → HasKey toks i keys.Var → (x : TextId) → HasToken toks (i + 1) (tokens.Word x) → for_named_rest toks (forms.ForVar ∷ s) (i + 2) → InitRest toks (rests toks s).done i
  init_var s i k x t (inl z) = inr (inr (x, k, t, z.0, subst (EachRest toks (rests toks s).done) (let v : i + 2 + 1 ≡ i + 3 = omega arith in v) z.1))
  init_var s i k x t (inr n) =
      let more = n.4 in
      inl (InitVar (Variable x n.0 more.0), more.1, (tt, (n.2, more.2)), (k, (n.1, t, subst (λ (v : ℕ). InitialiserStands toks n.0 v n.1) (let q : i + 2 ≡ i + 1 + 1 = omega arith in q) n.3, more.3)), more.4.0, more.4.1)

  init_rest : (k : Class) (i : ℕ) (j : Bool) (s : List Form) (r : State) → Has toks i k → step k j s controls.Init ≡ Some r → Rest toks r (i + 1) → InitRest toks (rests toks s).done i
  init_rest classes.Semicolon i j s r w h n = inl (NoInit, i, tt, refl, got toks i classes.Semicolon (tokens.Sign signs.Semicolon) w, back toks controls.Test (forms.ForTest ∷ s) r (i + 1) h n)
  init_rest classes.Var i j s r w h n =
      let x = back toks controls.ForName (forms.ForVar ∷ s) r (i + 1) h n in
      init_var s i (got toks i classes.Var (tokens.Key keys.Var) w) x.0 x.1 (two (for_named_rest toks (forms.ForVar ∷ s)) i x.2)
  init_rest k i j s r w h n = init_value s i (init_value_rest toks k i s (λ d. below k j s d) r w h n)

  test_any : (s : List Form) (k : Class) (i : ℕ) (j : Bool) (r : State) → Has toks i k → step k j s controls.Test ≡ Some r → Rest toks r (i + 1) → test_rest toks s i
  test_any [] k i j r w h n = tt
  test_any (forms.ForTest ∷ s) classes.Semicolon i j r w h n = (Absent, i, tt, refl, got toks i classes.Semicolon (tokens.Sign signs.Semicolon) w, back toks controls.Update (forms.Header ∷ s) r (i + 1) h n)
  test_any (forms.ForTest ∷ s) k i j r w h n =
      let y = operand_rest toks k i places.Whole (forms.ForTest ∷ s) (λ d. below k j (forms.ForTest ∷ s) d) r w h n in
      (Present y.tree, y.end, y.reading.formed, y.reading.stands, y.then.0, y.then.1)
  test_any (_ ∷ s) k i j r w h n = tt

  update_any : (s : List Form) (k : Class) (i : ℕ) (j : Bool) (r : State) → Has toks i k → step k j s controls.Update ≡ Some r → Rest toks r (i + 1) → update_rest toks s i
  update_any [] k i j r w h n = tt
  update_any (forms.Header ∷ s) classes.CloseParen i j r w h n = (Absent, i, tt, refl, got toks i classes.CloseParen (tokens.Sign signs.CloseParen) w, back toks controls.Body s r (i + 1) h n)
  update_any (forms.Header ∷ s) k i j r w h n =
      let y = operand_rest toks k i places.Whole (forms.Header ∷ s) (λ d. below k j (forms.Header ∷ s) d) r w h n in
      (Present y.tree, y.end, y.reading.formed, y.reading.stands, y.then.0, y.then.1)
  update_any (_ ∷ s) k i j r w h n = tt

  jump_rest : (k : Class) (i : ℕ) (j : Bool) (s : List Form) (r : State) → joined_here toks i ≡ j → class_here toks i ≡ k → Has toks i k → step k j s controls.LabelOrEnd ≡ Some r → Rest toks r (i + 1) → RestOf toks controls.LabelOrEnd s i
  jump_rest classes.Word i true s r u q w h n = (Some w.3.0, i + 1, (w.1 ∙ ap Some w.3.1, u, refl), back toks controls.Complete s r (i + 1) h n)
  jump_rest classes.Word i false s r u q w h n = (None, i, refl, complete_rest toks classes.Word i false s r u q w h n)
  jump_rest k i j s r u q w h n = (None, i, refl, complete_rest toks k i j s r u q w h n)

  return_rest : (k : Class) (i : ℕ) (j : Bool) (s : List Form) (r : State) → joined_here toks i ≡ j → class_here toks i ≡ k → Has toks i k → step k j s controls.ValueOrEnd ≡ Some r → Rest toks r (i + 1) → RestOf toks controls.ValueOrEnd s i
  return_rest classes.Semicolon i j s r u q w h n = inl (complete_rest toks classes.Semicolon i j s r u q w h n)
  return_rest classes.CloseBrace i j s r u q w h n = inl (complete_rest toks classes.CloseBrace i j s r u q w h n)
  return_rest classes.End i j s r u q w h n = inl (complete_rest toks classes.End i j s r u q w h n)
  return_rest k i true s r u q w h n = inr (u, value_rest toks k i s (λ d. below k true s d) r w h n)
  return_rest k i false s r u q w h n = inl (complete_rest toks k i false s r u q w h n)

  throw_rest : (k : Class) (i : ℕ) (j : Bool) (s : List Form) (r : State) → joined_here toks i ≡ j → Has toks i k → step k j s controls.JoinedValue ≡ Some r → Rest toks r (i + 1) → RestOf toks controls.JoinedValue s i
  throw_rest k i true s r u w h n = (u, value_rest toks k i s (λ d. below k true s d) r w h n)
  throw_rest k i false s r u w h n = cc

  block_at : (s : List Form) (i : ℕ) → BraceRest toks (forms.Block ∷ s) (i + 1) → HasSign toks (i + 1) signs.OpenBrace × BlockRest toks (rests toks s).done (i + 2)
  block_at s i x = (x.0, two (BlockRest toks (rests toks s).done) i (x.1 refl))

  tried_rest : (k : Class) (i : ℕ) (j : Bool) (s : List Form) (r : State) → Has toks i k → step k j s controls.CatchOrFinally ≡ Some r → Rest toks r (i + 1) → TriedRest toks (rests toks s).done i
  tried_rest classes.Catch i j s r w h n = inl (got toks i classes.Catch (tokens.Key keys.Catch) w, back toks controls.CatchOpen s r (i + 1) h n)
  tried_rest classes.Finally i j s r w h n =
      let x = block_at s i (back toks controls.Brace (forms.Block ∷ s) r (i + 1) h n) in
      inr (got toks i classes.Finally (tokens.Key keys.Finally) w, x.0, x.1)
  tried_rest _ i j s r w h n = cc

  catch_open_rest : (k : Class) (i : ℕ) (j : Bool) (s : List Form) (r : State) → Has toks i k → step k j s controls.CatchOpen ≡ Some r → Rest toks r (i + 1) → CatchOpenRest toks (rests toks s).done i
  catch_open_rest classes.OpenParen i j s r w h n = (got toks i classes.OpenParen (tokens.Sign signs.OpenParen) w, back toks controls.CatchName s r (i + 1) h n)
  catch_open_rest _ i j s r w h n = cc

  catch_name_rest : (k : Class) (i : ℕ) (j : Bool) (s : List Form) (r : State) → Has toks i k → step k j s controls.CatchName ≡ Some r → Rest toks r (i + 1) → CatchNameRest toks (rests toks s).done i
  catch_name_rest classes.Word i j s r w h n = (w.3.0, w.1 ∙ ap Some w.3.1, back toks controls.CatchClose s r (i + 1) h n)
  catch_name_rest _ i j s r w h n = cc

  catch_close_rest : (k : Class) (i : ℕ) (j : Bool) (s : List Form) (r : State) → Has toks i k → step k j s controls.CatchClose ≡ Some r → Rest toks r (i + 1) → CatchCloseRest toks (rests toks s).done i
  catch_close_rest classes.CloseParen i j s r w h n =
      let x = back toks controls.Brace (forms.CatchBlock ∷ s) r (i + 1) h n in
      (got toks i classes.CloseParen (tokens.Sign signs.CloseParen) w, x.0, two (BlockRest toks (CaughtRest toks (rests toks s).done)) i (x.1 refl))
  catch_close_rest _ i j s r w h n = cc

  caught_rest : (k : Class) (i : ℕ) (j : Bool) (s : List Form) (r : State) → class_here toks i ≡ k → Has toks i k → step k j s controls.FinallyOrDone ≡ Some r → Rest toks r (i + 1) → CaughtRest toks (rests toks s).done i
  caught_rest classes.Finally i j s r q w h n =
      let x = block_at s i (back toks controls.Brace (forms.Block ∷ s) r (i + 1) h n) in
      inl (got toks i classes.Finally (tokens.Key keys.Finally) w, x.0, x.1)
  caught_rest k i j s r q w h n = inr (done_rest toks s k i j r q w h n)

  switch_rest : (k : Class) (i : ℕ) (j : Bool) (s : List Form) (r : State) → Has toks i k → step k j s controls.SwitchBrace ≡ Some r → Rest toks r (i + 1) → RestOf toks controls.SwitchBrace s i
  switch_rest classes.OpenBrace i j s r w h n = (got toks i classes.OpenBrace (tokens.Sign signs.OpenBrace) w, back toks controls.ClauseOrEnd s r (i + 1) h n)
  switch_rest _ i j s r w h n = cc

  clause_rest : (s : List Form) (k : Class) (i : ℕ) (j : Bool) (r : State) → Has toks i k → step k j s controls.ClauseOrEnd ≡ Some r → Rest toks r (i + 1) → clauses_rest toks s i
  clause_rest [] k i j r w h n = tt
  clause_rest (forms.Clauses ∷ s) classes.CloseBrace i j r w h n = nil_clauses toks (rests toks s).done i (got toks i classes.CloseBrace (tokens.Sign signs.CloseBrace) w) (back toks controls.Done s r (i + 1) h n)
  clause_rest (forms.Clauses ∷ s) classes.Case i j r w h n =
      let y = back toks (controls.Want places.Whole) (forms.CaseHead ∷ forms.Clauses ∷ s) r (i + 1) h n in
      case_clauses toks (rests toks s).done y.tree i y.end (got toks i classes.Case (tokens.Key keys.Case) w) y.reading.formed y.reading.stands y.then.0 (y.then.1 refl)
  clause_rest (forms.Clauses ∷ s) classes.Default i j r w h n =
      let y = back toks controls.DefaultColon (forms.Clauses ∷ s) r (i + 1) h n in
      default_clauses toks (rests toks s).done i (got toks i classes.Default (tokens.Key keys.Default) w) y.0 (two (ClauseRest toks (rests toks s).done) i (y.1 refl))
  clause_rest (forms.Clauses ∷ s) _ i j r w h n = cc
  clause_rest (_ ∷ s) k i j r w h n = tt

  default_rest : (k : Class) (i : ℕ) (j : Bool) (s : List Form) (r : State) → Has toks i k → step k j s controls.DefaultColon ≡ Some r → Rest toks r (i + 1) → RestOf toks controls.DefaultColon s i
  default_rest classes.Colon i j s r w h n = (got toks i classes.Colon (tokens.Sign signs.Colon) w, back toks controls.List s r (i + 1) h n)
  default_rest _ i j s r w h n = cc

  -- from one state to the one before
  rest_before : (c : Control) (k : Class) (i : ℕ) (j : Bool) (s : List Form) (r : State) → joined_here toks i ≡ j → class_here toks i ≡ k → Has toks i k → step k j s c ≡ Some r → Rest toks r (i + 1) → RestOf toks c s i
  rest_before (controls.Want p) k i j s r u q w h n = operand_rest toks k i p s (λ d. below k j s d) r w h n
  rest_before (controls.Have p t) k i j s r u q w h n = have_rest toks k p t i j s r u q w h n
  rest_before controls.Behind k i j s r u q w h n = behind_rest toks s k i j r u q w h n
  rest_before (controls.Dot p) k i j s r u q w h n = dot_rest (is_name k) p k i s (λ d. below k j s d) r refl w h n
  rest_before controls.ArgumentOrEnd k i j s r u q w h n = argument_rest s k i j r w h n
  rest_before controls.Item k i j s r u q w h n = item_rest s k i j r w h n
  rest_before controls.KeyOrEnd k i j s r u q w h n = property_rest s k i j r w h n
  rest_before controls.KeyColon k i j s r u q w h n = key_colon_rest s k i j r w h n
  rest_before controls.NameOrFormals k i j s r u q w h n = function_rest k i j s r w h n
  rest_before controls.DeclaredName k i j s r u q w h n = declared_rest k i j s r w h n
  rest_before controls.Formals k i j s r u q w h n = formals_rest k i j s r w h n
  rest_before controls.FormalOrEnd k i j s r u q w h n = formal_or_end_rest k i j s r w h n
  rest_before controls.FormalBehind k i j s r u q w h n = formal_behind_rest k i j s r w h n
  rest_before controls.Formal k i j s r u q w h n = formal_rest k i j s r w h n
  rest_before controls.Brace k i j s r u q w h n = brace_rest k i j s r w h n
  rest_before controls.List k i j s r u q w h n = λ l. listed_rest toks k i s (λ d. below k j s d) r l q w h n
  rest_before controls.Body k i j s r u q w h n = statement_rest toks k i s (λ d. below k j s d) r q w h n
  rest_before controls.Done k i j s r u q w h n = done_rest toks s k i j r q w h n
  rest_before controls.Complete k i j s r u q w h n = complete_rest toks k i j s r u q w h n
  rest_before controls.NameOrLabel k i j s r u q w h n = name_or_label_rest s k i j r u q w h n
  rest_before controls.Open k i j s r u q w h n = open_rest k i j s r w h n
  rest_before controls.Name k i j s r u q w h n = name_rest k i j s r w h n
  rest_before controls.Named k i j s r u q w h n = named_any s k i j r u q w h n
  rest_before controls.ForOpen k i j s r u q w h n = for_open_rest k i j s r w h n
  rest_before controls.Init k i j s r u q w h n = init_rest k i j s r w h n
  rest_before controls.ForName k i j s r u q w h n = for_name_rest k i j s r w h n
  rest_before controls.ForNamed k i j s r u q w h n = for_named_any s k i j r w h n
  rest_before controls.Test k i j s r u q w h n = test_any s k i j r w h n
  rest_before controls.Update k i j s r u q w h n = update_any s k i j r w h n
  rest_before controls.LabelOrEnd k i j s r u q w h n = jump_rest k i j s r u q w h n
  rest_before controls.ValueOrEnd k i j s r u q w h n = return_rest k i j s r u q w h n
  rest_before controls.JoinedValue k i j s r u q w h n = throw_rest k i j s r u w h n
  rest_before controls.CatchOrFinally k i j s r u q w h n = tried_rest k i j s r w h n
  rest_before controls.CatchOpen k i j s r u q w h n = catch_open_rest k i j s r w h n
  rest_before controls.CatchName k i j s r u q w h n = catch_name_rest k i j s r w h n
  rest_before controls.CatchClose k i j s r u q w h n = catch_close_rest k i j s r w h n
  rest_before controls.FinallyOrDone k i j s r u q w h n = caught_rest k i j s r q w h n
  rest_before controls.SwitchBrace k i j s r u q w h n = switch_rest k i j s r w h n
  rest_before controls.ClauseOrEnd k i j s r u q w h n = clause_rest s k i j r w h n
  rest_before controls.DefaultColon k i j s r u q w h n = default_rest k i j s r w h n
  rest_before controls.Accepted k i j s r u q w h n = cc

  rest_at : (i : ℕ) (s r : State) → Has toks i (class_here toks i) → step_at toks i s ≡ Some r → Rest toks r (i + 1) → Rest toks s i
  rest_at i s r w h n = rest_before s.control (class_here toks i) i (joined_here toks i) s.forms r refl refl w h n

  end_here : (i : ℕ) → token_at toks i ≡ None → Has toks i (class_here toks i)
  end_here i h = subst (λ (o : Option Token). Has toks i (class_at o)) (sym h) h

  token_here : (i : ℕ) (t : Token) → HasToken toks i t → Has toks i (class_here toks i)
  token_here i t h = subst (λ (o : Option Token). Has toks i (class_at o)) (sym h) (has_token toks i t h (class_of t) refl)

  end_rest : (i : ℕ) (r : State) → i ≡ length toks → r ≡ state controls.Accepted [] → Rest toks r (i + 1)
  end_rest i r h e = subst (λ (z : State). Rest toks z (i + 1)) (sym e) (let q : i + 1 ≡ length toks + 1 = omega arith in q)

  -- the end of the tokens, as the machine takes it
  end_step : (i : ℕ) (s r : State) → token_at toks i ≡ None → step_at toks i s ≡ Some r → step classes.End (joined_here toks i) s.forms s.control ≡ Some r
  end_step i s r h e = subst (λ (o : Option Token). step (class_at o) (joined_here toks i) s.forms s.control ≡ Some r) h e

  spelled : (i : ℕ) (s : State) → i ≤ length toks → Runs toks i s → Rest toks s i
  spelled i s le (halts r none e) =
      rest_at i s r (end_here i none) e (end_rest i r (let q = past_end toks i none in omega arith) (end_is s.control s.forms (joined_here toks i) r (end_step i s r none e)))
  spelled i s le (goes t r h e run) = rest_at i s r (token_here i t h) e (spelled (i + 1) r (let q = within toks i t h in omega arith) run)

pub taken_is_spelled : (toks : List Tok) → Accepts start toks → Spells toks
taken_is_spelled toks a =
    let w = spelled toks 0 start (omega arith) (accepts_runs toks toks 0 start refl a) refl in
    record { body = w.0; shaped = w.1; stands = w.2 }

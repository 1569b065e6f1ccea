-- Where the machine stops the offence is.
use Rattle.std.proofs.Common.{◌≡◌, ℕ, zero, suc, ◌+◌, ◌<◌, ◌≤◌, inl, inr, Bool, true, not, List, [], ◌∷◌, ◌++◌, length, take, Option, Some, None, slice_get, refl, sym, ap, ◌∙◌, subst, arith}
use Rattle.std.proofs.lemmas.List.{take_more, take_all}
use Rattle.std.proofs.lemmas.Option.{slice_get_within, slice_get_cases, get_or_from_slice_get}
use Rattle.wjs_base.proofs.Options.{same_there, none_there}
use Rattle.wjs_tree.specs.declared.tokens.Tok.{Tok}
use Rattle.wjs_forms.specs.declared.class.Class.{Class}
use Rattle.wjs_forms.specs.declared.class.Class.TheVariants as classes
use Rattle.wjs_forms.specs.Classes.{class_of}
use Rattle.wjs_offend.specs.declared.answer.Offence.{Offence}
use Rattle.wjs_offend.specs.declared.answer.Offence.TheVariants as offences
use Rattle.wjs_offend.specs.Offences.{IsOffence}
use Rattle.wjs_offend.specs.Taking.{Answers}
use Rattle.wjs_forms.specs.States.{State, start, step, step_tok, and_then, reach, MayEnd}
use Rattle.wjs_forms.specs.Spells.{Spells, Begins, SpelledIsTaken, TakenIsSpelled, GoesOn}

then_append : (o : Option State) (f g h : State → Option State) → ((r : State) → f r ≡ and_then (g r) h) → and_then o f ≡ and_then (and_then o g) h
then_append None f g h e = refl
then_append (Some r) f g h e = e r

reach_append : (xs ys : List Tok) (s : State) → reach (xs ++ ys) s ≡ and_then (reach xs s) (λ r. reach ys r)
reach_append [] ys s = refl
reach_append (t ∷ xs) ys s = then_append (step_tok t s) (λ r. reach (xs ++ ys) r) (λ r. reach xs r) (λ r. reach ys r) (λ r. reach_append xs ys r)

one_more : (toks : List Tok) (k : ℕ) (t : Tok) → slice_get toks k ≡ Some t → take (k + 1) toks ≡ take k toks ++ t ∷ []
one_more toks k t h = take_more toks k t (slice_get_within toks k t h) ∙ ap (λ (z : Tok). take k toks ++ z ∷ []) (get_or_from_slice_get toks k t t h)

-- the state behind one more token
pub reach_more : (toks : List Tok) (k : ℕ) (t : Tok) (s : State) (o : Option State) → slice_get toks k ≡ Some t → reach (take k toks) start ≡ Some s → step_tok t s ≡ o → reach (take (k + 1) toks) start ≡ o
reach_more toks k t s o h e f =
    ap (λ (z : List Tok). reach z start) (one_more toks k t h) ∙ reach_append (take k toks) (t ∷ []) start ∙ ap (λ (z : Option State). and_then z (λ r. reach (t ∷ []) r)) e ∙ last (step_tok t s) ∙ f
  where
    last : (z : Option State) → and_then z (λ r. Some r) ≡ z
    last None = refl
    last (Some r) = refl

-- what the call tells is the step of the token
pub answered : (t : Tok) (s new : State) (k : Class) (told taken : Bool) → k ≡ class_of t.token → told ≡ taken → Answers (step k (not t.after_line) s.forms s.control) told new → Answers (step_tok t s) taken new
answered t s new k told taken e f a = subst (λ (b : Bool). Answers (step_tok t s) b new) f (subst (λ (z : Class). Answers (step z (not t.after_line) s.forms s.control) told new) e a)

-- all the tokens were taken
pub ended_at : (toks : List Tok) (k : ℕ) (s : State) → k ≤ length toks → length toks ≤ k → reach (take k toks) start ≡ Some s → reach (take (length toks) toks) start ≡ Some s
ended_at toks k s a b e = subst (λ (z : ℕ). reach (take z toks) start ≡ Some s) (let q : k ≡ length toks = omega arith in q) e

module _ (taken : SpelledIsTaken) (spelled : TakenIsSpelled) (on : GoesOn) where
  begun : (toks : List Tok) (k : ℕ) (s : State) → reach (take k toks) start ≡ Some s → Begins toks k
  begun toks k s e =
      let w = on (take k toks) s e in
      record { more = w.0; spelled = spelled (take k toks ++ w.0) (w.1.0, reach_append (take k toks) w.0 start ∙ ap (λ (z : Option State). and_then z (λ r. reach w.0 r)) e ∙ w.1.1, w.1.2) }

  not_begun : (toks : List Tok) (k : ℕ) → reach (take k toks) start ≡ None → Begins toks k → ⊥
  not_begun toks k e b =
      let w = taken (take k toks ++ b.more) b.spelled in
      none_there _ w.0 (reach_append (take k toks) b.more start ∙ ap (λ (z : Option State). and_then z (λ r. reach b.more r)) e) w.1

  pub at_token : (toks : List Tok) (k : ℕ) (t : Tok) (s : State) → slice_get toks k ≡ Some t → reach (take k toks) start ≡ Some s → step_tok t s ≡ None → (k < length toks) × Begins toks k × (Begins toks (k + 1) → ⊥)
  at_token toks k t s h e f = (slice_get_within toks k t h, begun toks k s e, not_begun toks (k + 1) (reach_more toks k t s None h e f))

  all : (toks : List Tok) (s : State) → reach (take (length toks) toks) start ≡ Some s → reach toks start ≡ Some s
  all toks s e = ap (λ (z : List Tok). reach z start) (sym (take_all (length toks) toks (omega arith))) ∙ e

  pub at_end : (toks : List Tok) (s : State) → reach (take (length toks) toks) start ≡ Some s → step classes.End true s.forms s.control ≡ None → Begins toks (length toks) × (Spells toks → ⊥)
  at_end toks s e f = (begun toks (length toks) s e, λ w. ended w)
    where
      ended : Spells toks → ⊥
      ended w = let a = taken toks w in
          let m = subst MayEnd (same_there (reach toks start) a.0 s a.1 (all toks s e)) a.2 in
          none_there _ m.0 f m.1

  pub no_token : (toks : List Tok) (s r : State) → reach (take (length toks) toks) start ≡ Some s → step classes.End true s.forms s.control ≡ Some r → Spells toks
  no_token toks s r e f = spelled toks (s, all toks s e, (r, f))

  -- ---- each list of tokens has an offence: the machine stops somewhere

  stops_at : (toks : List Tok) (k : ℕ) (t : Tok) (s : State) → slice_get toks k ≡ Some t → reach (take k toks) start ≡ Some s → step_tok t s ≡ None → (o : Offence) × IsOffence toks o
  stops_at toks k t s h e f = (offences.At k, at_token toks k t s h e f)

  at_last : (toks : List Tok) (s : State) (o : Option State) → reach (take (length toks) toks) start ≡ Some s → step classes.End true s.forms s.control ≡ o → (p : Offence) × IsOffence toks p
  at_last toks s None e f = (offences.End, at_end toks s e f)
  at_last toks s (Some r) e f = (offences.NoToken, no_token toks s r e f)

  next_at : (toks : List Tok) (k : ℕ) (s : State) (t : Tok) (o : Option State) → slice_get toks k ≡ Some t → reach (take k toks) start ≡ Some s → step_tok t s ≡ o → ((r : State) → reach (take (k + 1) toks) start ≡ Some r → (p : Offence) × IsOffence toks p) → (p : Offence) × IsOffence toks p
  next_at toks k s t None h e f again = stops_at toks k t s h e f
  next_at toks k s t (Some r) h e f again = again r (reach_more toks k t s (Some r) h e f)

  -- from the state behind k tokens, with so many behind them
  found_from : (toks : List Tok) (left k : ℕ) (s : State) → k + left ≡ length toks → reach (take k toks) start ≡ Some s → (o : Offence) × IsOffence toks o
  found_from toks zero k s n e = at_last toks s (step classes.End true s.forms s.control) (ended_at toks k s (omega arith) (omega arith) e) refl
  found_from toks (suc left) k s n e = elim ((slice_get_cases toks k).1) [
    | inl here ↦ next_at toks k s here.0 (step_tok here.0 s) here.2 e refl (λ r g. found_from toks left (k + 1) r (omega arith) g)
    | inr past ↦ (let m = past.0 in absurd (omega arith))
  ]

  pub some_offence : (toks : List Tok) → (o : Offence) × IsOffence toks o
  some_offence toks = found_from toks (length toks) 0 start (omega arith) refl

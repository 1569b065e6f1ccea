-- Tokens that are alike have the same offence, on the same line.
use Rattle.std.proofs.Common.{◌≡◌, ℕ, zero, suc, ◌+◌, ◌-◌, ◌<◌, not, List, [], ◌∷◌, ◌++◌, length, take, Some, refl, sym, ap, ◌∙◌, subst}
use Rattle.std.proofs.lemmas.Option.{none-some, same_Some}
use Rattle.wjs_tree.specs.declared.tokens.Tok.{Tok}
use Rattle.wjs_forms.specs.States.{State, start, and_then, step, step_tok, reach, Accepts}
use Rattle.wjs_forms.specs.Spells.{Spells, Begins, SpelledIsTaken, TakenIsSpelled}
use Rattle.wjs_offend.specs.declared.answer.Offence.{Offence}
use Rattle.wjs_offend.specs.declared.answer.Offence.TheVariants as offences
use Rattle.wjs_offend.specs.Offences.{IsOffence, OneOffence}
use Rattle.wjs_load.specs.Stops.{line_at, line_of, StopsOn}
use Rattle.wjs_load.proofs.Alike.{Alike, AreAlike, alike_sym, alike_append, alike_take, alike_length}

-- ---- the machine takes them alike

step_alike : (t u : Tok) (s : State) → Alike t u → step_tok t s ≡ step_tok u s
step_alike t u s h = λ i. step (h.class i) (not (h.after_line i)) s.forms s.control

reach_alike : (ts us : List Tok) (s : State) → AreAlike ts us → reach ts s ≡ reach us s
reach_alike [] [] s h = refl
reach_alike [] (u ∷ us) s h = absurd h
reach_alike (t ∷ ts) [] s h = absurd h
reach_alike (t ∷ ts) (u ∷ us) s h = λ i. and_then (step_alike t u s h.0 i) (λ r. reach_alike ts us r h.1 i)

accepts_alike : (ts us : List Tok) → AreAlike ts us → Accepts start ts → Accepts start us
accepts_alike ts us h a = (a.0, sym (reach_alike ts us start h) ∙ a.1, a.2)

-- ---- their lines

line_alike : (ts us : List Tok) (k : ℕ) → AreAlike ts us → line_at ts k ≡ line_at us k
line_alike [] [] k h = refl
line_alike [] (u ∷ us) k h = absurd h
line_alike (t ∷ ts) [] k h = absurd h
line_alike (t ∷ ts) (u ∷ us) zero h = ap Some (h.0).line
line_alike (t ∷ ts) (u ∷ us) (suc k) h = line_alike ts us k h.1

lines_alike : (ts us : List Tok) (o : Offence) → AreAlike ts us → line_of ts o ≡ line_of us o
lines_alike ts us (offences.At k) h = line_alike ts us k h
lines_alike ts us offences.End h = line_alike ts us (length ts - 1) h ∙ ap (λ (n : ℕ). line_at us (n - 1)) (alike_length ts us h)
lines_alike ts us offences.NoToken h = refl

-- ---- their offence

module _ (taken : SpelledIsTaken) (spelled : TakenIsSpelled) where
  spells_alike : (ts us : List Tok) → AreAlike ts us → Spells ts → Spells us
  spells_alike ts us h w = spelled us (accepts_alike ts us h (taken ts w))

  begins_alike : (ts us : List Tok) (k : ℕ) → AreAlike ts us → Begins ts k → Begins us k
  begins_alike ts us k h b = record {
    more = b.more;
    spelled = spells_alike (take k ts ++ b.more) (take k us ++ b.more) (alike_append (take k ts) (take k us) b.more (alike_take k ts us h)) b.spelled;
  }

  offence_alike : (ts us : List Tok) (o : Offence) → AreAlike ts us → IsOffence ts o → IsOffence us o
  offence_alike ts us (offences.At k) h f =
      let back = alike_sym ts us h in
      (subst (λ (n : ℕ). k < n) (alike_length ts us h) f.0, begins_alike ts us k h f.1, λ b. f.2 (begins_alike us ts (k + 1) back b))
  offence_alike ts us offences.End h f =
      let back = alike_sym ts us h in
      (subst (λ (n : ℕ). Begins us n) (alike_length ts us h) (begins_alike ts us (length ts) h f.0), λ w. f.1 (spells_alike us ts back w))
  offence_alike ts us offences.NoToken h f = spells_alike ts us h f

  module _ (one : OneOffence) where
    same_line_of : (ts us : List Tok) (o p : Offence) → AreAlike ts us → IsOffence ts o → IsOffence us p → line_of ts o ≡ line_of us p
    same_line_of ts us o p h f g = lines_alike ts us o h ∙ ap (λ (z : Offence). line_of us z) (one us o p (offence_alike ts us o h f) g)

    -- they stop on one line
    pub same_line : (ts us : List Tok) (l m : ℕ) → AreAlike ts us → StopsOn ts l → StopsOn us m → m ≡ l
    same_line ts us l m h f g = sym (same_Some l m (sym f.on ∙ same_line_of ts us f.offence g.offence h f.is g.is ∙ g.on))

    -- where some stop, none are without fault
    pub stops_or_not : (ts us : List Tok) (l : ℕ) → AreAlike ts us → StopsOn ts l → IsOffence us offences.NoToken → ⊥
    stops_or_not ts us l h f g = none-some l (sym (same_line_of ts us f.offence offences.NoToken h f.is g) ∙ f.on)

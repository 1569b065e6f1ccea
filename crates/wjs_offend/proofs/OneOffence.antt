-- Tokens have one offence.
use Rattle.std.proofs.Common.{◌≡◌, ℕ, ◌+◌, ◌<◌, ◌≤◌, inl, inr, List, [], ◌++◌, length, take, drop, refl, sym, ap, ◌∙◌, subst, arith}
use Rattle.std.proofs.lemmas.List.{take_all, take-take, take-append-drop, append_assoc, append-nil}
use Rattle.std.proofs.lemmas.Bool.{cases_lt}
use Rattle.wjs_tree.specs.declared.tokens.Tok.{Tok}
use Rattle.wjs_forms.specs.Spells.{Spells, Begins}
use Rattle.wjs_offend.specs.declared.answer.Offence.{Offence}
use Rattle.wjs_offend.specs.declared.answer.Offence.TheVariants as offences
use Rattle.wjs_offend.specs.Offences.{IsOffence}

front : (toks : List Tok) (j k : ℕ) (more : List Tok) → j ≤ k → take k toks ++ more ≡ take j toks ++ (drop j (take k toks) ++ more)
front toks j k more h =
    ap (λ (z : List Tok). z ++ more) (sym (take-append-drop j (take k toks)) ∙ ap (λ (z : List Tok). z ++ drop j (take k toks)) (take-take j k toks h))
    ∙ append_assoc (take j toks) (drop j (take k toks)) more

-- what begins tokens of a program at one place does at each before
earlier : (toks : List Tok) (j k : ℕ) → j ≤ k → Begins toks k → Begins toks j
earlier toks j k h b = record { more = drop j (take k toks) ++ b.more; spelled = subst Spells (front toks j k b.more h) b.spelled }

whole : (toks : List Tok) → Spells toks → Begins toks (length toks)
whole toks w = record { more = []; spelled = subst Spells (sym (append-nil (take (length toks) toks) ∙ take_all (length toks) toks (omega arith))) w }

-- a token is at fault, and a later place has tokens that go on
at_fault : (toks : List Tok) (j k : ℕ) → j < k → (Begins toks (j + 1) → ⊥) → Begins toks k → ⊥
at_fault toks j k lt bad b = bad (earlier toks (j + 1) k (omega arith) b)

same_place : (j k : ℕ) → (j < k → ⊥) → (k < j → ⊥) → j ≡ k
same_place j k a b = elim (cases_lt j k) [ inl h ↦ absurd (a h) | inr h ↦ (elim (cases_lt k j) [ inl g ↦ absurd (b g) | inr g ↦ omega arith ]) ]

pub one_offence : (toks : List Tok) (a b : Offence) → IsOffence toks a → IsOffence toks b → a ≡ b
one_offence toks (offences.At j) (offences.At k) x y = ap offences.At (same_place j k (λ h. at_fault toks j k h x.2 y.1) (λ h. at_fault toks k j h y.2 x.1))
one_offence toks (offences.At j) offences.End x y = absurd (at_fault toks j (length toks) x.0 x.2 y.0)
one_offence toks (offences.At j) offences.NoToken x y = absurd (at_fault toks j (length toks) x.0 x.2 (whole toks y))
one_offence toks offences.End (offences.At k) x y = absurd (at_fault toks k (length toks) y.0 y.2 x.0)
one_offence toks offences.End offences.End x y = refl
one_offence toks offences.End offences.NoToken x y = absurd (x.1 y)
one_offence toks offences.NoToken (offences.At k) x y = absurd (at_fault toks k (length toks) y.0 y.2 (whole toks x))
one_offence toks offences.NoToken offences.End x y = absurd (y.1 x)
one_offence toks offences.NoToken offences.NoToken x y = refl

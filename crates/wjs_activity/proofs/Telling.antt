-- The lines of ends.
use Rattle.std.proofs.Common.{◌≡◌, ℕ, zero, suc, ◌+◌, ◌≤◌, ◌==◌, Bool, true, false, cond, List, [], ◌∷◌, ◌++◌, length, drop, None, Some, refl, sym, ap, ◌∙◌}
use Rattle.std.proofs.Common.{subst, arith, append_assoc, append-nil, add-one}
use Rattle.std.specs.Prelude.{codes, slice_get}
use Rattle.std.specs.Fmt.{decimal}
use Rattle.std.proofs.lemmas.Bool.{eq-eqb, ne_eqb}
use Rattle.std.proofs.lemmas.Option.{same_Some}
use Rattle.wjs_base.specs.Unicode.{utf8_of}
use Rattle.wjs_alone.specs.Alone.{Outcome, Committed, Threw, Spent}
use Rattle.wjs_alone.specs.Serial.{End, outcome_text, line_of, line_at, lines_from}
use Rattle.wjs_activity.specs.declared.ends.Ended.{Ended}
use Rattle.wjs_tries.specs.declared.outcome.Outcome.TheVariants as told
use Rattle.wjs_activity.specs.SoFar.{TellsEnd, TellsEnds}
use Rattle.wjs_tries.specs.Turning.{Tells}

-- one line more
lines_more : (n first : ℕ) (es : List End) → lines_from (suc n) first es ≡ lines_from n first es ++ line_at es (first + n)
lines_more zero first es =
    let same : first + zero ≡ first = omega arith in
    append-nil (line_at es first) ∙ ap (line_at es) (sym same)
lines_more (suc n) first es =
    let same : (first + 1) + n ≡ first + suc n = omega arith in
    ap (λ (l : List ℕ). line_at es first ++ l) (lines_more n (first + 1) es ∙ ap (λ k. lines_from n (first + 1) es ++ line_at es k) same)
    ∙ sym (append_assoc (line_at es first) (lines_from n (first + 1) es) (line_at es (first + suc n)))

-- the line of the next activity behind those of the first ones
pub lines_next : (n : ℕ) (es : List End) → lines_from n 1 es ++ line_at es (n + 1) ≡ lines_from (n + 1) 1 es
lines_next n es =
    let number : n + 1 ≡ 1 + n = omega arith in
    ap (λ k. lines_from n 1 es ++ line_at es k) number
    ∙ sym (lines_more n 1 es)
    ∙ ap (λ k. lines_from k 1 es) (sym (add-one n))

-- ---- one line

pub told_committed : (o : Outcome) (a b : List ℕ) → Tells told.Committed o → b ≡ a ++ codes " committed" → b ≡ a ++ outcome_text o
told_committed Committed a b h e = e
told_committed (Threw text) a b h e = absurd h
told_committed Spent a b h e = absurd h

pub told_spent : (o : Outcome) (a b : List ℕ) → Tells told.Spent o → b ≡ a ++ codes " spent" → b ≡ a ++ outcome_text o
told_spent Committed a b h e = absurd h
told_spent (Threw text) a b h e = absurd h
told_spent Spent a b h e = e

pub told_threw : (o : Outcome) (shown a b : List ℕ) → Tells (told.Threw shown) o → b ≡ a ++ codes " threw " ++ shown → b ≡ a ++ outcome_text o
told_threw Committed shown a b h e = absurd h
told_threw (Threw text) shown a b h e = e ∙ ap (λ (l : List ℕ). a ++ codes " threw " ++ l) h ∙ append_assoc a (codes " threw ") (utf8_of text)
told_threw Spent shown a b h e = absurd h

pub line_made : (a number outcome word tries end t0 t1 t2 t3 t4 : List ℕ) → t1 ≡ t0 ++ a ++ number → t2 ≡ t1 ++ outcome → t3 ≡ t2 ++ word ++ tries
    → t4 ≡ t3 ++ end → t4 ≡ t0 ++ (a ++ number ++ outcome ++ word ++ tries ++ end)
line_made a number outcome word tries end t0 t1 t2 t3 t4 e1 e2 e3 e4 =
    e4 ∙ ap (λ (l : List ℕ). l ++ end) (e3 ∙ ap (λ (l : List ℕ). l ++ word ++ tries) (e2 ∙ ap (λ (l : List ℕ). l ++ outcome) e1)) ∙ regroup
  where
    regroup : t0 ++ a ++ number ++ outcome ++ word ++ tries ++ end ≡ t0 ++ (a ++ number ++ outcome ++ word ++ tries ++ end)
    regroup = simp append_assoc

-- the line of an end
pub line_told : (x : Ended) (e : End) (t0 t1 t2 t3 t4 : List ℕ) → TellsEnd x e → t1 ≡ t0 ++ codes "activity " ++ decimal x.activity
    → t2 ≡ t1 ++ outcome_text e.outcome → t3 ≡ t2 ++ codes " tries " ++ decimal x.tries → t4 ≡ t3 ++ 10 ∷ [] → t4 ≡ t0 ++ line_of e
line_told x e t0 t1 t2 t3 t4 tells e1 e2 e3 e4 =
    line_made (codes "activity ") (decimal x.activity) (outcome_text e.outcome) (codes " tries ") (decimal x.tries) (10 ∷ []) t0 t1 t2 t3 t4 e1 e2 e3 e4
    ∙ (λ i. t0 ++ (codes "activity " ++ decimal (tells.activity i) ++ outcome_text e.outcome ++ codes " tries " ++ decimal (tells.tries i) ++ 10 ∷ []))

-- ---- the end of an activity among all

told_long : (xs : List Ended) (es : List End) → TellsEnds xs es → length es ≡ length xs
told_long [] [] h = refl
told_long [] (e ∷ es) h = absurd h
told_long (x ∷ xs) [] h = absurd h
told_long (x ∷ xs) (e ∷ es) h = ap suc (told_long xs es h.1)

-- the end that is told at a place
pub record ToldAt (x : Ended) (es : List End) (i : ℕ) : Type 0 where
  pub end : End
  pub tells : TellsEnd x end
  pub there : drop i es ≡ end ∷ drop (i + 1) es

told_at : (xs : List Ended) (es : List End) (i : ℕ) (x : Ended) → slice_get xs i ≡ Some x → TellsEnds xs es → ToldAt x es i
told_at [] es i x at h = let none : None ≡ Some x = at in absurd (cc)
told_at (y ∷ xs) [] i x at h = absurd h
told_at (y ∷ xs) (e ∷ es) zero x at h =
    let same : y ≡ x = same_Some y x at in
    record { end = e; tells = subst (λ z. TellsEnd z e) same h.0; there = refl }
told_at (y ∷ xs) (e ∷ es) (suc i) x at h =
    let more = told_at xs es i x at h.1 in
    let next : suc i + 1 ≡ suc (i + 1) = omega arith in
    record { end = more.end; tells = more.tells; there = more.there ∙ ap (λ k. more.end ∷ drop k (e ∷ es)) (sym next) }

line_if : (b : Bool) (e : End) (rest : List ℕ) → b ≡ false → cond b (line_of e) rest ≡ rest
line_if true e rest h = absurd (cc)
line_if false e rest h = refl

-- an end that is of another activity is passed over
pub line_behind : (xs : List Ended) (es : List End) (i : ℕ) (x : Ended) (activity : ℕ) → slice_get xs i ≡ Some x → TellsEnds xs es → ¬ (x.activity ≡ activity)
    → line_at (drop i es) activity ≡ line_at (drop (i + 1) es) activity
line_behind xs es i x activity at h apart =
    let t = told_at xs es i x at h in
    ap (λ (l : List End). line_at l activity) t.there
    ∙ line_if (t.end.run.activity == activity) t.end (line_at (drop (i + 1) es) activity)
    (ne_eqb t.end.run.activity activity (λ e. apart ((t.tells).activity ∙ e)))

pub line_here : (xs : List Ended) (es : List End) (i : ℕ) (x : Ended) (activity : ℕ) → slice_get xs i ≡ Some x → TellsEnds xs es → x.activity ≡ activity
    → (e : End) × (TellsEnd x e) × (line_at (drop i es) activity ≡ line_of e)
line_here xs es i x activity at h same =
    let t = told_at xs es i x at h in (
      t.end,
      t.tells,
      ap (λ (l : List End). line_at l activity) t.there
          ∙ ap (λ b. cond b (line_of t.end) (line_at (drop (i + 1) es) activity)) (eq-eqb t.end.run.activity activity (sym (t.tells).activity ∙ same)),
    )

drop_past : (es : List End) (i : ℕ) → length es ≤ i → drop i es ≡ []
drop_past [] zero h = refl
drop_past [] (suc i) h = refl
drop_past (e ∷ es) zero h = absurd (omega (arith, h))
drop_past (e ∷ es) (suc i) h = drop_past es i (omega (arith, h))

-- behind all ends there is no line
pub line_none : (xs : List Ended) (es : List End) (i activity : ℕ) → TellsEnds xs es → length xs ≤ i → line_at (drop i es) activity ≡ []
line_none xs es i activity h past =
    let long = told_long xs es h in
    ap (λ (l : List End). line_at l activity) (drop_past es i (omega (arith, long, past)))

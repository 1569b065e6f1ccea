-- The activities of the code that go on, as the definition has them, by their numbers.
use Rattle.std.proofs.Common.{◌≡◌, ℕ, zero, suc, ◌+◌, ◌≤◌, ◌<◌, ◌==◌, inl, inr, true, false, cond, not, List, [], ◌∷◌, length, set, None, Some, refl, sym, ap}
use Rattle.std.proofs.Common.{◌∙◌, subst, arith}
use Rattle.std.specs.Prelude.{slice_get, map as each, filter}
use Rattle.std.proofs.lemmas.Bool.{true≢false, eq-eqb, ne_eqb}
use Rattle.std.proofs.lemmas.Option.{same_Some}
use Rattle.wjs_alone.specs.Playing as defined
use Rattle.wjs_alone.specs.Playing.{activity_in}
use Rattle.wjs_alone.proofs.AllTurns.{Ascends}
use Rattle.wjs_activity.specs.declared.activities.Activity.{Activity}
use Rattle.wjs_activity.specs.Exactly.{Shows, none, past, on}

-- the relation of the activities says their number
abbrev pub Numbers : (ℕ → Activity → defined.Activity → Type 0) → Type 0
Numbers R = (k : ℕ) (a : Activity) (b : defined.Activity) → R k a b → b.number ≡ k

-- the activity of the definition at a number
pub record Found (R : ℕ → Activity → defined.Activity → Type 0) (k : ℕ) (a : Activity) (shown : List defined.Activity) : Type 0 where
  pub is : defined.Activity
  pub there : activity_in shown k ≡ Some is
  pub by : R k a is

module _ (R : ℕ → Activity → defined.Activity → Type 0) (numbers : Numbers R) where
  -- none has a number below the first
  pub none_below : (k j : ℕ) (items : List Activity) (shown : List defined.Activity) → Shows R k items shown → j < k → activity_in shown j ≡ None
  none_below k j [] [] (none _) lt = refl
  none_below k j [] (b ∷ shown) h lt = elim h [ ]
  none_below k j (a ∷ items) shown (past _ _ _ _ e h) lt = none_below (k + 1) j items shown h (omega (arith, lt))
  none_below k j (a ∷ items) (b ∷ shown) (on _ _ _ _ _ e r h) lt =
      let number = numbers k a b r in
      ap (λ c. cond c (Some b) (activity_in shown j)) (ne_eqb b.number j (λ q. absurd (omega (arith, number, q, lt))))
      ∙ none_below (k + 1) j items shown h (omega (arith, lt))

  -- nor one behind the last
  pub none_above : (k j : ℕ) (items : List Activity) (shown : List defined.Activity) → Shows R k items shown → k + length items ≤ j → activity_in shown j ≡ None
  none_above k j [] [] (none _) le = refl
  none_above k j [] (b ∷ shown) h le = elim h [ ]
  none_above k j (a ∷ items) shown (past _ _ _ _ e h) le = none_above (k + 1) j items shown h (omega (arith, le))
  none_above k j (a ∷ items) (b ∷ shown) (on _ _ _ _ _ e r h) le =
      let number = numbers k a b r in
      ap (λ c. cond c (Some b) (activity_in shown j)) (ne_eqb b.number j (λ q. absurd (omega (arith, number, q, le))))
      ∙ none_above (k + 1) j items shown h (omega (arith, le))

  -- nor that of one that has ended
  pub none_ended : (k i : ℕ) (items : List Activity) (shown : List defined.Activity) (a : Activity) → Shows R k items shown → slice_get items i ≡ Some a
      → a.ended ≡ true → activity_in shown (k + i) ≡ None
  none_ended k i [] [] a (none _) at over = refl
  none_ended k i [] (b ∷ shown) a h at over = elim h [ ]
  none_ended k zero (x ∷ items) shown a (past _ _ _ _ e h) at over = none_below (k + 1) (k + 0) items shown h (omega arith)
  none_ended k zero (x ∷ items) (b ∷ shown) a (on _ _ _ _ _ e r h) at over =
      let same : x ≡ a = same_Some x a at in
      absurd (true≢false (sym over ∙ ap (λ (y : Activity). y.ended) (sym same) ∙ e))
  none_ended k (suc i) (x ∷ items) shown a (past _ _ _ _ e h) at over =
      let sum : (k + 1) + i ≡ k + suc i = omega arith in
      subst (λ j. activity_in shown j ≡ None) sum (none_ended (k + 1) i items shown a h at over)
  none_ended k (suc i) (x ∷ items) (b ∷ shown) a (on _ _ _ _ _ e r h) at over =
      let number = numbers k x b r in
      let sum : (k + 1) + i ≡ k + suc i = omega arith in
      ap (λ c. cond c (Some b) (activity_in shown (k + suc i))) (ne_eqb b.number (k + suc i) (λ q. absurd (omega (arith, number, q))))
      ∙ subst (λ j. activity_in shown j ≡ None) sum (none_ended (k + 1) i items shown a h at over)

  pub found : (k i : ℕ) (items : List Activity) (shown : List defined.Activity) (a : Activity) → Shows R k items shown → slice_get items i ≡ Some a
      → a.ended ≡ false → Found R (k + i) a shown
  found k i [] [] a (none _) at alive = let h : None ≡ Some a = at in absurd (cc)
  found k i [] (b ∷ shown) a h at alive = elim h [ ]
  found k zero (x ∷ items) shown a (past _ _ _ _ e h) at alive =
      let same : x ≡ a = same_Some x a at in
      absurd (true≢false (sym e ∙ ap (λ (y : Activity). y.ended) same ∙ alive))
  found k zero (x ∷ items) (b ∷ shown) a (on _ _ _ _ _ e r h) at alive =
      let same : x ≡ a = same_Some x a at in
      let number = numbers k x b r in
      record {
        is = b;
        there = ap (λ c. cond c (Some b) (activity_in shown (k + 0))) (eq-eqb b.number (k + 0) (omega (arith, number)));
        by = let sum : k ≡ k + 0 = omega arith in subst (λ j. R j a b) sum (subst (λ (y : Activity). R k y b) same r);
      }
  found k (suc i) (x ∷ items) shown a (past _ _ _ _ e h) at alive =
      let sum : (k + 1) + i ≡ k + suc i = omega arith in
      subst (λ j. Found R j a shown) sum (found (k + 1) i items shown a h at alive)
  found k (suc i) (x ∷ items) (b ∷ shown) a (on _ _ _ _ _ e r h) at alive =
      let number = numbers k x b r in
      let sum : (k + 1) + i ≡ k + suc i = omega arith in
      let f = subst (λ j. Found R j a shown) sum (found (k + 1) i items shown a h at alive) in
      record {
        is = f.is;
        there = ap (λ c. cond c (Some b) (activity_in shown (k + suc i))) (ne_eqb b.number (k + suc i) (λ q. absurd (omega (arith, number, q)))) ∙ f.there;
        by = f.by;
      }

-- one activity is changed, and the others stand in a relation still
module _ (R R' : ℕ → Activity → defined.Activity → Type 0) (numbers : Numbers R) (m : ℕ)
    (others : (j : ℕ) (x : Activity) (y : defined.Activity) → ¬ (j ≡ m) → R j x y → R' j x y) where
  abbrev pub replace : defined.Activity → List defined.Activity → List defined.Activity
  replace b shown = each (λ (x : defined.Activity). cond (x.number == m) b x) shown

  abbrev pub leave_out : List defined.Activity → List defined.Activity
  leave_out shown = filter (λ (x : defined.Activity). not (x.number == m)) shown

  -- behind it all stay
  later : (k : ℕ) (items : List Activity) (shown : List defined.Activity) (b : defined.Activity) → m < k → Shows R k items shown
      → Shows R' k items (replace b shown) × Shows R' k items (leave_out shown)
  later k [] [] b lt (none _) = (none k, none k)
  later k [] (y ∷ shown) b lt h = elim h [ ]
  later k (a ∷ items) shown b lt (past _ _ _ _ e h) = let q = later (k + 1) items shown b (omega (arith, lt)) h in
      (past k a items (replace b shown) e q.0, past k a items (leave_out shown) e q.1)
  later k (a ∷ items) (y ∷ shown) b lt (on _ _ _ _ _ e r h) =
      let q = later (k + 1) items shown b (omega (arith, lt)) h in
      let number = numbers k a y r in
      let away : (y.number == m) ≡ false = ne_eqb y.number m (λ z. absurd (omega (arith, number, z, lt))) in
      let r' = others k a y (λ z. absurd (omega (arith, z, lt))) r in (
        subst (λ c. Shows R' k (a ∷ items) (cond c b y ∷ replace b shown)) (sym away) (on k a items y (replace b shown) e r' q.0),
        subst (λ c. Shows R' k (a ∷ items) (cond (not c) (y ∷ leave_out shown) (leave_out shown))) (sym away) (on k a items y (leave_out shown) e r' q.1),
      )

  -- it goes on
  pub replaced : (k i : ℕ) (items : List Activity) (shown : List defined.Activity) (a a' : Activity) (b' : defined.Activity) → k + i ≡ m
      → Shows R k items shown → slice_get items i ≡ Some a → a.ended ≡ false → a'.ended ≡ false → R' m a' b' → Shows R' k (set items i a') (replace b' shown)
  replaced k i [] [] a a' b' is (none _) at alive alive' r' = let h : None ≡ Some a = at in absurd (cc)
  replaced k i [] (y ∷ shown) a a' b' is h at alive alive' r' = elim h [ ]
  replaced k zero (x ∷ items) shown a a' b' is (past _ _ _ _ e h) at alive alive' r' = absurd
      (true≢false (sym e ∙ ap (λ (y : Activity). y.ended) (same_Some x a at) ∙ alive))
  replaced k zero (x ∷ items) (y ∷ shown) a a' b' is (on _ _ _ _ _ e r h) at alive alive' r' =
      let number = numbers k x y r in
      let here : (y.number == m) ≡ true = eq-eqb y.number m (omega (arith, number, is)) in
      let first : m ≡ k = omega (arith, is) in
      subst (λ c. Shows R' k (a' ∷ items) (cond c b' y ∷ replace b' shown)) (sym here)
      (on k a' items b' (replace b' shown) alive' (subst (λ j. R' j a' b') first r') (later (k + 1) items shown b' (omega (arith, is)) h).0)
  replaced k (suc i) (x ∷ items) shown a a' b' is (past _ _ _ _ e h) at alive alive' r' = past k x (set items i a') (replace b' shown) e
      (replaced (k + 1) i items shown a a' b' (omega (arith, is)) h at alive alive' r')
  replaced k (suc i) (x ∷ items) (y ∷ shown) a a' b' is (on _ _ _ _ _ e r h) at alive alive' r' =
      let number = numbers k x y r in
      let away : (y.number == m) ≡ false = ne_eqb y.number m (λ z. absurd (omega (arith, number, z, is))) in
      subst (λ c. Shows R' k (x ∷ set items i a') (cond c b' y ∷ replace b' shown)) (sym away)
      (on k x (set items i a') y (replace b' shown) e (others k x y (λ z. absurd (omega (arith, z, is))) r)
      (replaced (k + 1) i items shown a a' b' (omega (arith, is)) h at alive alive' r'))

  -- it has ended
  pub left_out : (k i : ℕ) (items : List Activity) (shown : List defined.Activity) (a a' : Activity) → k + i ≡ m → Shows R k items shown
      → slice_get items i ≡ Some a → a.ended ≡ false → a'.ended ≡ true → Shows R' k (set items i a') (leave_out shown)
  left_out k i [] [] a a' is (none _) at alive over = let h : None ≡ Some a = at in absurd (cc)
  left_out k i [] (y ∷ shown) a a' is h at alive over = elim h [ ]
  left_out k zero (x ∷ items) shown a a' is (past _ _ _ _ e h) at alive over = absurd
      (true≢false (sym e ∙ ap (λ (y : Activity). y.ended) (same_Some x a at) ∙ alive))
  left_out k zero (x ∷ items) (y ∷ shown) a a' is (on _ _ _ _ _ e r h) at alive over =
      let number = numbers k x y r in
      let here : (y.number == m) ≡ true = eq-eqb y.number m (omega (arith, number, is)) in
      subst (λ c. Shows R' k (a' ∷ items) (cond (not c) (y ∷ leave_out shown) (leave_out shown))) (sym here)
      (past k a' items (leave_out shown) over (later (k + 1) items shown y (omega (arith, is)) h).1)
  left_out k (suc i) (x ∷ items) shown a a' is (past _ _ _ _ e h) at alive over = past k x (set items i a') (leave_out shown) e
      (left_out (k + 1) i items shown a a' (omega (arith, is)) h at alive over)
  left_out k (suc i) (x ∷ items) (y ∷ shown) a a' is (on _ _ _ _ _ e r h) at alive over =
      let number = numbers k x y r in
      let away : (y.number == m) ≡ false = ne_eqb y.number m (λ z. absurd (omega (arith, number, z, is))) in
      subst (λ c. Shows R' k (x ∷ set items i a') (cond (not c) (y ∷ leave_out shown) (leave_out shown))) (sym away)
      (on k x (set items i a') y (leave_out shown) e (others k x y (λ z. absurd (omega (arith, z, is))) r)
      (left_out (k + 1) i items shown a a' (omega (arith, is)) h at alive over))

-- the numbers ascend
pub shows_ascends : (R : ℕ → Activity → defined.Activity → Type 0) → Numbers R → (k : ℕ) (items : List Activity) (shown : List defined.Activity)
    → Shows R k items shown → Ascends k (length items) shown
shows_ascends R numbers k [] [] (none _) = refl
shows_ascends R numbers k [] (b ∷ shown) h = elim h [ ]
shows_ascends R numbers k (a ∷ items) shown (past _ _ _ _ e h) = inl (shows_ascends R numbers (k + 1) items shown h)
shows_ascends R numbers k (a ∷ items) (b ∷ shown) (on _ _ _ _ _ e r h) = inr (b, shown, refl, numbers k a b r, shows_ascends R numbers (k + 1) items shown h)

-- ---- whether any goes on

module _ (R : ℕ → Activity → defined.Activity → Type 0) where
  all_over : (k : ℕ) (items : List Activity) → Shows R k items [] → (i : ℕ) (a : Activity) → slice_get items i ≡ Some a → a.ended ≡ true
  all_over k [] (none _) i a at = let h : None ≡ Some a = at in absurd (cc)
  all_over k (x ∷ items) (past _ _ _ _ e h) zero a at = let same : x ≡ a = same_Some x a at in ap (λ (y : Activity). y.ended) (sym same) ∙ e
  all_over k (x ∷ items) (past _ _ _ _ e h) (suc i) a at = all_over (k + 1) items h i a at

  pub shows_some : (k : ℕ) (items : List Activity) (shown : List defined.Activity) → Shows R k items shown
      → ¬ ((i : ℕ) (a : Activity) → slice_get items i ≡ Some a → a.ended ≡ true) → (length shown == 0) ≡ false
  shows_some k items [] h some = absurd (some (all_over k items h))
  shows_some k items (b ∷ shown) h some = ne_eqb (suc (length shown)) 0 (λ e. absurd (omega (arith, e)))

  pub shows_none : (k : ℕ) (items : List Activity) (shown : List defined.Activity) → Shows R k items shown
      → ((i : ℕ) (a : Activity) → slice_get items i ≡ Some a → a.ended ≡ true) → shown ≡ []
  shows_none k [] [] (none _) all = refl
  shows_none k [] (b ∷ shown) h all = elim h [ ]
  shows_none k (a ∷ items) shown (past _ _ _ _ e h) all = shows_none (k + 1) items shown h (λ i x at. all (suc i) x at)
  shows_none k (a ∷ items) (b ∷ shown) (on _ _ _ _ _ e r h) all = absurd (true≢false (sym (all 0 a refl) ∙ e))

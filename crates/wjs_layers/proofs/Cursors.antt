-- The first entry that passes is the least one.
use Rattle.std.proofs.Common.{◌≡◌, Bool, true, false, cond, T, List, [], ◌∷◌, Option, None, Some, is_some, MatchOption, refl, ap, sym, ◌∙◌, subst}
use Rattle.std.specs.declared.cmp.Ordering.{Ordering}
use Rattle.std.specs.Ordering.{eq_by_cmp, is_lt, is_eq}
use Rattle.std.specs.Cmp.{IsTotalOrder, tied_itself}
use Rattle.std.specs.FinMap as map
use Rattle.std.specs.FinMap.{FinMap, IsAntisymmetric}
use Rattle.std.specs.FinMap.Entries.{below_all, is_sorted}
use Rattle.std.specs.Map.{lookup_entry}
use Rattle.std.proofs.lemmas.Bool.{true≢false, false≢true}
use Rattle.wjs_base.proofs.Booleans.{by_bool, left_true, right_true, T_true}
use Rattle.wjs_base.proofs.Orders.{not_back, not_self}
use Rattle.wjs_store.proofs.Marks.{key_is}

match_weaker : {A P P' : Type 0} {Q Q' : A → Type 0} (o : Option A) → (P → P') → ((a : A) → Q a → Q' a) → MatchOption o P Q → MatchOption o P' Q'
match_weaker None f g h = f h
match_weaker (Some a) f g h = g a h

module _ {K V : Type 0} {R : K → K → Ordering} (total : IsTotalOrder R) (exact : IsAntisymmetric R) where
  below_find : (x : K) (es : List (K × V)) (q : K) → T (below_all R x es) → is_some (map.find R q es) ≡ true → is_lt (R x q) ≡ true
  below_find x [] q h f = absurd (false≢true f)
  below_find x (e ∷ es) q h f = by_bool (eq_by_cmp R q e.0)
      (λ b. ap (λ k. is_lt (R x k)) (key_is exact q e.0 b) ∙ T_true (is_lt (R x e.0)) (left_true (is_lt (R x e.0)) (below_all R x es) h))
      (λ b. below_find x es q (right_true (is_lt (R x e.0)) (below_all R x es) h) (sym (ap (λ c. is_some (cond c (Some e.1) (map.find R q es))) b) ∙ f))

  find_head : (e : K × V) (es : List (K × V)) → map.find R e.0 (e ∷ es) ≡ Some e.1
  find_head e es = ap (λ o. cond (is_eq o) (Some e.1) (map.find R e.0 es)) (tied_itself total e.0)

  find_past : (e : K × V) (es : List (K × V)) (q : K) → eq_by_cmp R q e.0 ≡ false → map.find R q (e ∷ es) ≡ map.find R q es
  find_past e es q b = ap (λ c. cond c (Some e.1) (map.find R q es)) b

  module _ (p : K → Bool) where
    abbrev Nothing : List (K × V) → Type 0
    Nothing es = (q : K) → p q ≡ true → map.find R q es ≡ None

    abbrev Least : List (K × V) → K × V → Type 0
    Least es e = (p e.0 ≡ true) × (map.find R e.0 es ≡ Some e.1) × ((q : K) → p q ≡ true → is_some (map.find R q es) ≡ true → is_lt (R q e.0) ≡ false)

    apart : (e : K × V) (q : K) → p e.0 ≡ false → p q ≡ true → eq_by_cmp R q e.0 ≡ false
    apart e q n y = by_bool (eq_by_cmp R q e.0) (λ b. absurd (true≢false (sym y ∙ ap p (key_is exact q e.0 b) ∙ n))) (λ b. b)

    first_on : (es : List (K × V)) → T (is_sorted R es) → MatchOption (lookup_entry p es) ((q : K) → p q ≡ true → map.find R q es ≡ None) (λ e. (p e.0 ≡ true) × (map.find R e.0 es ≡ Some e.1) × ((q : K) → p q ≡ true → is_some (map.find R q es) ≡ true → is_lt (R q e.0) ≡ false))
    first_on [] h = λ q y. refl
    first_on (e ∷ es) h = by_bool {P = MatchOption (lookup_entry p (e ∷ es)) (Nothing (e ∷ es)) (Least (e ∷ es))} (p e.0)
        (λ y. subst (λ b. MatchOption (cond b (Some e) (lookup_entry p es)) (Nothing (e ∷ es)) (Least (e ∷ es))) (sym y) (
          y,
          find_head e es,
          λ q z f. by_bool (eq_by_cmp R q e.0)
              (λ b. ap (λ k. is_lt (R k e.0)) (key_is exact q e.0 b) ∙ not_self total e.0)
              (λ b. not_back total e.0 q (below_find e.0 es q (left_true (below_all R e.0 es) (is_sorted R es) h) (sym (ap is_some (find_past e es q b)) ∙ f))),
        ))
        (λ n. subst (λ b. MatchOption (cond b (Some e) (lookup_entry p es)) (Nothing (e ∷ es)) (Least (e ∷ es))) (sym n)
        (match_weaker {P = Nothing es} {P' = Nothing (e ∷ es)} {Q = Least es} {Q' = Least (e ∷ es)} (lookup_entry p es)
        (λ g q y. find_past e es q (apart e q n y) ∙ g q y)
        (λ d g. (g.0, find_past e es d.0 (apart e d.0 n g.0) ∙ g.1, λ q y f. g.2 q y (sym (ap is_some (find_past e es q (apart e q n y))) ∙ f)))
        (first_on es (right_true (below_all R e.0 es) (is_sorted R es) h))))

    -- of a map
    pub first_is : (m : FinMap R V) → MatchOption (lookup_entry p (map.entries m)) ((q : K) → p q ≡ true → map.get m q ≡ None) (λ e. (p e.0 ≡ true) × (map.get m e.0 ≡ Some e.1) × ((q : K) → p q ≡ true → is_some (map.get m q) ≡ true → is_lt (R q e.0) ≡ false))
    first_is m = match_weaker {P = Nothing (map.entries m)} {P' = (q : K) → p q ≡ true → map.get m q ≡ None} {Q = Least (map.entries m)} {Q' = λ e. (p e.0 ≡ true) × (map.get m e.0 ≡ Some e.1) × ((q : K) → p q ≡ true → is_some (map.get m q) ≡ true → is_lt (R q e.0) ≡ false)} (lookup_entry p (map.entries m))
        (λ g q y. map.get-entries m q ∙ g q y)
        (λ e g. (g.0, map.get-entries m e.0 ∙ g.1, λ q y f. g.2 q y (sym (ap is_some (map.get-entries m q)) ∙ f)))
        (first_on (map.entries m) (map.entries_sorted m))

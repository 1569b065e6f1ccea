-- The least entry that passes a test.
use Rattle.std.proofs.Common.{◌≡◌, Bool, true, false, cond, T, List, [], ◌∷◌, Option, None, Some, is_some, MatchOption, refl, ap, sym, ◌∙◌, subst}
use Rattle.std.specs.declared.cmp.Ordering.{Ordering}
use Rattle.std.specs.Ordering.{is_lt, is_eq, eq_by_cmp}
use Rattle.std.specs.Cmp.{IsTotalOrder, tied_itself}
use Rattle.std.specs.FinMap as map
use Rattle.std.specs.FinMap.{FinMap, IsAntisymmetric}
use Rattle.std.specs.FinMap.Entries.{find, below_all, is_sorted}
use Rattle.std.specs.Map.{lookup_entry}
use Rattle.std.specs.Option.{option_or}
use Rattle.std.proofs.lemmas.Bool.{true≢false, false≢true}
use Rattle.std.proofs.lemmas.Option.{same_Some}
use Rattle.wjs_base.proofs.Booleans.{left_true, right_true, T_true, by_bool}
use Rattle.wjs_base.proofs.Options.{by_option, no_none}
use Rattle.wjs_names.specs.Least.{IsLeast, lesser_entry}
use Rattle.wjs_names.proofs.Basics.{not_back, not_self, lt_trans, neither, key_is, or_none}

match_weaker : {A P P' : Type 0} {Q Q' : A → Type 0} (o : Option A) → (P → P') → ((a : A) → Q a → Q' a) → MatchOption o P Q → MatchOption o P' Q'
match_weaker None f g h = f h
match_weaker (Some a) f g h = g a h

module _ {K V : Type 0} {R : K → K → Ordering} (total : IsTotalOrder R) (exact : IsAntisymmetric R) where
  below_find : (x : K) (es : List (K × V)) (q : K) → T (below_all R x es) → is_some (find R q es) ≡ true → is_lt (R x q) ≡ true
  below_find x [] q h f = absurd (false≢true f)
  below_find x (e ∷ es) q h f = by_bool (eq_by_cmp R q e.0)
      (λ b. ap (λ k. is_lt (R x k)) (key_is exact q e.0 b) ∙ T_true (is_lt (R x e.0)) (left_true (is_lt (R x e.0)) (below_all R x es) h))
      (λ b. below_find x es q (right_true (is_lt (R x e.0)) (below_all R x es) h) (sym (ap (λ c. is_some (cond c (Some e.1) (find R q es))) b) ∙ f))

  find_head : (e : K × V) (es : List (K × V)) → find R e.0 (e ∷ es) ≡ Some e.1
  find_head e es = ap (λ o. cond (is_eq o) (Some e.1) (find R e.0 es)) (tied_itself total e.0)

  find_past : (e : K × V) (es : List (K × V)) (q : K) → eq_by_cmp R q e.0 ≡ false → find R q (e ∷ es) ≡ find R q es
  find_past e es q b = ap (λ c. cond c (Some e.1) (find R q es)) b

  module _ (p : K → Bool) where
    abbrev Nothing : (K → Option V) → Type 0
    Nothing get = (q : K) → p q ≡ true → get q ≡ None

    abbrev Least : (K → Option V) → K × V → Type 0
    Least get e = (p e.0 ≡ true) × (get e.0 ≡ Some e.1) × ((q : K) → p q ≡ true → is_some (get q) ≡ true → is_lt (R q e.0) ≡ false)

    apart : (e : K × V) (q : K) → p e.0 ≡ false → p q ≡ true → eq_by_cmp R q e.0 ≡ false
    apart e q n y = by_bool (eq_by_cmp R q e.0) (λ b. absurd (true≢false (sym y ∙ ap p (key_is exact q e.0 b) ∙ n))) (λ b. b)

    -- of a list in order it is the first
    pub first_on : (es : List (K × V)) → T (is_sorted R es) → IsLeast R (λ q. find R q es) p (lookup_entry p es)
    first_on [] h = λ q y. refl
    first_on (e ∷ es) h = by_bool {P = MatchOption (lookup_entry p (e ∷ es)) (Nothing (λ q. find R q (e ∷ es))) (Least (λ q. find R q (e ∷ es)))} (p e.0)
        (λ y. subst (λ b. MatchOption (cond b (Some e) (lookup_entry p es)) (Nothing (λ q. find R q (e ∷ es))) (Least (λ q. find R q (e ∷ es)))) (sym y) (
          y,
          find_head e es,
          λ q z f. by_bool (eq_by_cmp R q e.0)
              (λ b. ap (λ k. is_lt (R k e.0)) (key_is exact q e.0 b) ∙ not_self total e.0)
              (λ b. not_back total e.0 q (below_find e.0 es q (left_true (below_all R e.0 es) (is_sorted R es) h) (sym (ap is_some (find_past e es q b)) ∙ f))),
        ))
        (λ n. subst (λ b. MatchOption (cond b (Some e) (lookup_entry p es)) (Nothing (λ q. find R q (e ∷ es))) (Least (λ q. find R q (e ∷ es)))) (sym n)
        (match_weaker {P = Nothing (λ q. find R q es)} {P' = Nothing (λ q. find R q (e ∷ es))} {Q = Least (λ q. find R q es)} {Q' = Least (λ q. find R q (e ∷ es))} (lookup_entry p es)
        (λ g q y. find_past e es q (apart e q n y) ∙ g q y)
        (λ d g. (g.0, find_past e es d.0 (apart e d.0 n g.0) ∙ g.1, λ q y f. g.2 q y (sym (ap is_some (find_past e es q (apart e q n y))) ∙ f)))
        (first_on es (right_true (below_all R e.0 es) (is_sorted R es) h))))

    -- values that are the same have the same least
    pub like : (f g : K → Option V) (d : Option (K × V)) → ((q : K) → g q ≡ f q) → IsLeast R f p d → IsLeast R g p d
    like f g d same = match_weaker {P = Nothing f} {P' = Nothing g} {Q = Least f} {Q' = Least g} d
        (λ h q y. same q ∙ h q y)
        (λ e h. (h.0, same e.0 ∙ h.1, λ q y s. h.2 q y (sym (ap is_some (same q)) ∙ s)))

    pub first_is : (m : FinMap R V) → IsLeast R (map.get m) p (lookup_entry p (map.entries m))
    first_is m = like (λ q. find R q (map.entries m)) (map.get m) (lookup_entry p (map.entries m)) (λ q. map.get-entries m q) (first_on (map.entries m) (map.entries_sorted m))

    -- there is one at most
    pub least_one : (f : K → Option V) (a b : Option (K × V)) → IsLeast R f p a → IsLeast R f p b → a ≡ b
    least_one f None None h k = refl
    least_one f None (Some b) h k = no_none b.1 (sym (h b.0 k.0) ∙ k.1)
    least_one f (Some a) None h k = no_none a.1 (sym (k a.0 h.0) ∙ h.1)
    least_one f (Some a) (Some b) h k =
        let keys : a.0 ≡ b.0 = exact a.0 b.0 (neither total a.0 b.0 (k.2 a.0 h.0 (ap is_some h.1)) (h.2 b.0 k.0 (ap is_some k.1))) in
        let values : a.1 ≡ b.1 = same_Some a.1 b.1 (sym h.1 ∙ ap f keys ∙ k.1) in
        λ i. Some (keys i, values i)

    pub least_is : (m : FinMap R V) (d : Option (K × V)) → IsLeast R (map.get m) p d → d ≡ lookup_entry p (map.entries m)
    least_is m d h = least_one (map.get m) d (lookup_entry p (map.entries m)) h (first_is m)

    -- the least of two parts
    pub least_either : (f g : K → Option V) (a b : Option (K × V)) → ((q : K) → is_some (f q) ≡ true → g q ≡ None) → IsLeast R f p a → IsLeast R g p b → IsLeast R (λ q. option_or (f q) (g q)) p (lesser_entry R a b)
    least_either f g None None split h k = λ q y. ap (λ o. option_or o (g q)) (h q y) ∙ k q y
    least_either f g None (Some b) split h k = (k.0, ap (λ o. option_or o (g b.0)) (h b.0 k.0) ∙ k.1, λ q y s. k.2 q y (sym (ap (λ o. is_some (option_or o (g q))) (h q y)) ∙ s))
    least_either f g (Some a) None split h k = (h.0, ap (λ o. option_or o (g a.0)) h.1, λ q y s. h.2 q y (sym (ap is_some (ap (option_or (f q)) (k q y) ∙ or_none (f q))) ∙ s))
    least_either f g (Some a) (Some b) split h k = by_bool {P = IsLeast R (λ q. option_or (f q) (g q)) p (lesser_entry R (Some a) (Some b))} (is_lt (R b.0 a.0))
        (λ t. subst (λ c. IsLeast R (λ q. option_or (f q) (g q)) p (cond c (Some b) (Some a))) (sym t) (
          k.0,
          by_option (f b.0) (λ n. ap (λ o. option_or o (g b.0)) n ∙ k.1) (λ v s. no_none b.1 (sym (split b.0 (ap is_some s)) ∙ k.1)),
          λ q y s. by_option (f q)
              (λ n. k.2 q y (sym (ap (λ o. is_some (option_or o (g q))) n) ∙ s))
              (λ v w. by_bool (is_lt (R q b.0)) (λ l. absurd (true≢false (sym (lt_trans total q b.0 a.0 l t) ∙ h.2 q y (ap is_some w)))) (λ l. l)),
        ))
        (λ t. subst (λ c. IsLeast R (λ q. option_or (f q) (g q)) p (cond c (Some b) (Some a))) (sym t) (
          h.0,
          ap (λ o. option_or o (g a.0)) h.1,
          λ q y s. by_option (f q)
              (λ n. by_bool (is_lt (R q a.0))
              (λ l. absurd (true≢false (sym (below_either q a.0 b.0 l t) ∙ k.2 q y (sym (ap (λ o. is_some (option_or o (g q))) n) ∙ s))))
              (λ l. l))
              (λ v w. h.2 q y (ap is_some w)),
        ))
      where
        below_either : (q a b : K) → is_lt (R q a) ≡ true → is_lt (R b a) ≡ false → is_lt (R q b) ≡ true
        below_either q a b l t = by_bool (is_lt (R a b))
            (λ u. lt_trans total q a b l u)
            (λ u. ap (λ k. is_lt (R q k)) (exact b a (neither total b a t u)) ∙ l)

-- a test that the entries there answer alike
pub alike : {K V : Type 0} (R : K → K → Ordering) (p r : K → Bool) (f : K → Option V) (d : Option (K × V)) → ((q : K) → is_some (f q) ≡ true → p q ≡ r q) → IsLeast R f r d → IsLeast R f p d
alike R p r f None same h = λ q y. by_option (f q) (λ n. n) (λ v s. h q (sym (same q (ap is_some s)) ∙ y))
alike R p r f (Some e) same h = (same e.0 (ap is_some h.1) ∙ h.0, h.1, λ q y s. h.2 q (sym (same q s) ∙ y) s)

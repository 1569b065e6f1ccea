-- Two maps that hold the same of some keys list them alike.
use Rattle.std.proofs.Common.{◌≡◌, Bool, true, false, cond, ◌&&◌, ◌||◌, T, List, [], ◌∷◌, refl, ap, sym, ◌∙◌, filter, map as each, Option, None, Some, Ordering}
use Rattle.std.specs.Option.{option_map_or}
use Rattle.std.specs.Ordering.{eq_by_cmp, is_lt}
use Rattle.std.specs.Cmp.{IsTotalOrder}
use Rattle.std.specs.List.{list_any}
use Rattle.std.specs.FinMap as map
use Rattle.std.specs.FinMap.{FinMap, IsAntisymmetric}
use Rattle.std.specs.FinMap.Entries.{below_all, same_entries}
use Rattle.std.proofs.lemmas.Bool.{true≢false, false≢true}
use Rattle.wjs_base.specs.declared.ids.WorldId.{WorldId}
use Rattle.wjs_base.specs.declared.ids.ObjId.{ObjId}
use Rattle.wjs_base.proofs.Booleans.{left_true, right_true, both_true, by_bool}
use Rattle.wjs_store.specs.Naming.{Naming}
use Rattle.wjs_store.specs.State.{World, State, same_object, find_world, slots_in, slots_at}
use Rattle.wjs_store.specs.Ascends.{tagged, Ascends}
use Rattle.wjs_store.proofs.Marks.{key_is}

abbrev pub firsts : {K X : Type 0} → List (K × X) → List K
firsts es = each (λ e. e.0) es

pub untagged : {J : Type 0} (ss : List J) → firsts (tagged ss) ≡ ss
untagged [] = refl
untagged (s ∷ ss) = ap (λ ts. s ∷ ts) (untagged ss)

module _ {J : Type 0} (S : J → J → Ordering) where
  pub find_tag : (q : J) (ss : List J) → map.find S q (tagged ss) ≡ cond (list_any (eq_by_cmp S q) ss) (Some tt) None
  find_tag q [] = refl
  find_tag q (s ∷ ss) = by (eq_by_cmp S q s) (find_tag q ss)
    where
      by : (b : Bool) → map.find S q (tagged ss) ≡ cond (list_any (eq_by_cmp S q) ss) (Some tt) None → cond b (Some tt) (map.find S q (tagged ss)) ≡ cond (b || list_any (eq_by_cmp S q) ss) (Some tt) None
      by true h = refl
      by false h = h

  module _ {X : Type 0} (p : J → Bool) where
    below_filter : (k : J) (es : List (J × X)) → T (below_all S k es) → T (below_all S k (tagged (filter p (firsts es))))
    below_filter k [] h = tt
    below_filter k (e ∷ es) h = by (p e.0) (below_filter k es (right_true (is_lt (S k e.0)) (below_all S k es) h))
      where
        by : (b : Bool) → T (below_all S k (tagged (filter p (firsts es)))) → T (below_all S k (tagged (cond b (e.0 ∷ filter p (firsts es)) (filter p (firsts es)))))
        by true r = both_true (is_lt (S k e.0)) (below_all S k (tagged (filter p (firsts es)))) (left_true (is_lt (S k e.0)) (below_all S k es) h) r
        by false r = r

    pub ascends_filter : (es : List (J × X)) → T (map.is_sorted S es) → Ascends S (filter p (firsts es))
    ascends_filter [] h = tt
    ascends_filter (e ∷ es) h = by (p e.0) (ascends_filter es (right_true (below_all S e.0 es) (map.is_sorted S es) h))
      where
        by : (b : Bool) → Ascends S (filter p (firsts es)) → Ascends S (cond b (e.0 ∷ filter p (firsts es)) (filter p (firsts es)))
        by true r = both_true (below_all S e.0 (tagged (filter p (firsts es)))) (map.is_sorted S (tagged (filter p (firsts es)))) (below_filter e.0 es (left_true (below_all S e.0 es) (map.is_sorted S es) h)) r
        by false r = r

  module _ (exact : IsAntisymmetric S) (p : J → Bool) where
    -- a key is among those that pass exactly where it passes and is there
    pub any_passing : (q : J) (ks : List J) → list_any (eq_by_cmp S q) (filter p ks) ≡ (p q && list_any (eq_by_cmp S q) ks)
    any_passing q [] = by (p q)
      where
        by : (b : Bool) → false ≡ (b && false)
        by true = refl
        by false = refl
    any_passing q (k ∷ ks) = by_bool (eq_by_cmp S q k)
        (λ e. here (p k) (p q) (ap p (sym (key_is exact q k e))) e (any_passing q ks))
        (λ e. past (p k) (p q) e (any_passing q ks))
      where
        here : (b c : Bool) → b ≡ c → eq_by_cmp S q k ≡ true → list_any (eq_by_cmp S q) (filter p ks) ≡ (c && list_any (eq_by_cmp S q) ks) → list_any (eq_by_cmp S q) (cond b (k ∷ filter p ks) (filter p ks)) ≡ (c && (eq_by_cmp S q k || list_any (eq_by_cmp S q) ks))
        here true true f e h = ap (λ b. b || list_any (eq_by_cmp S q) (filter p ks)) e ∙ ap (λ b. b || list_any (eq_by_cmp S q) ks) (sym e)
        here true false f e h = absurd (true≢false f)
        here false true f e h = absurd (false≢true f)
        here false false f e h = h

        past : (b c : Bool) → eq_by_cmp S q k ≡ false → list_any (eq_by_cmp S q) (filter p ks) ≡ (c && list_any (eq_by_cmp S q) ks) → list_any (eq_by_cmp S q) (cond b (k ∷ filter p ks) (filter p ks)) ≡ (c && (eq_by_cmp S q k || list_any (eq_by_cmp S q) ks))
        past true c e h = ap (λ b. b || list_any (eq_by_cmp S q) (filter p ks)) e ∙ h ∙ ap (λ b. c && (b || list_any (eq_by_cmp S q) ks)) (sym e)
        past false c e h = h ∙ ap (λ b. c && (b || list_any (eq_by_cmp S q) ks)) (sym e)

-- the keys that pass are the same where both_true maps have the same of them
pub same_listed : {K X Y : Type 0} {R : K → K → Ordering} → IsTotalOrder R → (exact : IsAntisymmetric R) → (p : K → Bool) (a : FinMap R X) (b : FinMap R Y) → ((t : K) → p t ≡ true → map.contains_key a t ≡ map.contains_key b t) → filter p (map.keys a) ≡ filter p (map.keys b)
same_listed {K = K} {R = R} total exact p a b h =
    sym (untagged (filter p (map.keys a)))
    ∙ ap firsts (same_entries R total exact (tagged (filter p (map.keys a))) (tagged (filter p (map.keys b))) (ascends_filter R p (map.entries a) (map.entries_sorted a)) (ascends_filter R p (map.entries b) (map.entries_sorted b)) (λ q.
    find_tag R q (filter p (map.keys a)) ∙ ap (λ c. cond c (Some tt) None) (there q) ∙ sym (find_tag R q (filter p (map.keys b)))))
    ∙ untagged (filter p (map.keys b))
  where
    there : (q : K) → list_any (eq_by_cmp R q) (filter p (map.keys a)) ≡ list_any (eq_by_cmp R q) (filter p (map.keys b))
    there q =
        any_passing R exact p q (map.keys a)
        ∙ by_bool (p q)
        (λ e. ap (λ c. p q && c) (sym (map.contains_key-keys a q) ∙ h q e ∙ map.contains_key-keys b q))
        (λ e. ap (λ c. c && list_any (eq_by_cmp R q) (map.keys a)) e ∙ ap (λ c. c && list_any (eq_by_cmp R q) (map.keys b)) (sym e))
        ∙ sym (any_passing R exact p q (map.keys b))

-- a listing is in order
module _ {J W : Type 0} {m : Naming J W} where
  found_ascends : (o : ObjId) (q : Option (World m)) → Ascends m.cmp (option_map_or (slots_in o) q [])
  found_ascends o None = tt
  found_ascends o (Some x) = ascends_filter m.cmp (λ s. same_object (m.object s) o) (map.entries x.copy) (map.entries_sorted x.copy)

  pub slots_ascend : (G : State m) (w : WorldId) (o : ObjId) → Ascends m.cmp (slots_at G w o)
  slots_ascend G w o = found_ascends o (find_world G w)

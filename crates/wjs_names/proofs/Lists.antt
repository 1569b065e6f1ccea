-- Lists in the order of their keys.
use Rattle.std.proofs.Common.{◌≡◌, Bool, true, false, cond, not, T, List, [], ◌∷◌, ◌++◌, Option, None, Some, slice_get, refl, ap, sym, ◌∙◌}
use Rattle.std.specs.declared.cmp.Ordering.{Ordering}
use Rattle.std.specs.declared.cmp.Ordering.TheVariants.{Less, Equal, Greater}
use Rattle.std.specs.Ordering.{is_lt, is_eq, match_ordering, eq_by_cmp}
use Rattle.std.specs.Cmp.{IsTotalOrder}
use Rattle.std.specs.BTreeMap.{is_at, insert_entry}
use Rattle.std.specs.FinMap.Entries.{put, find, is_sorted, below_all, by_order}
use Rattle.std.specs.Map.{lookup_entry, remove_entry}
use Rattle.std.specs.Option.{option_or}
use Rattle.std.proofs.lemmas.Float.{T_from_true}
use Rattle.wjs_base.proofs.Booleans.{left_true, right_true, both_true, T_true, by_bool}
use Rattle.wjs_rows.specs.Order.{is_after}
use Rattle.wjs_names.specs.Lists.{without}
use Rattle.wjs_names.proofs.Basics.{less_is, equal_is}

pub find_append : {K V : Type 0} (R : K → K → Ordering) (q : K) (es fs : List (K × V)) → find R q (es ++ fs) ≡ option_or (find R q es) (find R q fs)
find_append R q [] fs = refl
find_append R q (e ∷ es) fs = by_test (eq_by_cmp R q e.0) e.1 (find R q (es ++ fs)) (find R q es) (find R q fs) (find_append R q es fs)
  where
    by_test : {V : Type 0} (b : Bool) (v : V) (all some rest : Option V) → all ≡ option_or some rest → cond b (Some v) all ≡ option_or (cond b (Some v) some) rest
    by_test true v all some rest h = refl
    by_test false v all some rest h = h

module _ {K V : Type 0} (R : K → K → Ordering) where
  pub insert_put : (es : List (K × V)) (k : K) (v : V) → insert_entry R es k v ≡ put R k v es
  insert_put [] k v = refl
  insert_put (e ∷ es) k v = by_test (R k e.0) ((k, v) ∷ e ∷ es) ((e.0, v) ∷ es) (ap (λ rest. e ∷ rest) (insert_put es k v))
    where
      by_test : {A : Type 0} (o : Ordering) {c d : A} (a b : A) → c ≡ d → match_ordering o a b c ≡ by_order o a b d
      by_test Less a b h = refl
      by_test Equal a b h = refl
      by_test Greater a b h = h

  pub first_after : (k : K) (es : List (K × V)) → T (below_all R k es) → lookup_entry (is_after R k) es ≡ slice_get es 0
  first_after k [] h = refl
  first_after k (e ∷ es) h = ap (λ b. cond b (Some e) (lookup_entry (is_after R k) es)) (T_true (is_lt (R k e.0)) (left_true (is_lt (R k e.0)) (below_all R k es) h))

  -- a lesser key is not there
  pub none_below : (k : K) (es : List (K × V)) → T (below_all R k es) → find R k es ≡ None
  none_below k [] h = refl
  none_below k (e ∷ es) h = ap (λ o. cond (is_eq o) (Some e.1) (find R k es)) (less_is (R k e.0) (T_true (is_lt (R k e.0)) (left_true (is_lt (R k e.0)) (below_all R k es) h))) ∙ none_below k es (right_true (is_lt (R k e.0)) (below_all R k es) h)

  pub all_without : (k : K) (es : List (K × V)) → T (below_all R k es) → without R k es ≡ es
  all_without k [] h = refl
  all_without k (e ∷ es) h =
      ap (λ o. cond (not (is_eq o)) (e ∷ without R k es) (without R k es)) (less_is (R k e.0) (T_true (is_lt (R k e.0)) (left_true (is_lt (R k e.0)) (below_all R k es) h)))
      ∙ ap (λ rest. e ∷ rest) (all_without k es (right_true (is_lt (R k e.0)) (below_all R k es) h))

module _ {K V : Type 0} {R : K → K → Ordering} (total : IsTotalOrder R) where
  pub below_tied : (k x : K) (es : List (K × V)) → R k x ≡ Equal → T (below_all R x es) → T (below_all R k es)
  below_tied k x [] t h = tt
  below_tied k x (e ∷ es) t h =
      both_true (is_lt (R k e.0)) (below_all R k es)
      (T_from_true (is_lt (R k e.0)) (ap is_lt (total.congr k x e.0 t) ∙ T_true (is_lt (R x e.0)) (left_true (is_lt (R x e.0)) (below_all R x es) h)))
      (below_tied k x es t (right_true (is_lt (R x e.0)) (below_all R x es) h))

  pub below_less : (k x : K) (es : List (K × V)) → R k x ≡ Less → T (below_all R x es) → T (below_all R k es)
  below_less k x [] t h = tt
  below_less k x (e ∷ es) t h =
      both_true (is_lt (R k e.0)) (below_all R k es)
      (T_from_true (is_lt (R k e.0)) (ap is_lt (total.trans k x e.0 t (less_is (R x e.0) (T_true (is_lt (R x e.0)) (left_true (is_lt (R x e.0)) (below_all R x es) h))))))
      (below_less k x es t (right_true (is_lt (R x e.0)) (below_all R x es) h))

  pub remove_without : (k : K) (es : List (K × V)) → T (is_sorted R es) → remove_entry (is_at (R k)) es ≡ without R k es
  remove_without k [] h = refl
  remove_without k (e ∷ es) h = by_bool (is_eq (R k e.0))
      (λ t. ap (λ b. cond b es (e ∷ remove_entry (is_at (R k)) es)) t
      ∙ sym (all_without R k es (below_tied k e.0 es (equal_is (R k e.0) t) (left_true (below_all R e.0 es) (is_sorted R es) h)))
      ∙ sym (ap (λ b. cond (not b) (e ∷ without R k es) (without R k es)) t))
      (λ t. ap (λ b. cond b es (e ∷ remove_entry (is_at (R k)) es)) t
      ∙ ap (λ rest. e ∷ rest) (remove_without k es (right_true (below_all R e.0 es) (is_sorted R es) h))
      ∙ sym (ap (λ b. cond (not b) (e ∷ without R k es) (without R k es)) t))

-- a key that isn't there
pub nothing_without : {K V : Type 0} (R : K → K → Ordering) (k : K) (es : List (K × V)) → find R k es ≡ None → without R k es ≡ es
nothing_without R k [] h = refl
nothing_without {V = V} R k (e ∷ es) h = by_bool (is_eq (R k e.0))
    (λ t. let some : ◌≡◌ {A = Option V} (Some e.1) None = sym (ap (λ b. cond b (Some e.1) (find R k es)) t) ∙ h in cc)
    (λ t. ap (λ b. cond (not b) (e ∷ without R k es) (without R k es)) t ∙ ap (λ rest. e ∷ rest) (nothing_without R k es (sym (ap (λ b. cond b (Some e.1) (find R k es)) t) ∙ h)))

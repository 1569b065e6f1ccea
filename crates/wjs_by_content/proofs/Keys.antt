-- The keys of a renamed map are the renamed keys, in another order. What does not ask for the order is the same of both.
use Rattle.std.proofs.Common.{◌≡◌, Bool, true, false, cond, ◌||◌, T, List, [], ◌∷◌, refl, ap, sym, ◌∙◌, subst, fold, filter, map as each, Some, is_some, Ordering, Less, Equal, Greater, IsPermutation}
use Rattle.std.specs.Ordering.{eq_by_cmp, is_eq, is_lt}
use Rattle.std.specs.Cmp.{IsTotalOrder}
use Rattle.std.specs.List.{list_any}
use Rattle.std.specs.FinMap as map
use Rattle.std.specs.FinMap.{FinMap, IsAntisymmetric}
use Rattle.std.specs.FinMap.Entries.{by_order, below_all}
use Rattle.std.proofs.lemmas.Bool.{true≢false, or_parts}
use Rattle.std.proofs.lemmas.List.Sorted.{IsPermutation-refl, IsPermutation-cons, IsPermutation-trans, IsPermutation-middle}
use Rattle.std.proofs.lemmas.List.{nil_from_length}
use Rattle.wjs_base.proofs.Booleans.{left_true, right_true}
use Rattle.wjs_by_content.proofs.Maps.{same_key}
use Rattle.wjs_by_content.specs.Rename.{renamed}

-- a relation of lists that holds where one is the other in another order: only keys that are apart change places
pub record Reorder {J : Type 0} (S : J → J → Ordering) (L : List J → List J → Type 0) : Type 0 where
  pub same : (xs : List J) → L xs xs
  pub under : (a : J) (xs ys : List J) → L xs ys → L (a ∷ xs) (a ∷ ys)
  pub flip : (a b : J) (xs : List J) → eq_by_cmp S a b ≡ false → L (a ∷ b ∷ xs) (b ∷ a ∷ xs)
  pub trans : (xs ys zs : List J) → L xs ys → L ys zs → L xs zs

less_apart : (o : Ordering) → T (is_lt o) → is_eq o ≡ false
less_apart Less h = refl
less_apart Equal h = absurd h
less_apart Greater h = absurd h

abbrev pub firsts : {K X : Type 0} → List (K × X) → List K
firsts es = each (λ e. e.0) es

-- no key stands twice
abbrev pub Apart : {K X : Type 0} → (K → K → Ordering) → List (K × X) → Type 0
Apart S [] = Unit {0}
Apart S (e ∷ es) = (list_any (eq_by_cmp S e.0) (firsts es) ≡ false) × Apart S es

module _ {K X : Type 0} (R : K → K → Ordering) where
  above : (k : K) (es : List (K × X)) → T (below_all R k es) → list_any (eq_by_cmp R k) (firsts es) ≡ false
  above k [] h = refl
  above k (e ∷ es) h = ap (λ b. b || list_any (eq_by_cmp R k) (firsts es)) (less_apart (R k e.0) (left_true _ _ h)) ∙ above k es (right_true _ _ h)

  pub sorted_apart : (es : List (K × X)) → T (map.is_sorted R es) → Apart R es
  sorted_apart [] h = tt
  sorted_apart (e ∷ es) h = (above e.0 es (left_true _ _ h), sorted_apart es (right_true _ _ h))

  pub found_first : (q : K) (es : List (K × X)) → is_some (map.find R q es) ≡ list_any (eq_by_cmp R q) (firsts es)
  found_first q [] = refl
  found_first q (e ∷ es) = by (eq_by_cmp R q e.0) (found_first q es)
    where
      by : (b : Bool) → is_some (map.find R q es) ≡ list_any (eq_by_cmp R q) (firsts es) → is_some (cond b (Some e.1) (map.find R q es)) ≡ (b || list_any (eq_by_cmp R q) (firsts es))
      by true h = refl
      by false h = h

  pub empty_entries : map.entries (map.empty {X = X} {R = R}) ≡ []
  empty_entries = nil_from_length _ (sym (map.len-entries (map.empty {X = X} {R = R})) ∙ map.len-empty R X)

module _ {J Y : Type 0} {S : J → J → Ordering} (L : List J → List J → Type 0) (l : Reorder S L) where
  put_at : (o : Ordering) (k : J) (v : Y) (e : J × Y) (es : List (J × Y)) → S k e.0 ≡ o → (eq_by_cmp S k e.0 || list_any (eq_by_cmp S k) (firsts es)) ≡ false → L (k ∷ firsts es) (firsts (map.put S k v es)) → L (k ∷ e.0 ∷ firsts es) (firsts (by_order o ((k, v) ∷ e ∷ es) ((e.0, v) ∷ es) (e ∷ map.put S k v es)))
  put_at Less k v e es is h rest = l.same (k ∷ e.0 ∷ firsts es)
  put_at Equal k v e es is h rest = absurd (true≢false (sym (ap is_eq is) ∙ (or_parts (eq_by_cmp S k e.0) (list_any (eq_by_cmp S k) (firsts es)) h).0))
  put_at Greater k v e es is h rest = l.trans _ (e.0 ∷ k ∷ firsts es) _ (l.flip k e.0 (firsts es) (or_parts (eq_by_cmp S k e.0) (list_any (eq_by_cmp S k) (firsts es)) h).0) (l.under e.0 (k ∷ firsts es) (firsts (map.put S k v es)) rest)

  put_order : (k : J) (v : Y) (es : List (J × Y)) → list_any (eq_by_cmp S k) (firsts es) ≡ false → L (k ∷ firsts es) (firsts (map.put S k v es))
  put_order k v [] h = l.same (k ∷ [])
  put_order k v (e ∷ es) h = put_at (S k e.0) k v e es refl h (put_order k v es (or_parts (eq_by_cmp S k e.0) (list_any (eq_by_cmp S k) (firsts es)) h).1)

  -- the keys of a map that is made of entries are the entries' keys in another order
  made_order : IsTotalOrder S → (es : List (J × Y)) → Apart S es → L (firsts es) (map.keys (map.from_entries {R = S} es))
  made_order t [] h = subst (λ (fs : List (J × Y)). L [] (firsts fs)) (sym (empty_entries S)) (l.same [])
  made_order t (e ∷ es) h =
      let m = map.from_entries {R = S} es in
      let new : list_any (eq_by_cmp S e.0) (map.keys m) ≡ false = sym (map.contains_key-keys m e.0) ∙ ap is_some (map.get-from_entries t es e.0) ∙ found_first S e.0 es ∙ h.0 in
      l.trans _ (e.0 ∷ map.keys m) _ (l.under e.0 (firsts es) (map.keys m) (made_order t es h.1))
      (subst (λ (fs : List (J × Y)). L (e.0 ∷ map.keys m) (firsts fs)) (sym (map.entries-insert t m e.0 e.1)) (put_order e.0 e.1 (map.entries m) new))

module _ {K J : Type 0} {R : K → K → Ordering} {S : J → J → Ordering} (rt : IsTotalOrder R) (re : IsAntisymmetric R) (st : IsTotalOrder S) (se : IsAntisymmetric S) (f : K → J) (tell : (a b : K) → f a ≡ f b → a ≡ b) where
  any_renamed : {X Y : Type 0} (g : X → Y) (k : K) (es : List (K × X)) → list_any (eq_by_cmp S (f k)) (firsts (each (λ e. (f e.0, g e.1)) es)) ≡ list_any (eq_by_cmp R k) (firsts es)
  any_renamed g k [] = refl
  any_renamed g k (e ∷ es) = ap (λ b. b || list_any (eq_by_cmp S (f k)) (firsts (each (λ e. (f e.0, g e.1)) es))) (same_key rt re st se f tell k e.0) ∙ ap (λ b. eq_by_cmp R k e.0 || b) (any_renamed g k es)

  apart_renamed : {X Y : Type 0} (g : X → Y) (es : List (K × X)) → Apart R es → Apart S (each (λ e. (f e.0, g e.1)) es)
  apart_renamed g [] h = tt
  apart_renamed g (e ∷ es) h = (any_renamed g e.0 es ∙ h.0, apart_renamed g es h.1)

  firsts_renamed : {X Y : Type 0} (g : X → Y) (es : List (K × X)) → firsts (each (λ e. (f e.0, g e.1)) es) ≡ each f (firsts es)
  firsts_renamed g [] = refl
  firsts_renamed g (e ∷ es) = ap (λ ks. f e.0 ∷ ks) (firsts_renamed g es)

  pub keys_renamed : {X Y : Type 0} (L : List J → List J → Type 0) → Reorder S L → (g : X → Y) (m : FinMap R X) → L (each f (map.keys m)) (map.keys (renamed {S = S} f g m))
  keys_renamed {Y = Y} L l g m = subst (λ ks. L ks (map.keys (renamed {S = S} f g m))) (firsts_renamed g (map.entries m))
      (made_order {Y = Y} L l st (each (λ e. (f e.0, g e.1)) (map.entries m)) (apart_renamed g (map.entries m) (sorted_apart R (map.entries m) (map.entries_sorted m))))

-- ---- what does not ask for the order

-- the steps of a fold commute at keys that are apart
abbrev pub Commutes : {A J : Type 0} → (J → J → Ordering) → (A → J → A) → Type 0
Commutes {A} {J} S step = (z : A) (a b : J) → eq_by_cmp S a b ≡ false → step (step z a) b ≡ step (step z b) a

pub folds : {A J : Type 0} (S : J → J → Ordering) (step : A → J → A) → Commutes S step → Reorder S (λ xs ys. (z : A) → fold step z ys ≡ fold step z xs)
folds S step c = record {
  same = λ xs z. refl;
  under = λ a xs ys h z. h (step z a);
  flip = λ a b xs e z. ap (λ y. fold step y xs) (sym (c z a b e));
  trans = λ xs ys zs h k z. k z ∙ h z;
}

pub anys : {J : Type 0} (S : J → J → Ordering) (p : J → Bool) → Reorder S (λ xs ys. list_any p ys ≡ list_any p xs)
anys S p = record {
  same = λ xs. refl;
  under = λ a xs ys h. ap (λ b. p a || b) h;
  flip = λ a b xs e. swap_or (p b) (p a) (list_any p xs);
  trans = λ xs ys zs h k. k ∙ h;
}
  where
    swap_or : (a b c : Bool) → (a || (b || c)) ≡ (b || (a || c))
    swap_or true true c = refl
    swap_or true false c = refl
    swap_or false true c = refl
    swap_or false false c = refl

-- the same for the keys that pass a test
pub folds_of : {A J : Type 0} (S : J → J → Ordering) (p : J → Bool) (step : A → J → A) → Commutes S step → Reorder S (λ xs ys. (z : A) → fold step z (filter p ys) ≡ fold step z (filter p xs))
folds_of {A} {J} S p step c = record {
  same = λ xs z. refl;
  under = λ a xs ys h z. under_if (p a) a (filter p xs) (filter p ys) h z;
  flip = λ a b xs e z. flip_if (p a) (p b) a b (filter p xs) e z;
  trans = λ xs ys zs h k z. k z ∙ h z;
}
  where
    under_if : (b : Bool) (a : J) (xs ys : List J) → ((z : A) → fold step z ys ≡ fold step z xs) → (z : A) → fold step z (cond b (a ∷ ys) ys) ≡ fold step z (cond b (a ∷ xs) xs)
    under_if true a xs ys h z = h (step z a)
    under_if false a xs ys h z = h z

    flip_if : (p q : Bool) (a b : J) (xs : List J) → eq_by_cmp S a b ≡ false → (z : A) → fold step z (cond q (b ∷ cond p (a ∷ xs) xs) (cond p (a ∷ xs) xs)) ≡ fold step z (cond p (a ∷ cond q (b ∷ xs) xs) (cond q (b ∷ xs) xs))
    flip_if true true a b xs e z = ap (λ y. fold step y xs) (sym (c z a b e))
    flip_if true false a b xs e z = refl
    flip_if false true a b xs e z = refl
    flip_if false false a b xs e z = refl

pub permutes : {J : Type 0} (S : J → J → Ordering) (p : J → Bool) → Reorder S (λ xs ys. IsPermutation (filter p xs) (filter p ys))
permutes {J} S p = record {
  same = λ xs. IsPermutation-refl (filter p xs);
  under = λ a xs ys h. under_if (p a) a (filter p xs) (filter p ys) h;
  flip = λ a b xs e. flip_if (p a) (p b) a b (filter p xs);
  trans = λ xs ys zs h k. IsPermutation-trans (filter p xs) (filter p ys) (filter p zs) h k;
}
  where
    under_if : (b : Bool) (a : J) (xs ys : List J) → IsPermutation xs ys → IsPermutation (cond b (a ∷ xs) xs) (cond b (a ∷ ys) ys)
    under_if true a xs ys h = IsPermutation-cons a xs ys h
    under_if false a xs ys h = h

    flip_if : (p q : Bool) (a b : J) (xs : List J) → IsPermutation (cond p (a ∷ cond q (b ∷ xs) xs) (cond q (b ∷ xs) xs)) (cond q (b ∷ cond p (a ∷ xs) xs) (cond p (a ∷ xs) xs))
    flip_if true true a b xs = IsPermutation-middle (a ∷ []) b xs
    flip_if true false a b xs = IsPermutation-refl (a ∷ xs)
    flip_if false true a b xs = IsPermutation-refl (b ∷ xs)
    flip_if false false a b xs = IsPermutation-refl xs

-- What a sort leaves: elements that are apart ascend strictly.
use Rattle.std.proofs.Common.{◌≡◌, ℕ, zero, suc, ◌+◌, ◌<◌, ◌≤◌, Bool, true, false, cond, T, List, [], ◌∷◌, refl, ap, ◌∙◌, map as each, Ordering, arith, length, get_or, sum_by}
use Rattle.std.specs.declared.cmp.Ordering.TheVariants.{Less, Equal, Greater}
use Rattle.std.specs.Ordering.{eq_by_cmp, is_lt, is_eq, ordering_reverse}
use Rattle.std.specs.Cmp.{IsTotalOrder, tied_itself}
use Rattle.std.specs.List.Sorted.{IsSortedBy, IsSorted}
use Rattle.std.specs.FinMap as map
use Rattle.std.specs.FinMap.Entries.{below_all}
use Rattle.std.proofs.lemmas.List.{get_or-map, length-map}
use Rattle.std.proofs.lemmas.List.Sums.{sum_by-cons}
use Rattle.std.proofs.lemmas.List.Sorted.{ranks_by, sorted_far}
use Rattle.wjs_base.proofs.Booleans.{both_true}
use Rattle.wjs_by_content.specs.Ascends.{tagged, Ascends}
use Rattle.wjs_by_content.specs.Renamed.{Holds}

-- ---- of what each element becomes

module _ {X : Type 0} (P : X → Type 0) where
  holds_or : (xs : List X) (k : ℕ) (d : X) → Holds P xs → k < length xs → P (get_or xs k d)
  holds_or [] k d h l = absurd (omega arith)
  holds_or (x ∷ xs) zero d h l = h.0
  holds_or (x ∷ xs) (suc k) d h l = let m : k < length xs = omega arith in holds_or xs k d h.1 m

module _ {X Y : Type 0} (f : X → Y) (P : X → Type 0) (lt : X → X → Bool) (less : Y → Y → Bool) (same : (a b : X) → P a → P b → less (f a) (f b) ≡ lt a b) where
  -- a list stays sorted where the tests agree
  pub sorted_map : (xs : List X) → Holds P xs → IsSortedBy lt xs → IsSortedBy less (each f xs)
  sorted_map [] h s k d low high = absurd (omega (arith, high))
  sorted_map (x ∷ xs) h s k d low high =
      let long : length (each f (x ∷ xs)) ≡ length (x ∷ xs) = length-map (x ∷ xs) f in
      let n : k + 1 < length (x ∷ xs) = omega (arith, high, long) in
      let m : k < length (x ∷ xs) = omega (arith, n) in
      let later : get_or (each f (x ∷ xs)) (k + 1) d ≡ f (get_or (x ∷ xs) (k + 1) x) = get_or-map f (x ∷ xs) (k + 1) x d n in
      let here : get_or (each f (x ∷ xs)) k d ≡ f (get_or (x ∷ xs) k x) = get_or-map f (x ∷ xs) k x d m in
      (λ i. less (later i) (here i)) ∙ same (get_or (x ∷ xs) (k + 1) x) (get_or (x ∷ xs) k x) (holds_or P (x ∷ xs) (k + 1) x h n) (holds_or P (x ∷ xs) k x h m) ∙ s k x low n

-- ---- elements that are apart

module _ {J : Type 0} (R : J → J → Ordering) where
  -- how often an element is there
  abbrev pub times : J → List J → ℕ
  times q xs = sum_by (λ x. cond (eq_by_cmp R q x) 1 0) xs

  -- none is less than one before it
  Rising : List J → Type 0
  Rising xs = (i j : ℕ) (d : J) → i < j → j < length xs → is_lt (R (get_or xs j d) (get_or xs i d)) ≡ false

  module _ (total : IsTotalOrder R) where
    less_of : (x y : J) → is_lt (R y x) ≡ false → eq_by_cmp R x y ≡ false → T (is_lt (R x y))
    less_of x y never apart = by (R x y) (R y x) (total.antisymm x y) never apart
      where
        by : (a b : Ordering) → a ≡ ordering_reverse b → is_lt b ≡ false → is_eq a ≡ false → T (is_lt a)
        by Less b e f q = tt
        by Equal b e f q = cc
        by Greater Less e f q = cc
        by Greater Equal e f q = cc
        by Greater Greater e f q = cc

    below : (x : J) (xs : List J) → ((j : ℕ) (d : J) → j < length xs → is_lt (R (get_or xs j d) x) ≡ false) → times x xs ≡ 0 → T (below_all R x (tagged xs))
    below x [] never apart = tt
    below x (y ∷ ys) never apart = by (eq_by_cmp R x y) refl (λ rest. below x ys (λ j d l. let m : suc j < length (y ∷ ys) = omega (arith, l) in never (suc j) d m) rest)
      where
        counted : times x (y ∷ ys) ≡ cond (eq_by_cmp R x y) 1 0 + times x ys
        counted = sum_by-cons (λ z. cond (eq_by_cmp R x z) 1 0) y ys

        by : (b : Bool) → eq_by_cmp R x y ≡ b → (times x ys ≡ 0 → T (below_all R x (tagged ys))) → T (below_all R x (tagged (y ∷ ys)))
        by true e later = let one = ap (λ (b : Bool). cond b 1 0 + times x ys) e in absurd (omega (arith, one, counted, apart))
        by false e later =
            let none = ap (λ (b : Bool). cond b 1 0 + times x ys) e in
            let rest : times x ys ≡ 0 = omega (arith, none, counted, apart) in
            let first : 0 < length (y ∷ ys) = omega arith in
            both_true (is_lt (R x y)) (below_all R x (tagged ys)) (less_of x y (never 0 y first) e) (later rest)

    rising_ascends : (xs : List J) → Rising xs → ((q : J) → times q xs ≤ 1) → Ascends R xs
    unfolding Rising
    rising_ascends [] r once = tt
    rising_ascends (x ∷ xs) r once =
        both_true (below_all R x (tagged xs)) (map.is_sorted R (tagged xs))
        (below x xs (λ j d l. let m : suc j < length (x ∷ xs) = omega (arith, l) in let i : 0 < suc j = omega arith in r 0 (suc j) d i m) none)
        (rising_ascends xs (λ i j d l m. let a : suc i < suc j = omega (arith, l) in let b : suc j < length (x ∷ xs) = omega (arith, m) in r (suc i) (suc j) d a b)
        (λ q. let c = counted q in let o = once q in omega (arith, c, o)))
      where
        counted : (q : J) → times q (x ∷ xs) ≡ cond (eq_by_cmp R q x) 1 0 + times q xs
        counted q = sum_by-cons (λ z. cond (eq_by_cmp R q z) 1 0) x xs

        itself : eq_by_cmp R x x ≡ true
        itself = ap is_eq (tied_itself total x)

        none : times x xs ≡ 0
        none = let one = ap (λ (b : Bool). cond b 1 0 + times x xs) itself in let c = counted x in let o = once x in omega (arith, one, c, o)

    -- a sorted list in which each element stands once ascends strictly
    pub sorted_ascends : (xs : List J) → IsSorted R xs → ((q : J) → times q xs ≤ 1) → Ascends R xs
    unfolding Rising
    sorted_ascends xs s once = rising_ascends xs (λ i j d l m. let le : i ≤ j = omega (arith, l) in sorted_far (λ a b. is_lt (R a b)) (ranks_by total (λ x. x)) xs s i j d le m) once

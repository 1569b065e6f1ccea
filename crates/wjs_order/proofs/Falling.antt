-- Numbers that fall by one down to 0.
use Rattle.std.specs.Prelude.{◌≡◌, ◌≢◌, ℕ, zero, suc, ◌+◌, ◌-◌, ◌<◌, ◌≤◌, List, [], ◌∷◌, map, length, drop}
use Rattle.std.proofs.Common.{refl, sym, ap, subst, ◌∙◌, inl, inr, arith, get_or, set, add-one, drop-cons, length-drop, get_or-set_other, get_or-set_same}
use Rattle.std.proofs.lemmas.List.{drop_all}
use Rattle.wjs_tree.specs.Used.{IsUsed, IsOnce}
use Rattle.wjs_order.specs.Order.{falling}
use Rattle.wjs_order.specs.Renumbered.{number_in}

falling_low : (n k : ℕ) → IsUsed (falling n) k → k < n
falling_low zero k h = elim h [ ]
falling_low (suc n) k (inl e) = omega arith
falling_low (suc n) k (inr h) = let lt = falling_low n k h in omega arith

pub falling_once : (n : ℕ) → IsOnce (falling n)
falling_once zero = tt
falling_once (suc n) = (λ h. (let lt = falling_low n n h in omega arith), falling_once n)

-- what stands in the list has a number below its length
pub numbered_low : (g : ℕ → ℕ) (us : List ℕ) → map g us ≡ falling (length us) → (k : ℕ) → IsUsed us k → g k < length us
numbered_low g [] e k h = elim h [ ]
numbered_low g (m ∷ us) e k (inl h) = let first : g m ≡ length us = cc in let same = ap g h in omega arith
numbered_low g (m ∷ us) e k (inr h) = let rest : map g us ≡ falling (length us) = cc in let lt = numbered_low g us rest k h in omega arith

-- an element of a list and those behind it
pub behind : (us : List ℕ) (left k : ℕ) → left < length us → k ≡ get_or us left 0 → drop left us ≡ k ∷ drop (left + 1) us
behind us left k lt e = subst (λ z. drop left us ≡ z ∷ drop (left + 1) us) (sym e) (rw add-one (drop-cons us left 0 lt))

once_drop : (n : ℕ) (us : List ℕ) → IsOnce us → IsOnce (drop n us)
once_drop zero us h = h
once_drop (suc n) [] h = tt
once_drop (suc n) (m ∷ us) h = once_drop n us h.1

others : (t : List ℕ) (k v : ℕ) (us : List ℕ) → (IsUsed us k → ⊥) → map (number_in (set t k v)) us ≡ map (number_in t) us
others t k v [] apart = refl
others t k v (m ∷ us) apart =
    let ne : m ≢ k = λ e. apart (inl (sym e)) in
    let here = get_or-set_other t k m v 0 ne in
    let rest = others t k v us (λ h. apart (inr h)) in
    cc

put : (t more : List ℕ) (k v : ℕ) → v ≡ length more → k < length t → (IsUsed more k → ⊥) → map (number_in t) more ≡ falling (length more) → map (number_in (set t k v)) (k ∷ more) ≡ falling (length (k ∷ more))
put t more k v long lt apart same =
    let here = get_or-set_same t k v 0 lt in
    let rest = others t k v more apart in
    cc

-- the numbers from one of them on have their new numbers in the table
pub record Filled (order t : List ℕ) (left : ℕ) : Type 0 where
  pub within : left ≤ length order
  pub same : map (number_in t) (drop left order) ≡ falling (length (drop left order))

pub filled_none : (order t : List ℕ) → Filled order t (length order)
filled_none order t = record { within = omega arith; same = subst (λ z. map (number_in t) z ≡ falling (length z)) (sym (drop_all (length order) order (omega arith))) refl }

pub filled_more : (order t u : List ℕ) (left k v : ℕ) → left < length order → k ≡ get_or order left 0 → v ≡ length order - (left + 1) → u ≡ set t k v → k < length t → IsOnce order → Filled order t (left + 1) → Filled order u left
filled_more order t u left k v lt e long is within once f =
    let cut = behind order left k lt e in
    let apart : IsOnce (k ∷ drop (left + 1) order) = subst IsOnce cut (once_drop left order once) in
    record {
      within = omega arith;
      same =
          subst (λ z. map (number_in z) (drop left order) ≡ falling (length (drop left order))) (sym is)
          (subst (λ z. map (number_in (set t k v)) z ≡ falling (length z)) (sym cut)
          (put t (drop (left + 1) order) k v (long ∙ sym (length-drop (left + 1) order)) within apart.0 f.same));
    }

pub filled_all : (order t : List ℕ) (left : ℕ) → left ≤ 0 → Filled order t left → map (number_in t) order ≡ falling (length order)
filled_all order t left le f = let none : left ≡ 0 = omega arith in subst (λ z. map (number_in t) (drop z order) ≡ falling (length (drop z order))) none f.same

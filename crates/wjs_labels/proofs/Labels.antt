-- Labels that stand around.
use Rattle.std.specs.Prelude.{◌≡◌, zero, suc, ◌⊎◌, ◌↔◌, Bool, true, false, List, ◌∷◌, Contains}
use Rattle.std.proofs.Common.{inl, inr, arith, IsTrue, nat_eq, subst}
use Rattle.wjs_base.specs.declared.ids.TextId.{TextId}

contains_tail : {X : Type 0} (x y : X) (xs : List X) → Contains xs y → Contains (x ∷ xs) y
contains_tail x y xs h = (suc h.0, (let k = h.1 in omega arith), h.2)

contains_either : {X : Type 0} (x y : X) (xs : List X) → Contains (x ∷ xs) y → (x ≡ y) ⊎ Contains xs y
contains_either x y xs (zero, lt, e) = inl e
contains_either x y xs (suc k, lt, e) = inr (k, omega arith, e)

other : (x y : TextId) (same : Bool) → same ≡ nat_eq x.0 y.0 → same ≡ false → x ≡ y → ⊥
other x y same is different e = let self : nat_eq x.0 x.0 ≡ true = grind arith in let moved : nat_eq x.0 y.0 ≡ true = subst (λ (z : TextId). nat_eq x.0 z.0 ≡ true) e self in (cc)

-- the nearest label is another one
pub goes_outwards : (x y : TextId) (xs : List TextId) (b same : Bool) → same ≡ nat_eq x.0 y.0 → same ≡ false → (IsTrue b ↔ Contains xs y) → IsTrue b ↔ Contains (x ∷ xs) y
goes_outwards x y xs b same is different w = (λ e. contains_tail x y xs (w.0 e), λ h. elim (contains_either x y xs h) [ inl e ↦ absurd (other x y same is different e) | inr k ↦ w.1 k ])

-- Elements of lists by their places, and lists of which one was set.
use Rattle.std.proofs.Common.{◌≡◌, ℕ, zero, suc, List, [], ◌∷◌, set, None, Some, refl, ap}
use Rattle.std.specs.Prelude.{slice_get}

pub set_other : {A : Type 0} (xs : List A) (i j : ℕ) (y : A) → ¬ (j ≡ i) → slice_get (set xs i y) j ≡ slice_get xs j
set_other [] i j y apart = refl
set_other (x ∷ xs) zero zero y apart = absurd (apart refl)
set_other (x ∷ xs) zero (suc j) y apart = refl
set_other (x ∷ xs) (suc i) zero y apart = refl
set_other (x ∷ xs) (suc i) (suc j) y apart = set_other xs i j y (λ e. apart (ap suc e))

pub set_there : {A : Type 0} (xs : List A) (i : ℕ) (x y : A) → slice_get xs i ≡ Some x → slice_get (set xs i y) i ≡ Some y
set_there [] i x y at = let none : None ≡ Some x = at in absurd (cc)
set_there (z ∷ xs) zero x y at = refl
set_there (z ∷ xs) (suc i) x y at = set_there xs i x y at

pub set_twice : {A : Type 0} (xs : List A) (i : ℕ) (x y : A) → set (set xs i x) i y ≡ set xs i y
set_twice [] i x y = refl
set_twice (z ∷ xs) zero x y = refl
set_twice (z ∷ xs) (suc i) x y = ap (λ (l : List _). z ∷ l) (set_twice xs i x y)

-- The last of a list.
use Rattle.std.proofs.Common.{◌≡◌, suc, ◌-◌, true, false, List, [], ◌∷◌, ◌++◌, Some, is_some, length, slice_get, refl, sym, ap, ◌∙◌, arith}
use Rattle.wjs_model.specs.Frames.{last, front, on_last}

pub last-snoc : {A : Type 0} (xs : List A) (x : A) → last (xs ++ x ∷ []) ≡ Some x
last-snoc [] x = refl
last-snoc (y ∷ []) x = refl
last-snoc (y ∷ z ∷ xs) x = last-snoc (z ∷ xs) x

pub front-snoc : {A : Type 0} (xs : List A) (x : A) → front (xs ++ x ∷ []) ≡ xs
front-snoc [] x = refl
front-snoc (y ∷ []) x = refl
front-snoc (y ∷ z ∷ xs) x = ap (λ l. y ∷ l) (front-snoc (z ∷ xs) x)

pub last-get : {A : Type 0} (xs : List A) → last xs ≡ slice_get xs (length xs - 1)
last-get [] = refl
last-get (x ∷ []) = refl
last-get (x ∷ y ∷ xs) =
    let e : length (y ∷ xs) - 1 ≡ length xs = omega arith in
    let d : length (x ∷ y ∷ xs) - 1 ≡ suc (length xs) = omega arith in
    last-get (y ∷ xs) ∙ ap (λ i. slice_get (y ∷ xs) i) e ∙ sym (ap (λ i. slice_get (x ∷ y ∷ xs) i) d)

pub on_last-snoc : {A : Type 0} (g : A → A) (xs : List A) (x : A) → on_last g (xs ++ x ∷ []) ≡ xs ++ g x ∷ []
on_last-snoc g [] x = refl
on_last-snoc g (y ∷ []) x = refl
on_last-snoc g (y ∷ z ∷ xs) x = ap (λ l. y ∷ l) (on_last-snoc g (z ∷ xs) x)

-- a list with a last is what stands before it, and it
pub before-last : {A : Type 0} (xs : List A) (P : Type 0) → true ≡ is_some (last xs) → ((ys : List A) (y : A) → xs ≡ ys ++ y ∷ [] → P) → P
before-last [] P h k = absurd cc
before-last (x ∷ []) P h k = k [] x refl
before-last (x ∷ y ∷ xs) P h k = before-last (y ∷ xs) P h (λ ys z e. k (x ∷ ys) z (ap (λ l. x ∷ l) e))

pub none-last : {A : Type 0} (xs : List A) → false ≡ is_some (last xs) → xs ≡ []
none-last [] h = refl
none-last (x ∷ []) h = absurd cc
none-last (x ∷ y ∷ xs) h = absurd (let e : y ∷ xs ≡ [] = none-last (y ∷ xs) h in cc)

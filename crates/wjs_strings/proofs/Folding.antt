-- Numbers one after another.
use Rattle.std.proofs.Common.{◌≡◌, ℕ, ◌+◌, ◌<◌, ◌≤◌, ℤ, List, length, get_or, drop, map, fold, Some, None, refl, ap, ◌∙◌, sym}
use Rattle.std.proofs.lemmas.List.{at_drop_more, at_drop_all}
use Rattle.wjs_by_content.specs.Values.{Whole, Value, Undefined, Null, Boolean, Number, String, Object}
use Rattle.wjs_meaning.specs.NativesOfTexts.{either}
use Rattle.wjs_meaning.specs.NativesOfObjects.{whole_of}

-- a value counts as its number
either_number : (f : ℤ → ℤ → ℤ) (x : Whole) (v : Value) → either f x v ≡ either f x (Number (whole_of v))
either_number f None Undefined = refl
either_number f None Null = refl
either_number f None (Boolean b) = refl
either_number f None (Number y) = refl
either_number f None (String s) = refl
either_number f None (Object o) = refl
either_number f (Some a) Undefined = refl
either_number f (Some a) Null = refl
either_number f (Some a) (Boolean b) = refl
either_number f (Some a) (Number y) = refl
either_number f (Some a) (String s) = refl
either_number f (Some a) (Object o) = refl

-- where its number is known
pub either_read : (f : ℤ → ℤ → ℤ) (x : Whole) (v : Value) (y : Whole) (z : Whole) → whole_of v ≡ y → either f x (Number y) ≡ z → either f x v ≡ z
either_read f x v y z e h = either_number f x v ∙ ap (λ w. either f x (Number w)) e ∙ h

-- a step of a fold over what is left of a list
pub fold_step : {A X Y : Type 0} (F : A → X → A) (g : Y → X) (xs : List Y) (i : ℕ) (y : Y) (a b r : A) → i < length xs → y ≡ get_or xs i y → F a (g y) ≡ b → fold F a (map g (drop i xs)) ≡ r → fold F b (map g (drop (i + 1) xs)) ≡ r
fold_step F g xs i y a b r h e s k =
    let rest = map g (drop (i + 1) xs) in
    let more : fold F a (map g (drop i xs)) ≡ fold F (F a (g (get_or xs i y))) rest = at_drop_more (λ ys. fold F a (map g ys)) xs i y h in
    let here : F a (g (get_or xs i y)) ≡ b = ap (λ z. F a (g z)) (sym e) ∙ s in
    ap (λ z. fold F z rest) (sym here) ∙ sym more ∙ k

-- nothing is left
pub fold_end : {A X Y : Type 0} (F : A → X → A) (g : Y → X) (xs : List Y) (i : ℕ) (a r : A) → length xs ≤ i → fold F a (map g (drop i xs)) ≡ r → r ≡ a
fold_end F g xs i a r h k = sym k ∙ at_drop_all (λ ys. fold F a (map g ys)) xs i h

-- Tests and their conjunctions.
use Rattle.std.proofs.Common.{◌≡◌, Bool, true, false, not, ◌&&◌, ◌||◌, T, refl}
use Rattle.std.proofs.lemmas.Bool.{false≢true}

pub by_bool : {P : Type 0} (b : Bool) → (b ≡ true → P) → (b ≡ false → P) → P
by_bool true f g = f refl
by_bool false f g = g refl

pub left_true : (a b : Bool) → T (a && b) → T a
left_true true b h = tt
left_true false b h = h

pub right_true : (a b : Bool) → T (a && b) → T b
right_true true b h = h
right_true false b h = absurd h

pub both_true : (a b : Bool) → T a → T b → T (a && b)
both_true true b h k = k
both_true false b h k = h

pub T_true : (b : Bool) → T b → b ≡ true
T_true true h = refl
T_true false h = absurd h

-- two tests that tell the same
pub same_answer : (a b : Bool) → (a ≡ true → b ≡ true) → (b ≡ true → a ≡ true) → a ≡ b
same_answer true true f g = refl
same_answer false false f g = refl
same_answer true false f g = let h = f refl in cc
same_answer false true f g = let h = g refl in cc

pub and_false : (b : Bool) → (b && false) ≡ false
and_false true = refl
and_false false = refl

pub or_false : (b : Bool) → (b || false) ≡ b
or_false true = refl
or_false false = refl

pub not_true : (b : Bool) → not b ≡ true → b ≡ false
not_true true h = absurd (false≢true h)
not_true false h = refl

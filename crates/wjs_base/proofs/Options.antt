-- What may be there, and whether it is.
use Rattle.std.proofs.Common.{◌≡◌, Bool, true, false, cond, ◌||◌, Option, None, Some, is_some, option_map, refl, true≢false}
use Rattle.std.proofs.lemmas.Bool.{false≢true}
use Rattle.std.specs.Option.{option_map_or}

pub by_option : {A P : Type 0} (o : Option A) → (o ≡ None → P) → ((a : A) → o ≡ Some a → P) → P
by_option None f g = f refl
by_option (Some a) f g = g a refl

pub with_some : {P A : Type 0} (o : Option A) → is_some o ≡ true → ((a : A) → o ≡ Some a → P) → P
with_some None h f = absurd (false≢true h)
with_some (Some a) h f = f a refl

pub none_of : {A : Type 0} (o : Option A) → is_some o ≡ false → o ≡ None
none_of None h = refl
none_of (Some a) h = absurd (true≢false h)

pub no_none : {A P : Type 0} (a : A) → None ≡ Some a → P
no_none a h = cc

-- what is there is one thing
pub same_there : {A : Type 0} (o : Option A) (a b : A) → o ≡ Some a → o ≡ Some b → a ≡ b
same_there o a b p q = cc

pub none_there : {A : Type 0} (o : Option A) (a : A) → o ≡ None → o ≡ Some a → ⊥
none_there o a p q = cc

-- a function leaves whether something is there
pub some_map : {A B : Type 0} (f : A → B) (o : Option A) → is_some (option_map f o) ≡ is_some o
some_map f None = refl
some_map f (Some a) = refl

-- a branch commutes with a function
pub map_cond : {A B : Type 0} (f : A → B) (b : Bool) (x : A) (o : Option A) → option_map f (cond b (Some x) o) ≡ cond b (Some (f x)) (option_map f o)
map_cond f true x o = refl
map_cond f false x o = refl

pub some_cond : {A : Type 0} (b : Bool) (x : A) (o : Option A) → is_some (cond b (Some x) o) ≡ (b || is_some o)
some_cond true x o = refl
some_cond false x o = refl

-- a test that holds of what is there, and of nothing else
pub some_tested : {A : Type 0} (p : A → Bool) (o : Option A) → option_map_or p o false ≡ true → is_some o ≡ true
some_tested p None h = absurd (false≢true h)
some_tested p (Some a) h = refl

-- Lists whose last is on top.
use Rattle.std.specs.Prelude.{◌≡◌, List, [], ◌∷◌, ◌++◌, Option, None, Some}

-- the last, and all but the last
abbrev pub last : {A : Type 0} → List A → Option A
last [] = None
last (x ∷ []) = Some x
last (x ∷ y ∷ xs) = last (y ∷ xs)

abbrev pub front : {A : Type 0} → List A → List A
front [] = []
front (x ∷ []) = []
front (x ∷ y ∷ xs) = x ∷ front (y ∷ xs)

-- the last is changed
abbrev pub on_last : {A : Type 0} → (A → A) → List A → List A
on_last g [] = []
on_last g (x ∷ []) = g x ∷ []
on_last g (x ∷ y ∷ xs) = x ∷ on_last g (y ∷ xs)

-- the last is taken off; none exactly of the empty list
abbrev pub Pops : {A : Type 0} → List A → Option A → List A → Type 0
Pops old None new = (old ≡ []) × (new ≡ [])
Pops old (Some x) new = old ≡ new ++ x ∷ []

-- the latest is taken off a list that has it first; none exactly of the empty list
abbrev pub Uncovers : {A : Type 0} → List A → Option A → List A → Type 0
Uncovers old None new = (old ≡ []) × (new ≡ [])
Uncovers old (Some x) new = old ≡ x ∷ new

-- a list with the latest first, from the earliest on
abbrev pub earliest_first : {A : Type 0} → List A → List A
earliest_first [] = []
earliest_first (x ∷ xs) = earliest_first xs ++ x ∷ []

-- a list from the latest on
abbrev pub latest_first : {A : Type 0} → List A → List A
latest_first [] = []
latest_first (x ∷ xs) = latest_first xs ++ x ∷ []

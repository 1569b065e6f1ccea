-- The numbers of the nodes that trees are made of.
use Rattle.std.specs.Prelude.{◌≡◌, ℕ, ◌⊎◌, List, [], ◌∷◌}

-- the number stands in the list
abbrev pub IsUsed : List ℕ → ℕ → Type 0
IsUsed [] n = ⊥
IsUsed (m ∷ rest) n = (n ≡ m) ⊎ IsUsed rest n

-- no number stands twice in the list
abbrev pub IsOnce : List ℕ → Type 0
IsOnce [] = Unit {0}
IsOnce (n ∷ rest) = (IsUsed rest n → ⊥) × IsOnce rest

-- no number stands in both lists
abbrev pub AreApart : List ℕ → List ℕ → Type 0
AreApart us vs = (n : ℕ) → IsUsed us n → IsUsed vs n → ⊥

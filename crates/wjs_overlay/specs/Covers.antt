-- Bounds on the serial numbers of the objects that worlds may have touched.
use Rattle.std.specs.Prelude.{◌≡◌, ℕ, ◌<◌, ◌≤◌, Bool, true, false, ◌&&◌, ◌||◌, nat_le, List, [], ◌∷◌, length, Some, slice_get}
use Rattle.wjs_overlay.specs.declared.bounds.Bound.{Bound}

-- a bound of this place, or of an earlier one, is no smaller than the serial number
abbrev pub covers : List Bound → ℕ → ℕ → Bool
covers [] place serial = false
covers (b ∷ bs) place serial = (nat_le b.place place && nat_le serial b.serial) || covers bs place serial

-- places rise, and serial numbers never fall
abbrev pub IsRising : List Bound → Type 0
IsRising bs = (i j : ℕ) (a b : Bound) → i < j → slice_get bs i ≡ Some a → slice_get bs j ≡ Some b → (a.place < b.place) × (a.serial ≤ b.serial)

-- the bounds of places up to this one are the first n
pub record IsCount (bs : List Bound) (place n : ℕ) : Type 0 where
  pub within : n ≤ length bs
  pub before : (k : ℕ) (b : Bound) → k < n → slice_get bs k ≡ Some b → b.place ≤ place
  pub after : (k : ℕ) (b : Bound) → n ≤ k → slice_get bs k ≡ Some b → place < b.place

-- what the old bounds cover, the new ones cover
abbrev pub Grows : List Bound → List Bound → Type 0
Grows old new = (place serial : ℕ) → covers old place serial ≡ true → covers new place serial ≡ true

-- How the code keeps objects: for each owner those that it has, by serial.
use Rattle.std.specs.Prelude.{◌≡◌, ℕ, ◌+◌, ◌==◌, not, cond, List, [], ◌∷◌, Some}
use Rattle.std.specs.Ordering.{nat_cmp}
use Rattle.std.specs.BTreeMap.{BTreeMap, get, is_at}
use Rattle.std.specs.FinMap as map
use Rattle.wjs_arena.specs.Entries.{Objects, Entry}

-- an owner's objects from a serial on, put over others
abbrev pub put_from : ℕ → ℕ → List Entry → Objects → Objects
put_from owner serial [] rest = rest
put_from owner serial (e ∷ es) rest = map.insert (put_from owner (serial + 1) es rest) (record { owner = owner; serial = serial }) e

-- all objects: the first list of an owner counts
abbrev pub objects_in : {V : Type 0} → (V → List Entry) → List (ℕ × V) → Objects
objects_in items [] = map.empty
objects_in items (x ∷ xs) = put_from x.0 0 (items x.1) (map.retain_keys (objects_in items xs) (λ id. not (id.owner == x.0)))

-- an owner has got its first object
abbrev pub PutsFirst : {V : Type 0} → (V → List Entry) → BTreeMap ℕ V → BTreeMap ℕ V → ℕ → Entry → Type 0
PutsFirst {V} items old new owner e = (rows : V) × (items rows ≡ e ∷ []) × ((q : ℕ) → get nat_cmp new q ≡ cond (is_at (nat_cmp owner) q) (Some rows) (get nat_cmp old q))

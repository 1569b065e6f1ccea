-- The rows at the first indices, and those at all other names.
use Rattle.std.specs.Prelude.{◌≡◌, ℕ, ◌+◌, ◌<◌, ◌≤◌, ◌^◌, cond, nat_lt, List, [], ◌∷◌, Option, None, Some, slice_get}
use Rattle.std.specs.FinMap.Entries.{find}
use Rattle.wjs_base.specs.declared.values.Name.{Name}
use Rattle.wjs_base.specs.declared.values.Name.TheVariants.{Index, Text}
use Rattle.wjs_base.specs.Order.{name_cmp}
use Rattle.wjs_names.specs.Lists.{IsInOrder}

-- the place of a name among the first n indices
abbrev pub index_in : ℕ → Name → Option ℕ
index_in n (Index i) = cond (nat_lt i n) (Some i) None
index_in n (Text t) = None

-- what stands at a place, if there is such a place
abbrev pub held_in : {V : Type 0} → Option (Option V) → Option V
held_in None = None
held_in (Some held) = held

-- the value at a name, where these are held at the first indices
abbrev pub dense_value : {V : Type 0} → List (Option V) → Name → Option V
dense_value dense (Index i) = held_in (slice_get dense i)
dense_value dense (Text t) = None

-- the rows at the indices from this one on
abbrev pub dense_rows : {V : Type 0} → ℕ → List (Option V) → List (Name × V)
dense_rows i [] = []
dense_rows i (None ∷ dense) = dense_rows (i + 1) dense
dense_rows i (Some value ∷ dense) = (Index i, value) ∷ dense_rows (i + 1) dense

-- what holds of the number of places at the first indices and the rows at all other names
pub record IsBeside {V : Type 0} (n : ℕ) (rest : List (Name × V)) : Type 0 where
  pub short : n ≤ 2 ^ 32
  pub apart : (i : ℕ) → i < n → find name_cmp (Index i) rest ≡ None
  pub ordered : IsInOrder name_cmp rest

-- How far a text can be moved along itself, and where it stands in another.
use Rattle.std.specs.Prelude.{◌≡◌, ℕ, ◌+◌, ◌<◌, ◌≤◌, suc, List, length, slice_index}
use Rattle.wjs_by_content.specs.Values.{Text}

-- the first units of a text, so many, stand in it again from a place on, as far as they reach
abbrev pub IsPeriod : Text → ℕ → ℕ → Type 0
IsPeriod s q d = (k : ℕ) → k + d < q → slice_index s k ≡ slice_index s (k + d)

-- the least such place but 0, which of no units counts as 1
pub record IsLeastPeriod (s : Text) (q d : ℕ) : Type 0 where
  pub positive : 0 < d
  pub bound : d ≤ suc q
  pub within : 0 < q → d ≤ q
  pub is : IsPeriod s q d
  pub least : (e : ℕ) → 0 < e → e < d → ¬ (IsPeriod s q e)

-- of each front of a text, from the empty one on
pub record ArePeriods (s : Text) (periods : List ℕ) : Type 0 where
  pub count : length periods ≡ length s + 1
  pub each : (q : ℕ) → q ≤ length s → IsLeastPeriod s q (slice_index periods q)

-- the first units of a pattern, so many, stand at a place of a text
abbrev pub StandsSoFar : Text → Text → ℕ → ℕ → Type 0
StandsSoFar s t place q = (k : ℕ) → k < q → slice_index t (place + k) ≡ slice_index s k

-- The indices of rows right behind a hole.
use Rattle.std.specs.Prelude.{◌≡◌, ℕ, ◌+◌, ◌-◌, ◌<◌, Bool, true, false, List, length, Option, is_some}
use Rattle.std.specs.Ordering.{nat_cmp}
use Rattle.std.specs.FinMap.{find}
use Rattle.wjs_base.specs.declared.values.Name.TheVariants.{Index}
use Rattle.wjs_names.specs.Dense.{dense_value}
use Rattle.wjs_names.specs.Lists.{IsInOrder}

-- a row stands at the index
abbrev pub stands : {V : Type 0} → List (Option V) → ℕ → Bool
stands dense i = is_some (dense_value dense (Index i))

-- the index of each row behind a hole is a start, and each start among the indices is one of a row
pub record IsStarts {V : Type 0} (dense : List (Option V)) (starts : List (ℕ × Unit {0})) : Type 0 where
  pub rows : (i : ℕ) → is_some (find nat_cmp i starts) ≡ true → i < length dense → stands dense i ≡ true
  pub behind : (i : ℕ) → stands dense i ≡ false → stands dense (i + 1) ≡ true → is_some (find nat_cmp (i + 1) starts) ≡ true
  pub ordered : IsInOrder nat_cmp starts

-- the same once a row stands at the place
pub record IsOpen {V : Type 0} (dense : List (Option V)) (place : ℕ) (starts : List (ℕ × Unit {0})) : Type 0 where
  pub rows : (i : ℕ) → is_some (find nat_cmp i starts) ≡ true → i < length dense → (i ≡ place → ⊥) → stands dense i ≡ true
  pub behind : (i : ℕ) → stands dense i ≡ false → stands dense (i + 1) ≡ true → is_some (find nat_cmp (i + 1) starts) ≡ true
  pub here : 0 < place → stands dense (place - 1) ≡ false → is_some (find nat_cmp place starts) ≡ true
  pub ordered : IsInOrder nat_cmp starts

-- they are starts, and the row behind the place is one of these
pub record IsPassed {V : Type 0} (dense : List (Option V)) (place : ℕ) (starts : List (ℕ × Unit {0})) : Type 0 where
  pub starts_are : IsStarts dense starts
  pub next : stands dense (place + 1) ≡ true → is_some (find nat_cmp (place + 1) starts) ≡ true

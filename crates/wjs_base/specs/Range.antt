-- Which numbers the language has.
use Rattle.std.specs.Prelude.{Option, None, Some, ℤ, pos, negsuc, ◌≤ℤ◌}
use Rattle.std.proofs.Props.{props}

-- from -(2^53 - 1) to 2^53 - 1
abbrev pub InRange : ℤ → Type 0
InRange n = (negsuc 9007199254740990 ≤ℤ n) × (n ≤ℤ pos 9007199254740991)

-- NaN is None
abbrev pub IsInRange : Option ℤ → Type 0
IsInRange None = Unit {0}
IsInRange (Some n) = InRange n

pub in_range_prop : (number : Option ℤ) → IsProp (IsInRange number)
in_range_prop None = hlevel props
in_range_prop (Some n) = hlevel props

-- A count of faults, which a u64 keeps and which never falls.
use Rattle.std.specs.Prelude.{ℕ, ◌+◌, ◌-◌, ◌^◌, ◌≤◌, min, Result, OnErr}

-- the count after one fault more: it stands still at the last value of a u64
abbrev pub one_more : ℕ → ℕ
one_more count = min (count + 1) (2 ^ 64 - 1)

-- the count rose in a call: it is greater after the call than before, or stands at the last value of a u64
abbrev pub Rises : ℕ → ℕ → Type 0
Rises before after = one_more before ≤ after

-- what a call does to the count: it never falls, and a call fails only where it rose
pub record HasCause {T E : Type 0} (before after : ℕ) (result : Result T E) : Type 0 where
  pub never_falls : before ≤ after
  pub rises : OnErr result (Rises before after)

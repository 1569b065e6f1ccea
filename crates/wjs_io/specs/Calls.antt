-- The calls of a source or a sink in memory: which of them fail, and what was counted.
use Rattle.std.specs.Prelude.{ℕ, ◌+◌, ◌-◌, ◌^◌, ◌<◌, List, Contains}
use Rattle.wjs_io.specs.Faults.{one_more}

pub record Calls : Type 0 where
  -- the numbers of the calls that fail, the first call being 1
  pub fails : List ℕ
  -- how many calls were made, up to the last value of a u64
  pub made : ℕ
  -- how many of them failed, up to the same
  pub faults : ℕ

-- before the first call
abbrev pub no_calls : List ℕ → Calls
no_calls fails = record { fails = fails; made = 0; faults = 0 }

-- the next call is named to fail; past the last value of a u64 a call has no number
abbrev pub NextFails : Calls → Type 0
NextFails calls = (calls.made < 2 ^ 64 - 1) × Contains calls.fails (calls.made + 1)

-- after a call that did not fail
abbrev pub called : Calls → Calls
called calls = record calls { made = one_more calls.made }

-- after a call that failed
abbrev pub failed : Calls → Calls
failed calls = record calls { made = one_more calls.made; faults = one_more calls.faults }

-- The parts of a line.
use Rattle.std.specs.Prelude.{◌≢◌, ◌<◌, ◌^◌, ℕ, List, All}
use Rattle.wjs_base.specs.Text.{Units}

-- no such byte
abbrev pub Lacks : ℕ → List ℕ → Type 0
Lacks byte bytes = All (λ b. b ≢ byte) bytes

-- no space is in a part
abbrev pub AreParts : List (List ℕ) → Type 0
AreParts parts = All (Lacks 32) parts

abbrev pub AreUnits : Units → Type 0
AreUnits units = All (λ unit. unit < 2 ^ 16) units

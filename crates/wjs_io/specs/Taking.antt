-- How many bytes were taken from a source, where it tells them.
use Rattle.std.specs.Prelude.{◌≡◌, ℕ, ◌≤◌, List, length, Option}
use Rattle.std.specs.Io.KnownBytes.{Consumes}

-- the told bytes lost their first n, and there were as many
abbrev pub Takes : ℕ → Option (List ℕ) → Option (List ℕ) → Type 0
Takes n before after = (taken : List ℕ) × (length taken ≡ n) × Consumes before after taken

-- the told bytes lost at most their first n
abbrev pub TakesAtMost : ℕ → Option (List ℕ) → Option (List ℕ) → Type 0
TakesAtMost n before after = (count : ℕ) × (count ≤ n) × Takes count before after

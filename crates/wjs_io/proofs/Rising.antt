-- Counts of faults that rise.
use Rattle.std.proofs.Common.{ℕ, ◌≤◌, arith}
use Rattle.wjs_io.specs.Faults.{Rises}

-- a count that rose later rose
pub later_rise : (f0 f1 f2 : ℕ) → f0 ≤ f1 → Rises f1 f2 → Rises f0 f2
later_rise f0 f1 f2 le h = omega (arith, le, h)

-- a count that stands at 0 did not rise
pub never_rises : Rises 0 0 → ⊥
never_rises h = absurd (omega (arith, h))

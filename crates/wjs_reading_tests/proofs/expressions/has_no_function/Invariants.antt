use Rattle.std.proofs.Common.{ℕ, ◌<◌, ◌-◌, length}
use Rattle.wjs_tree.specs.declared.keys.Key.TheVariants as keys
use Rattle.wjs_tree.specs.Ends.{HasKey}
use Rattle.wjs_reading_tests.proofs.expressions.has_no_function.Given as goal

abbrev pub invariant-loop-place : goal.invariant-loop-place
invariant-loop-place l = (p : ℕ) → p < l.place → HasKey l.toks p keys.Function → ⊥

abbrev pub decreases-loop-place : goal.decreases-loop-place
decreases-loop-place l = length l.toks - l.place

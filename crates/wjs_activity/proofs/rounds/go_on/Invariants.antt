use Rattle.std.proofs.Common.{◌≡◌, ℕ, ◌<◌, true, Some}
use Rattle.std.specs.Prelude.{slice_get}
use Rattle.wjs_activity.specs.declared.activities.Activity.{Activity}
use Rattle.wjs_activity.proofs.rounds.go_on.Given as goal

-- those that were passed have ended
abbrev pub invariant-loop-activity : goal.invariant-loop-activity
invariant-loop-activity l = (k : ℕ) (a : Activity) → k < l.activity-index → slice_get l.activities k ≡ Some a → a.ended ≡ true

use Rattle.std.proofs.Common.{◌≡◌, length}
use Rattle.wjs_activity.specs.Noting.{AllNew}
use Rattle.wjs_activity.proofs.activities.none_begun.Given as goal

abbrev pub invariant-loop-place : goal.invariant-loop-place
invariant-loop-place l = (length l.list.items ≡ l._place) × AllNew l.list.items

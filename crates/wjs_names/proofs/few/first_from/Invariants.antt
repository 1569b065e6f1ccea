use Rattle.std.proofs.Common.{◌≡◌, ◌≤◌, ◌-◌, Some, false, length, drop, slice_get}
use Rattle.std.specs.Ordering.{is_gt}
use Rattle.wjs_base.specs.Order.{name_cmp}
use Rattle.wjs_base.specs.declared.values.Name.{Name}
use Rattle.wjs_names.specs.Lists.{seek}
use Rattle.wjs_names.proofs.few.first_from.Given as goal

abbrev pub invariant-loop-low : goal.invariant-loop-low
invariant-loop-low g l = record {
  within : l.low ≤ l.high;
  upto : l.high ≤ length l.few;
  before : seek name_cmp l.name 0 l.few ≡ seek name_cmp l.name l.low (drop l.low l.few);
  after : (row : Name × g.row.V.Denot) → slice_get l.few l.high ≡ Some row → is_gt (name_cmp l.name row.0) ≡ false;
}

abbrev pub decreases-loop-low : goal.decreases-loop-low
decreases-loop-low g l = l.high - l.low

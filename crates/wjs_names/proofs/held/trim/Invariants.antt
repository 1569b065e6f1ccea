use Rattle.std.proofs.Common.{◌≡◌, ◌≤◌, length}
use Rattle.wjs_base.specs.declared.values.Name.{Name}
use Rattle.wjs_names.specs.Dense.{dense_value}
use Rattle.wjs_names.proofs.held.trim.Given as goal

abbrev pub invariant-loop-dense : goal.invariant-loop-dense
invariant-loop-dense g l = record {
  values : (name : Name) → dense_value l.dense.items name ≡ dense_value l.fn.dense.items name;
  len : length l.dense.items ≤ length l.fn.dense.items;
}

abbrev pub decreases-loop-dense : goal.decreases-loop-dense
decreases-loop-dense g l = length l.dense.items

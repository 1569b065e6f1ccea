use Rattle.std.proofs.Common.{◌≡◌, ◌+◌, ◌-◌, ◌≤◌, take, length, slice_get}
use Rattle.std.specs.FinMap as map
use Rattle.wjs_layers.proofs.layer.Layer.entries.Given as goal

abbrev pub invariant-rows : goal.invariant-rows
invariant-rows g l = record {
  all : l.all.items ≡ take (length l.all.items) (map.entries l.self.rows);
  next : l.next ≡ slice_get (map.entries l.self.rows) (length l.all.items);
  cost : l.steps ≤ l.fn.steps + (length l.all.items + 1);
  some : length l.all.items ≤ length (map.entries l.self.rows);
}

abbrev pub decreases-rows : goal.decreases-rows
decreases-rows g l = length (map.entries l.self.rows) - length l.all.items

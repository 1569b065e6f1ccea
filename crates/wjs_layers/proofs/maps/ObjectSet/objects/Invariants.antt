use Rattle.std.proofs.Common.{◌≡◌, ◌+◌, ◌-◌, ◌≤◌, take, length, slice_get}
use Rattle.std.specs.FinMap as map
use Rattle.wjs_layers.proofs.maps.ObjectSet.objects.Given as goal

abbrev pub invariant-objects : goal.invariant-objects
invariant-objects g l = record {
  all : l.all.items ≡ take (length l.all.items) (map.keys l.self);
  next : l.next ≡ slice_get (map.keys l.self) (length l.all.items);
  cost : l.steps ≤ l.fn.steps + (length l.all.items + 1);
  some : length l.all.items ≤ length (map.keys l.self);
}

abbrev pub decreases-objects : goal.decreases-objects
decreases-objects g l = length (map.keys l.self) - length l.all.items

use Rattle.std.proofs.Common.{◌≡◌, ◌+◌, ◌-◌, ◌≤◌, ◌++◌, length, replicate}
use Rattle.std.specs.FinMap as map
use Rattle.wjs_slots.proofs.near.Near.reach_place.Given as goal

abbrev pub invariant-more : goal.invariant-more
invariant-more g l = record {
  owner : l.self.owner ≡ l.fn.self.owner;
  first : l.self.first ≡ l.fn.self.first;
  same : l.self.objects.items ≡ l.fn.self.objects.items ++ replicate (length l.self.objects.items - length l.fn.self.objects.items) map.empty;
  reach : length l.self.objects.items ≤ l.last + 1;
  more : length l.fn.self.objects.items ≤ length l.self.objects.items;
}

abbrev pub decreases-more : goal.decreases-more
decreases-more g l = (l.last + 1) - length l.self.objects.items

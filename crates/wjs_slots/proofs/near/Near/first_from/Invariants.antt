use Rattle.std.proofs.Common.{◌≤◌, ◌-◌, length}
use Rattle.wjs_slots.specs.Near.{AreBare}
use Rattle.wjs_slots.proofs.near.Near.first_from.Given as goal

abbrev pub invariant-places : goal.invariant-places
invariant-places g l = record {
  from : l.start ≤ l.place;
  bare : AreBare l.self.objects.items l.start l.place;
}

abbrev pub decreases-places : goal.decreases-places
decreases-places g l = length l.self.objects.items - l.place

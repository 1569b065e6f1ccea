use Rattle.wjs_heap.specs.Means.{parts}
use Rattle.wjs_start.proofs.Slotting.{Written}
use Rattle.wjs_start.proofs.slots.write_all.Given as goal

abbrev pub invariant-back : goal.invariant-back
invariant-back g l = Written l.places l.i (parts g.S.WorldStore.meaning l.initial.heap) (parts g.S.WorldStore.meaning l.heap)

abbrev pub decreases-back : goal.decreases-back
decreases-back g l = l.i

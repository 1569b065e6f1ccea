use Rattle.wjs_arena.specs.Entries.{depth_at}
use Rattle.wjs_heap.specs.Means.{parts}
use Rattle.wjs_props.proofs.Getting.{IsGetting}
use Rattle.wjs_props.proofs.reads.peek.Given as goal

abbrev pub invariant-up : goal.invariant-up
invariant-up g l = IsGetting l.world l.name l.fn.object (parts g.S.WorldStore.meaning l.heap) (parts g.S.WorldStore.meaning l.heap) l.here

abbrev pub decreases-up : goal.decreases-up
decreases-up g l = depth_at l.heap.arena l.here

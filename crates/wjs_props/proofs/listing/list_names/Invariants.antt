use Rattle.wjs_arena.specs.Entries.{depth_at}
use Rattle.wjs_heap.specs.Means.{parts}
use Rattle.wjs_props.proofs.Walking.{IsListing}
use Rattle.wjs_props.proofs.listing.list_names.Given as goal

abbrev pub invariant-up : goal.invariant-up
invariant-up g l = IsListing l.world l.fn.object (parts g.S.WorldStore.meaning l.fn.heap) (parts g.S.WorldStore.meaning l.heap) l.at l.seen l.visits

abbrev pub decreases-up : goal.decreases-up
decreases-up g l = depth_at l.heap.arena l.at

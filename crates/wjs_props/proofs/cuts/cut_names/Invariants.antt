use Rattle.std.proofs.Common.{◌-◌, length}
use Rattle.wjs_heap.specs.Means.{parts}
use Rattle.wjs_props.proofs.Cutting.{IsNaming}
use Rattle.wjs_props.proofs.cuts.cut_names.Given as goal

abbrev pub invariant-cut : goal.invariant-cut
invariant-cut g l = IsNaming l.world l.object l.names l.from l.to (parts g.S.WorldStore.meaning l.fn.heap) (parts g.S.WorldStore.meaning l.heap) l.place

abbrev pub decreases-cut : goal.decreases-cut
decreases-cut g l = length l.names - l.place

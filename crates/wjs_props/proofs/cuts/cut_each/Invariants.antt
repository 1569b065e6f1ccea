use Rattle.std.proofs.Common.{◌-◌}
use Rattle.wjs_heap.specs.Means.{parts}
use Rattle.wjs_props.proofs.Cutting.{IsCutting}
use Rattle.wjs_props.proofs.cuts.cut_each.Given as goal

abbrev pub invariant-cut : goal.invariant-cut
invariant-cut g l = IsCutting l.world l.object l.from l.to (parts g.S.WorldStore.meaning l.fn.heap) (parts g.S.WorldStore.meaning l.heap) l.at

abbrev pub decreases-cut : goal.decreases-cut
decreases-cut g l = l.to - l.at

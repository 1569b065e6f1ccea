use Rattle.std.proofs.Common.{take}
use Rattle.wjs_heap.specs.Means.{parts}
use Rattle.wjs_start.specs.Blueprints.{built_from}
use Rattle.wjs_start.specs.Building.{Makes}
use Rattle.wjs_start.proofs.making.create_all.Given as goal

abbrev pub invariant-loop-i : goal.invariant-loop-i
invariant-loop-i g l = Makes l.known (λ declared. built_from declared 0 (take l.i l.blueprints)) l.i (parts g.S.WorldStore.meaning l.initial.heap) (parts g.S.WorldStore.meaning l.heap)

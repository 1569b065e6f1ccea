use Rattle.std.proofs.Common.{◌≡◌, drop, fold, filter}
use Rattle.wjs_base.specs.Order.{slot_cmp}
use Rattle.wjs_store.specs.State.{lesser, least, fails}
use Rattle.wjs_full.specs.Rows.{world_in}
use Rattle.wjs_full.proofs.rows.Row.least_fault.Given as goal

abbrev pub invariant-loop-slot : goal.invariant-loop-slot
invariant-loop-slot l = fold (lesser slot_cmp) l.least (filter (fails (world_in l.self) (world_in l.parent)) (drop l.slot-index l.slots)) ≡ least slot_cmp (filter (fails (world_in l.self) (world_in l.parent)) l.slots)

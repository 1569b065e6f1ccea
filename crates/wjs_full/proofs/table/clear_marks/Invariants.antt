use Rattle.std.proofs.Common.{◌≡◌, ◌++◌, map as each, take, drop, cond}
use Rattle.wjs_store.specs.Naming.{plain}
use Rattle.wjs_store.specs.State.{World, same_world, clear_marks}
use Rattle.wjs_full.specs.Rows.{world_in}
use Rattle.wjs_full.proofs.table.clear_marks.Given as goal

abbrev pub invariant-loop-row : goal.invariant-loop-row
invariant-loop-row l = each world_in (take l.row-index l.table) ++ each (λ (x : World plain). cond (same_world x.id l.world) (clear_marks x) x) (each world_in (drop l.row-index l.table)) ≡ each (λ (x : World plain). cond (same_world x.id l.world) (clear_marks x) x) (each world_in l.fn.table)

use Rattle.std.proofs.Common.{◌≡◌, ◌≤◌, length, take}
use Rattle.wjs_store.specs.State.{find_world}
use Rattle.wjs_full.specs.Rows.{worlds_in}
use Rattle.wjs_full.proofs.table.find.Given as goal

abbrev pub invariant-loop-left : goal.invariant-loop-left
invariant-loop-left l = record {
  bound : l.left ≤ length l.table;
  rest : find_world (worlds_in l.table) l.world ≡ find_world (worlds_in (take l.left l.table)) l.world;
}

abbrev pub decreases-loop-left : goal.decreases-loop-left
decreases-loop-left l = l.left

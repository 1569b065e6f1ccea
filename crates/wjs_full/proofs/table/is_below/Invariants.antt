use Rattle.std.proofs.Common.{◌≡◌, ◌≤◌, length, take}
use Rattle.wjs_store.specs.State.{is_below}
use Rattle.wjs_full.specs.Rows.{worlds_in}
use Rattle.wjs_full.proofs.table.is_below.Given as goal

abbrev pub invariant-loop-left : goal.invariant-loop-left
invariant-loop-left l = record {
  bound : l.left ≤ length l.table;
  rest : is_below l.world l.slot (worlds_in l.table) l.fn.below ≡ is_below l.world l.slot (worlds_in (take l.left l.table)) l.at;
}

abbrev pub decreases-loop-left : goal.decreases-loop-left
decreases-loop-left l = l.left

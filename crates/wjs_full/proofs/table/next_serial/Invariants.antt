use Rattle.std.proofs.Common.{◌≡◌, ◌≤◌, take}
use Rattle.wjs_store.specs.State.{count_of}
use Rattle.wjs_full.specs.Rows.{worlds_in}
use Rattle.wjs_full.proofs.table.next_serial.Given as goal

abbrev pub invariant-loop-row : goal.invariant-loop-row
invariant-loop-row l = record {
  bound : l.count ≤ l.row-index;
  count : l.count ≡ count_of l.owner (worlds_in (take l.row-index l.table));
}

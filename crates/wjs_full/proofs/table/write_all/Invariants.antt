use Rattle.std.proofs.Common.{◌≡◌, ◌≤◌, length, drop}
use Rattle.wjs_store.specs.State.{write_all}
use Rattle.wjs_full.specs.Rows.{worlds_in}
use Rattle.wjs_full.proofs.table.write_all.Given as goal

abbrev pub invariant-loop-entry : goal.invariant-loop-entry
invariant-loop-entry l = record {
  len : length l.fn.table.items ≤ length l.table.items;
  rest : write_all l.world (drop l.entry-index l.writes) (worlds_in l.table.items) ≡ write_all l.world l.writes (worlds_in l.fn.table.items);
}

use Rattle.std.proofs.Common.{◌≡◌, ◌++◌, map as each, take, drop}
use Rattle.wjs_store.specs.State.{write_at}
use Rattle.wjs_full.specs.Rows.{world_in, worlds_in}
use Rattle.wjs_full.proofs.table.write_each.Given as goal

abbrev pub invariant-loop-place : goal.invariant-loop-place
invariant-loop-place l = record {
  done : each world_in (take l.place l.table) ++ each (write_at (worlds_in l.fn.table) l.world l.slot l.content) (each world_in (drop l.place l.table)) ≡ each (write_at (worlds_in l.fn.table) l.world l.slot l.content) (each world_in l.fn.table);
  rest : drop l.place l.table ≡ drop l.place l.fn.table;
}

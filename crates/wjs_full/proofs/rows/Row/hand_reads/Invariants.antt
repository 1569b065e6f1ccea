use Rattle.std.proofs.Common.{◌≡◌, drop, true, is_some}
use Rattle.wjs_store.specs.State.{hand_entries}
use Rattle.wjs_full.specs.Rows.{world_in}
use Rattle.wjs_full.proofs.rows.Row.hand_reads.Given as goal

abbrev pub invariant-loop-read : goal.invariant-loop-read
invariant-loop-read l = record {
  has_parent : is_some l.self.parent ≡ true;
  rest : hand_entries (drop l.read-index l.reads) (world_in l.self) ≡ hand_entries l.reads (world_in l.fn.self);
}

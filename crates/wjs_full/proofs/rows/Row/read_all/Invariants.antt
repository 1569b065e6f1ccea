use Rattle.std.proofs.Common.{◌≡◌, drop}
use Rattle.wjs_store.specs.State.{read_all}
use Rattle.wjs_full.specs.Rows.{world_in}
use Rattle.wjs_full.proofs.rows.Row.read_all.Given as goal

-- reading the rest reads them all
abbrev pub invariant-loop-slot : goal.invariant-loop-slot
invariant-loop-slot l = read_all (drop l.slot-index l.slots) (world_in l.self) ≡ read_all l.slots (world_in l.fn.self)

use Rattle.std.proofs.Common.{arith, cond}
use Rattle.wjs_store.specs.Naming.{plain}
use Rattle.wjs_store.specs.State.{World, same_world, hand_entries}
use Rattle.wjs_full.specs.Rows.{world_in}
use Rattle.wjs_full.proofs.Tables.{worlds_each, rows_done}
use Rattle.wjs_full.proofs.table.hand_reads.Goals as goal

pub returns : goal.returns
returns c =
    let g = λ (x : World plain). cond (same_world x.id c.args.world) (hand_entries c.args.reads.now x) x in
    worlds_each g c.args.table.now c.loop-row.table (rows_done world_in g c.loop-row.table c.loop-row.row-index _ (omega arith) c.loop-row.invariant)

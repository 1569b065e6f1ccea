use Rattle.std.proofs.Common.{arith, cond}
use Rattle.wjs_store.specs.Naming.{plain}
use Rattle.wjs_store.specs.State.{World, same_world, list_in, after_list}
use Rattle.wjs_full.specs.Rows.{world_in}
use Rattle.wjs_full.proofs.Tables.{worlds_each, rows_done}
use Rattle.wjs_full.proofs.table.list_rows.Goals as goal

pub returns : goal.returns
unfolding after_list
returns c =
    let g = λ (x : World plain). cond (same_world x.id c.args.world) (list_in c.args.object x) x in
    worlds_each g c.args.table.now c.loop-row.table (rows_done world_in g c.loop-row.table c.loop-row.row-index _ (omega arith) c.loop-row.invariant)

use Rattle.std.proofs.lemmas.List.{drop-set-lt}
use Rattle.std.proofs.lemmas.Grind.{drop_more_same}
use Rattle.wjs_full.specs.declared.rows.Row.{Row}
use Rattle.std.proofs.Common.{arith, false, ◌+◌, ◌<◌, length, ap, ◌∙◌, cond, get_or}
use Rattle.wjs_store.specs.State.{write_at, write_in, same_world, put, after_write, is_below}
use Rattle.wjs_full.specs.Rows.{world_in, worlds_in}
use Rattle.wjs_full.proofs.Tables.{rows_more, read_each, worlds_each, rows_done}
use Rattle.wjs_full.proofs.table.write_each.Goals as goal

pub loop-place-preserved : goal.loop-place-preserved
loop-place-preserved c =
    let r = get_or c.loop-place.table c.loop-place.place c.index-table-place.result in
    let lt : c.loop-place.place < length c.loop-place.table = omega arith in
    let hit = read_each (λ (row : Row). is_below c.args.world c.args.slot (worlds_in c.args.table.now) row.id) c.args.table.now c.loop-place.table c.args.hits.now c.loop-place.place c.index-table-place.result false c.requires c.loop-place.invariant.rest lt in
    let step = c.in_ok-write_row.ensures ∙ ap (λ b. cond (same_world r.id c.args.world) (write_in c.args.slot c.args.content (world_in r)) (cond b (record (world_in r) { copy = put r.copy c.args.slot c.args.content }) (world_in r))) hit in
    record {
      done = rows_more world_in (write_at (worlds_in c.args.table.now) c.args.world c.args.slot c.args.content) c.loop-place.table c.loop-place.place r c.write_row.new.row _ lt (ap (λ d. get_or c.loop-place.table c.loop-place.place d) c.index-table-place.is) step c.loop-place.invariant.done;
      rest = drop-set-lt (c.loop-place.place + 1) c.loop-place.table c.loop-place.place c.write_row.new.row (omega arith) ∙ drop_more_same c.loop-place.table c.args.table.now c.loop-place.place c.loop-place.invariant.rest;
    }

pub returns : goal.returns
unfolding after_write
returns c = worlds_each (write_at (worlds_in c.args.table.now) c.args.world c.args.slot c.args.content) c.args.table.now c.loop-place.table (rows_done world_in (write_at (worlds_in c.args.table.now) c.args.world c.args.slot c.args.content) c.loop-place.table c.loop-place.place _ (omega arith) c.loop-place.invariant.done)

use Rattle.std.proofs.Common.{ap, sym, ◌∙◌, get_or, Some}
use Rattle.std.specs.Option.{option_map}
use Rattle.wjs_full.specs.Rows.{world_in, worlds_in}
use Rattle.wjs_store.proofs.Parents.{pair_none, pair_root, pair_gone, pair_found, slice_get_at}
use Rattle.wjs_full.proofs.Tables.{row_at, worlds_at_is}
use Rattle.wjs_full.proofs.table.with_parent.Goals as goal

pub returns-in-None-clause-found : goal.returns-in-None-clause-found
returns-in-None-clause-found c = pair_none (worlds_in c.args.table.now) c.args.world c.in-None.ensures.found

pub returns-in-None-parent-clause-found : goal.returns-in-None-parent-clause-found
returns-in-None-parent-clause-found c = pair_root (worlds_in c.args.table.now) c.args.world (world_in c.index-table-place.result) (row_at c.args.table.now c.args.world c.in-Some.place c.index-table-place.result c.in-Some.ensures.bound c.index-table-place.is c.in-Some.ensures.found) c.in-None-parent.is

pub returns-in-None-find-clause-found : goal.returns-in-None-find-clause-found
returns-in-None-find-clause-found c = pair_gone (worlds_in c.args.table.now) c.args.world (world_in c.index-table-place.result) (row_at c.args.table.now c.args.world c.in-Some.place c.index-table-place.result c.in-Some.ensures.bound c.index-table-place.is c.in-Some.ensures.found) c.in-Some-parent.parent c.in-Some-parent.is c.in-None-find.ensures.found

pub returns-in-Some-find-clause-found : goal.returns-in-Some-find-clause-found
returns-in-Some-find-clause-found c =
    let t = c.args.table.now in
    let r = c.index-table-place.result in
    pair_found (worlds_in t) c.args.world (world_in r) (row_at t c.args.world c.in-Some.place r c.in-Some.ensures.bound c.index-table-place.is c.in-Some.ensures.found) c.in-Some-parent.parent (world_in (get_or t c.in-Some-find.above r)) c.in-Some-parent.is (c.in-Some-find.ensures.found ∙ ap (option_map world_in) (slice_get_at t c.in-Some-find.above r c.in-Some-find.ensures.bound))
    ∙ ap (λ x. Some (world_in x, world_in (get_or t c.in-Some-find.above r))) c.index-table-place.is
    ∙ sym (worlds_at_is t c.in-Some.place c.in-Some-find.above r r c.in-Some.ensures.bound c.in-Some-find.ensures.bound)

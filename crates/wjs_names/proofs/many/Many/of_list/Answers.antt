use Rattle.std.proofs.Common.{◌<◌, ◌∙◌, length, ap, arith}
use Rattle.std.specs.FinMap as map
use Rattle.std.specs.FinMap.Entries.{put}
use Rattle.wjs_base.specs.Order.{name_cmp, name_total}
use Rattle.wjs_names.proofs.Seeks.{put_next}
use Rattle.wjs_names.proofs.Sorted.{entries_none}
use Rattle.wjs_names.proofs.many.Many.of_list.Goals as goal

pub loop-place-init : goal.loop-place-init
loop-place-init g c = entries_none name_cmp c.new-many.result c.new-many.ensures

pub loop-place-preserved : goal.loop-place-preserved
loop-place-preserved g c =
    let l : c.loop-place.place < length c.args.few.now = omega (arith, c.loop-place-test.true) in
    let row = c.index-few-place.result in
    ap map.entries (c.in_ok-set.ensures.ok ∙ ap (λ k. map.insert c.loop-place.many k row.1) c.name.ensures)
    ∙ map.entries-insert name_total c.loop-place.many row.0 row.1
    ∙ ap (put name_cmp row.0 row.1) c.loop-place.invariant
    ∙ put_next name_total c.args.few.now c.loop-place.place row c.requires l c.index-few-place.is

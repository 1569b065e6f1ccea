use Rattle.std.proofs.Common.{◌+◌, ◌*◌, rules, ◌<◌, length, ap, ◌∙◌, arith, List, get_or, ◌≡◌, subst, IfSome, Some, is_some}
use Rattle.std.specs.FinMap as map
use Rattle.wjs_base.specs.declared.values.Slot.{Slot}
use Rattle.wjs_layers.specs.declared.maps.Row.{Row}
use Rattle.wjs_layers.specs.declared.layer.Layer.{Layer}
use Rattle.wjs_layers.specs.Sparse.{full_of, depth_of}
use Rattle.wjs_store.proofs.Parents.{slice_get_at}
use Rattle.wjs_layers.proofs.Looks.{below_at}
use Rattle.wjs_layers.proofs.Works.{times_le}
use Rattle.wjs_layers.proofs.Moving.{parent_at, rows_fit, closed_fit, handed_sparse, handed_there, handed_depth, settled}
use Rattle.wjs_layers.proofs.layers.settle.Goals as goal

pub offset_bounds-layers-world : goal.offset_bounds-layers-world
offset_bounds-layers-world g c = let l : c.args.world.place < length c.args.layers.now = below_at c.args.layers.now c.args.world c.requires.sparse c.requires.there in search rules

pub bounds-layers-world : goal.bounds-layers-world
bounds-layers-world g c = below_at c.args.layers.now c.args.world c.requires.sparse c.requires.there

pub entries-requires : goal.entries-requires
entries-requires g c = ap is_some (subst (λ o. IfSome o (λ (r : Layer). r.above ≡ Some c.args.above)) (slice_get_at c.args.layers.now c.args.world.place c.index-layers-world.result (below_at c.args.layers.now c.args.world c.requires.sparse c.requires.there)) c.requires.up)

pub hand_to-requires : goal.hand_to-requires
hand_to-requires g c = below_at c.args.layers.now c.args.above c.requires.sparse (parent_at c.args.layers.now c.requires.sparse c.args.world c.requires.there c.index-layers-world.result c.args.above c.requires.up)

pub write_rows-requires-clause-sparse : goal.write_rows-requires-clause-sparse
write_rows-requires-clause-sparse g c = handed_sparse c.args.layers.now c.requires.sparse c.args.world c.requires.there c.index-layers-world.result c.args.above c.requires.up c.requires.agrees c.as_slice.result.now (c.as_slice.ensures.value ∙ c.in_ok-rows.ensures.all) c.hand_to.new.layers c.in_ok-hand_to.ensures.kept

pub write_rows-requires-clause-there : goal.write_rows-requires-clause-there
write_rows-requires-clause-there g c = handed_there c.args.layers.now c.requires.sparse c.args.world c.requires.there c.index-layers-world.result c.args.above c.requires.up c.requires.agrees c.as_slice.result.now (c.as_slice.ensures.value ∙ c.in_ok-rows.ensures.all) c.hand_to.new.layers c.in_ok-hand_to.ensures.kept

pub close_to-requires : goal.close_to-requires
close_to-requires g c =
    let l : c.args.above.place < length c.args.layers.now = below_at c.args.layers.now c.args.above c.requires.sparse (parent_at c.args.layers.now c.requires.sparse c.args.world c.requires.there c.index-layers-world.result c.args.above c.requires.up) in
    omega (arith, c.hand_to.auto.layers, c.write_rows.auto.layers)

pub clear_in-requires : goal.clear_in-requires
clear_in-requires g c =
    let l : c.args.world.place < length c.args.layers.now = below_at c.args.layers.now c.args.world c.requires.sparse c.requires.there in
    omega (arith, c.hand_to.auto.layers, c.write_rows.auto.layers, c.close_to.auto.layers)

pub returns-clause-after : goal.returns-clause-after
returns-clause-after g c = settled c.args.layers.now c.requires.sparse c.args.world c.requires.there c.index-layers-world.result c.args.above c.requires.up c.requires.agrees c.as_slice.result.now (c.as_slice.ensures.value ∙ c.in_ok-rows.ensures.all) c.hand_to.new.layers c.in_ok-hand_to.ensures.kept
    c.as_slice-2.result.now (c.as_slice-2.ensures.value ∙ c.in_ok-rows.ensures.all) c.write_rows.new.layers c.in_ok-write_rows.ensures.after
    c.as_slice-3.result.now (c.as_slice-3.ensures.value ∙ (c.in_ok-objects.ensures.all ∙ ap (λ m. map.keys m) c.closed.ensures)) c.close_to.new.layers c.in_ok-close_to.ensures.kept
    c.clear_in.new.layers c.clear_in.ensures.kept

pub returns-clause-steps : goal.returns-clause-steps
returns-clause-steps g c = λ z fz.
    let fit = rows_fit c.args.layers.now c.requires.sparse c.args.world c.requires.there c.index-layers-world.result c.args.above c.requires.up z fz in
    let closed = closed_fit c.args.layers.now c.requires.sparse c.args.world c.requires.there c.index-layers-world.result c.args.above c.requires.up z fz in
    let keys = ap (λ m. length (map.keys m)) c.closed.ensures in
    let n1 = ap length (c.as_slice.ensures.value ∙ c.in_ok-rows.ensures.all) in
    let n2 = ap (λ (rs : List (Slot × Row)). length rs * (2 * depth_of (full_of c.hand_to.new.layers) c.args.above.world + 3)) (c.as_slice-2.ensures.value ∙ c.in_ok-rows.ensures.all) in
    let n3 = ap length (c.as_slice-3.ensures.value ∙ (c.in_ok-objects.ensures.all ∙ ap (λ m. map.keys m) c.closed.ensures)) in
    let deep = ap (λ d. length (map.entries (get_or c.args.layers.now c.args.world.place c.index-layers-world.result).rows) * (2 * d + 3)) (handed_depth c.args.layers.now c.requires.sparse c.args.world c.requires.there c.index-layers-world.result c.args.above c.requires.up c.requires.agrees c.as_slice.result.now (c.as_slice.ensures.value ∙ c.in_ok-rows.ensures.all) c.hand_to.new.layers c.in_ok-hand_to.ensures.kept) in
    let most = times_le (2 * depth_of (full_of c.args.layers.now) c.args.above.world + 3) _ _ fit in
    omega (arith, fit, closed, keys, n1, n2, n3, deep, most, c.entries.ensures.steps, c.objects.ensures.steps, c.hand_to.ensures.steps, c.write_rows.ensures.steps, c.close_to.ensures.steps)

pub returns-in_err-rows-clause-steps : goal.returns-in_err-rows-clause-steps
returns-in_err-rows-clause-steps g c = λ z fz.
    let fit = rows_fit c.args.layers.now c.requires.sparse c.args.world c.requires.there c.index-layers-world.result c.args.above c.requires.up z fz in
    omega (arith, fit, c.entries.ensures.steps)

pub returns-in_err-objects-clause-steps : goal.returns-in_err-objects-clause-steps
returns-in_err-objects-clause-steps g c = λ z fz.
    let fit = rows_fit c.args.layers.now c.requires.sparse c.args.world c.requires.there c.index-layers-world.result c.args.above c.requires.up z fz in
    let closed = closed_fit c.args.layers.now c.requires.sparse c.args.world c.requires.there c.index-layers-world.result c.args.above c.requires.up z fz in
    let keys = ap (λ m. length (map.keys m)) c.closed.ensures in
    omega (arith, fit, closed, keys, c.entries.ensures.steps, c.objects.ensures.steps)

pub returns-in_err-hand_to-clause-steps : goal.returns-in_err-hand_to-clause-steps
returns-in_err-hand_to-clause-steps g c = λ z fz.
    let fit = rows_fit c.args.layers.now c.requires.sparse c.args.world c.requires.there c.index-layers-world.result c.args.above c.requires.up z fz in
    let closed = closed_fit c.args.layers.now c.requires.sparse c.args.world c.requires.there c.index-layers-world.result c.args.above c.requires.up z fz in
    let keys = ap (λ m. length (map.keys m)) c.closed.ensures in
    let n1 = ap length (c.as_slice.ensures.value ∙ c.in_ok-rows.ensures.all) in
    omega (arith, fit, closed, keys, n1, c.entries.ensures.steps, c.objects.ensures.steps, c.hand_to.ensures.steps)

pub returns-in_err-write_rows-clause-steps : goal.returns-in_err-write_rows-clause-steps
returns-in_err-write_rows-clause-steps g c = λ z fz.
    let fit = rows_fit c.args.layers.now c.requires.sparse c.args.world c.requires.there c.index-layers-world.result c.args.above c.requires.up z fz in
    let closed = closed_fit c.args.layers.now c.requires.sparse c.args.world c.requires.there c.index-layers-world.result c.args.above c.requires.up z fz in
    let keys = ap (λ m. length (map.keys m)) c.closed.ensures in
    let n1 = ap length (c.as_slice.ensures.value ∙ c.in_ok-rows.ensures.all) in
    let n2 = ap (λ (rs : List (Slot × Row)). length rs * (2 * depth_of (full_of c.hand_to.new.layers) c.args.above.world + 3)) (c.as_slice-2.ensures.value ∙ c.in_ok-rows.ensures.all) in
    let deep = ap (λ d. length (map.entries (get_or c.args.layers.now c.args.world.place c.index-layers-world.result).rows) * (2 * d + 3)) (handed_depth c.args.layers.now c.requires.sparse c.args.world c.requires.there c.index-layers-world.result c.args.above c.requires.up c.requires.agrees c.as_slice.result.now (c.as_slice.ensures.value ∙ c.in_ok-rows.ensures.all) c.hand_to.new.layers c.in_ok-hand_to.ensures.kept) in
    let most = times_le (2 * depth_of (full_of c.args.layers.now) c.args.above.world + 3) _ _ fit in
    omega (arith, fit, closed, keys, n1, n2, deep, most, c.entries.ensures.steps, c.objects.ensures.steps, c.hand_to.ensures.steps, c.write_rows.ensures.steps)

pub returns-in_err-close_to-clause-steps : goal.returns-in_err-close_to-clause-steps
returns-in_err-close_to-clause-steps g c = λ z fz.
    let fit = rows_fit c.args.layers.now c.requires.sparse c.args.world c.requires.there c.index-layers-world.result c.args.above c.requires.up z fz in
    let closed = closed_fit c.args.layers.now c.requires.sparse c.args.world c.requires.there c.index-layers-world.result c.args.above c.requires.up z fz in
    let keys = ap (λ m. length (map.keys m)) c.closed.ensures in
    let n1 = ap length (c.as_slice.ensures.value ∙ c.in_ok-rows.ensures.all) in
    let n2 = ap (λ (rs : List (Slot × Row)). length rs * (2 * depth_of (full_of c.hand_to.new.layers) c.args.above.world + 3)) (c.as_slice-2.ensures.value ∙ c.in_ok-rows.ensures.all) in
    let n3 = ap length (c.as_slice-3.ensures.value ∙ (c.in_ok-objects.ensures.all ∙ ap (λ m. map.keys m) c.closed.ensures)) in
    let deep = ap (λ d. length (map.entries (get_or c.args.layers.now c.args.world.place c.index-layers-world.result).rows) * (2 * d + 3)) (handed_depth c.args.layers.now c.requires.sparse c.args.world c.requires.there c.index-layers-world.result c.args.above c.requires.up c.requires.agrees c.as_slice.result.now (c.as_slice.ensures.value ∙ c.in_ok-rows.ensures.all) c.hand_to.new.layers c.in_ok-hand_to.ensures.kept) in
    let most = times_le (2 * depth_of (full_of c.args.layers.now) c.args.above.world + 3) _ _ fit in
    omega (arith, fit, closed, keys, n1, n2, n3, deep, most, c.entries.ensures.steps, c.objects.ensures.steps, c.hand_to.ensures.steps, c.write_rows.ensures.steps, c.close_to.ensures.steps)

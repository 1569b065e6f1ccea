use Rattle.std.proofs.Common.{◌-◌, ◌<◌, length, arith}
use Rattle.wjs_heap.specs.Means.{parts}
use Rattle.wjs_start.specs.First.{object_count}
use Rattle.wjs_start.proofs.Slotting.{none_written, written_on, all_written, within_still, there_still}
use Rattle.wjs_start.proofs.slots.write_all.Goals as goal

pub back-init : goal.back-init
back-init g c = none_written c.args.places.now (parts g.S.WorldStore.meaning c.args.heap.now) c.requires.building.heap

pub write_place-requires-clause-there : goal.write_place-requires-clause-there
write_place-requires-clause-there g c =
    let lt : c.back.i - 1 < length c.args.places.now = omega (arith, c.back.invariant.in_range, c.back-test.true) in
    there_still c.args.heap.now.texts c.back.heap.texts c.back.invariant.done.texts c.args.places.now (c.back.i - 1) c.index-places-i.result lt c.index-places-i.is c.requires.there

pub write_place-requires-clause-within : goal.write_place-requires-clause-within
write_place-requires-clause-within g c =
    let lt : c.back.i - 1 < length c.args.places.now = omega (arith, c.back.invariant.in_range, c.back-test.true) in
    within_still c.args.heap.now.texts c.back.heap.texts object_count c.args.places.now (c.back.i - 1) c.index-places-i.result lt c.index-places-i.is c.requires.within

pub back-preserved : goal.back-preserved
back-preserved g c =
    let m = g.S.WorldStore.meaning in
    written_on c.args.places.now c.back.i c.index-places-i.result (parts m c.args.heap.now) (parts m c.back.heap) (parts m c.write_place.new.heap) c.back-test.true c.index-places-i.is c.back.invariant c.in_ok-write_place.ensures

pub returns : goal.returns
returns g c =
    let m = g.S.WorldStore.meaning in
    all_written c.args.places.now c.back.i (parts m c.args.heap.now) (parts m c.back.heap) c.back-test.false c.back.invariant

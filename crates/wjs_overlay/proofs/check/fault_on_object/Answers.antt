use Rattle.std.proofs.Common.{rules, ◌+◌, ◌*◌, ◌<◌, length, refl, sym, ◌∙◌, subst, arith}
use Rattle.wjs_layers.specs.Cursor.{IsNextSlot}
use Rattle.wjs_layers.specs.Sparse.{full_of, depth_of}
use Rattle.wjs_layers.proofs.Places.{slice_read}
use Rattle.wjs_layers.proofs.Looks.{below_at}
use Rattle.wjs_layers.proofs.Scans.{left_lt}
use Rattle.wjs_layers.proofs.Works.{times_le}
use Rattle.wjs_overlay.proofs.CheckLoops.{object_found, object_next, object_all}
use Rattle.wjs_overlay.proofs.check.fault_on_object.Goals as goal

pub offset_bounds-layers-world : goal.offset_bounds-layers-world
offset_bounds-layers-world g c = let l : c.args.world.place < length c.args.layers.now = (below_at c.args.layers.now c.args.world c.requires.sparse c.requires.there) in search rules

pub bounds-layers-world : goal.bounds-layers-world
bounds-layers-world g c = (below_at c.args.layers.now c.args.world c.requires.sparse c.requires.there)

pub returns-then-slot_unseen : goal.returns-then-slot_unseen
returns-then-slot_unseen g c =
    let n = c.in-Some.ensures.next in
    let slot = c.in-Some.slot in
    let less = left_lt (full_of c.args.layers.now) c.args.above.world c.args.object c.slots.passed slot (n.on slot refl) (n.later slot refl) (n.kept slot refl) in
    let k = 3 * depth_of (full_of c.args.layers.now) c.args.above.world + 4 in
    let many = times_le k _ _ less in
    record { least = λ x y fx fy. object_found c.args.layers.now c.requires.sparse c.args.world c.requires.there c.index-layers-world.result (slice_read c.args.layers.now c.args.world.place c.index-layers-world.result c.index-layers-world.is (below_at c.args.layers.now c.args.world c.requires.sparse c.requires.there)) c.args.above.world x y fx fy (c.requires.up x fx) c.args.object c.slots.passed c.in-Some.slot c.in-Some.ensures.next (c.slots.invariant.before x y fx fy) (sym c.slot_unseen.ensures.unseen ∙ c.if-slot_unseen.true); steps = omega (arith, many, c.slots.invariant.cost, c.next_slot.ensures.steps, c.slot_unseen.ensures.steps) }

pub slots-smaller : goal.slots-smaller
slots-smaller g c =
    let n = c.in-Some.ensures.next in
    let slot = c.in-Some.slot in
    let less = left_lt (full_of c.args.layers.now) c.args.above.world c.args.object c.slots.passed slot (n.on slot refl) (n.later slot refl) (n.kept slot refl) in
    omega (arith, less)

pub slots-preserved : goal.slots-preserved
slots-preserved g c =
    let n = c.in-Some.ensures.next in
    let slot = c.in-Some.slot in
    let less = left_lt (full_of c.args.layers.now) c.args.above.world c.args.object c.slots.passed slot (n.on slot refl) (n.later slot refl) (n.kept slot refl) in
    let k = 3 * depth_of (full_of c.args.layers.now) c.args.above.world + 4 in
    let many = times_le k _ _ less in
    record {
      on = c.in-Some.ensures.next.on c.in-Some.slot refl;
      before = λ x y fx fy. object_next c.args.layers.now c.requires.sparse c.args.world c.requires.there c.index-layers-world.result (slice_read c.args.layers.now c.args.world.place c.index-layers-world.result c.index-layers-world.is (below_at c.args.layers.now c.args.world c.requires.sparse c.requires.there)) c.args.above.world x y fx fy (c.requires.up x fx) c.args.object c.slots.passed c.in-Some.slot c.in-Some.ensures.next (c.slots.invariant.before x y fx fy) (sym c.slot_unseen.ensures.unseen ∙ c.if-slot_unseen.false);
      cost = omega (arith, many, c.slots.invariant.cost, c.next_slot.ensures.steps, c.slot_unseen.ensures.steps);
    }

pub returns : goal.returns
returns g c = record { least = λ x y fx fy. object_all c.args.layers.now c.requires.sparse c.args.world c.requires.there c.index-layers-world.result (slice_read c.args.layers.now c.args.world.place c.index-layers-world.result c.index-layers-world.is (below_at c.args.layers.now c.args.world c.requires.sparse c.requires.there)) c.args.above.world x y fx fy (c.requires.up x fx) c.args.object c.slots.passed (subst (IsNextSlot (full_of c.args.layers.now) c.args.above.world c.args.object c.slots.passed) c.in_default.is c.next_slot.ensures.next) (c.slots.invariant.before x y fx fy); steps = omega (arith, c.slots.invariant.cost, c.next_slot.ensures.steps) }

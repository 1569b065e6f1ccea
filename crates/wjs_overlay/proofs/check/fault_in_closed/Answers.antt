use Rattle.std.proofs.Common.{◌≡◌, rules, ◌+◌, ◌*◌, ◌<◌, length, refl, sym, ap, ◌∙◌, subst, arith, ◌&&◌}
use Rattle.std.specs.FinMap as map
use Rattle.std.specs.Map.{lookup_entry, lookup_key}
use Rattle.wjs_base.specs.declared.values.Slot.{Slot}
use Rattle.wjs_base.specs.Order.{obj_cmp, obj_total, obj_exact}
use Rattle.wjs_rows.specs.Order.{is_from, is_after}
use Rattle.wjs_store.specs.State.{same_object}
use Rattle.wjs_layers.specs.Least.{first_object}
use Rattle.wjs_overlay.specs.Check.{IsLeast, is_unseen, object_before}
use Rattle.wjs_layers.specs.Sparse.{full_of, depth_of}
use Rattle.wjs_layers.proofs.Places.{slice_read}
use Rattle.wjs_layers.proofs.Looks.{below_at}
use Rattle.wjs_layers.proofs.Lists.{key_of_entry}
use Rattle.wjs_layers.proofs.Entries.{all_objects}
use Rattle.wjs_layers.specs.Work.{kept_from}
use Rattle.wjs_layers.proofs.Works.{times_le, closed_work}
use Rattle.wjs_overlay.proofs.Lefts.{objects_left, comes_closed, objects_most, slots_most, objects_less, closed_less}
use Rattle.wjs_overlay.proofs.Keyed.{found_is, key_of, key_there}
use Rattle.wjs_overlay.proofs.CheckLoops.{closed_first, closed_found, closed_next}
use Rattle.wjs_overlay.proofs.check.fault_in_closed.Goals as goal

pub offset_bounds-layers-world : goal.offset_bounds-layers-world
offset_bounds-layers-world g c = let l : c.args.world.place < length c.args.layers.now = (below_at c.args.layers.now c.args.world c.requires.sparse c.requires.there) in search rules

pub bounds-layers-world : goal.bounds-layers-world
bounds-layers-world g c = (below_at c.args.layers.now c.args.world c.requires.sparse c.requires.there)

pub objects-init : goal.objects-init
objects-init g c =
    let closed = c.index-layers-world.result.closed in
    let p = is_from obj_cmp first_object in
    let d = lookup_entry p (map.entries closed) in
    let f = found_is obj_total obj_exact closed p d refl in
    let nx : c.next_from-next.result ≡ key_of d = c.next_from-next.ensures.least ∙ ap (λ m. lookup_key (is_from obj_cmp c.least_object.result) (map.entries m)) c.closed.ensures ∙ ap (λ k. lookup_key (is_from obj_cmp k) (map.entries closed)) c.least_object.ensures ∙ key_of_entry p (map.entries closed) in
    let k = 3 * depth_of (full_of c.args.layers.now) c.args.above.world + 4 in
    let j = depth_of (full_of c.args.layers.now) c.args.above.world + 2 in
    let a = times_le j _ _ (objects_most closed c.next_from-next.result) in
    let b = times_le k _ _ (slots_most closed c.next_from-next.result (full_of c.args.layers.now) c.args.above.world) in
    record {
      cost = omega (arith, a, b, c.next_from-next.ensures.step);
      there = λ o e. key_there closed p d f o (sym nx ∙ e);
      before = λ x y fx fy t b. closed_first c.args.layers.now c.requires.sparse c.args.world c.requires.there c.index-layers-world.result (slice_read c.args.layers.now c.args.world.place c.index-layers-world.result c.index-layers-world.is (below_at c.args.layers.now c.args.world c.requires.sparse c.requires.there)) c.args.above.world x y fx fy p d f all_objects t (ap (object_before t.object) (sym nx) ∙ b);
    }

pub returns-in-Some-fault_on_object : goal.returns-in-Some-fault_on_object
returns-in-Some-fault_on_object g c =
    let closed = c.index-layers-world.result.closed in
    let d = lookup_entry (is_after obj_cmp c.in-Some.object) (map.entries closed) in
    let f = found_is obj_total obj_exact closed (is_after obj_cmp c.in-Some.object) d refl in
    let k = 3 * depth_of (full_of c.args.layers.now) c.args.above.world + 4 in
    let j = depth_of (full_of c.args.layers.now) c.args.above.world + 2 in
    let less = closed_less closed c.in-Some.object (c.objects.invariant.there c.in-Some.object c.in-Some.is) d f (full_of c.args.layers.now) c.args.above.world j k in
    let old = ap (λ n. objects_left closed n * j) c.in-Some.is in
    let old2 = ap (λ n. kept_from (comes_closed closed n) (full_of c.args.layers.now) c.args.above.world * k) c.in-Some.is in
    record { steps = λ x fx. let same = closed_work c.args.layers.now c.requires.sparse c.args.world c.requires.there c.index-layers-world.result (slice_read c.args.layers.now c.args.world.place c.index-layers-world.result c.index-layers-world.is (below_at c.args.layers.now c.args.world c.requires.sparse c.requires.there)) x fx c.args.above.world j k in omega (arith, less, old, old2, same, c.objects.invariant.cost, c.in-Some-fault_on_object.ensures.steps); least = λ x y fx fy. closed_found c.args.layers.now c.requires.sparse c.args.world c.requires.there c.index-layers-world.result (slice_read c.args.layers.now c.args.world.place c.index-layers-world.result c.index-layers-world.is (below_at c.args.layers.now c.args.world c.requires.sparse c.requires.there)) c.args.above.world x y fx fy c.in-Some.object (c.objects.invariant.there c.in-Some.object c.in-Some.is) (λ t b. c.objects.invariant.before x y fx fy t (ap (object_before t.object) c.in-Some.is ∙ b)) c.in-Some-fault_on_object.slot (c.in-Some-fault_on_object.ensures.least x y fx fy) }

pub objects-smaller : goal.objects-smaller
objects-smaller g c =
    let closed = c.index-layers-world.result.closed in
    let d = lookup_entry (is_after obj_cmp c.in-Some.object) (map.entries closed) in
    let f = found_is obj_total obj_exact closed (is_after obj_cmp c.in-Some.object) d refl in
    let nx : c.next_after-next.result ≡ key_of d = c.next_after-next.ensures.least ∙ ap (λ m. lookup_key (is_after obj_cmp c.in-Some.object) (map.entries m)) c.closed-in-Some.ensures ∙ key_of_entry (is_after obj_cmp c.in-Some.object) (map.entries closed) in
    let less = objects_less closed c.in-Some.object (c.objects.invariant.there c.in-Some.object c.in-Some.is) d f in
    let old = ap (objects_left closed) c.in-Some.is in
    let new = ap (objects_left closed) nx in
    omega (arith, less, old, new)

pub objects-preserved : goal.objects-preserved
objects-preserved g c =
    let closed = c.index-layers-world.result.closed in
    let d = lookup_entry (is_after obj_cmp c.in-Some.object) (map.entries closed) in
    let f = found_is obj_total obj_exact closed (is_after obj_cmp c.in-Some.object) d refl in
    let nx : c.next_after-next.result ≡ key_of d = c.next_after-next.ensures.least ∙ ap (λ m. lookup_key (is_after obj_cmp c.in-Some.object) (map.entries m)) c.closed-in-Some.ensures ∙ key_of_entry (is_after obj_cmp c.in-Some.object) (map.entries closed) in
    let k = 3 * depth_of (full_of c.args.layers.now) c.args.above.world + 4 in
    let j = depth_of (full_of c.args.layers.now) c.args.above.world + 2 in
    let less = closed_less closed c.in-Some.object (c.objects.invariant.there c.in-Some.object c.in-Some.is) d f (full_of c.args.layers.now) c.args.above.world j k in
    let old = ap (λ n. objects_left closed n * j) c.in-Some.is in
    let old2 = ap (λ n. kept_from (comes_closed closed n) (full_of c.args.layers.now) c.args.above.world * k) c.in-Some.is in
    let new = ap (λ n. objects_left closed n * j) nx in
    let new2 = ap (λ n. kept_from (comes_closed closed n) (full_of c.args.layers.now) c.args.above.world * k) nx in
    record {
      cost = omega (arith, less, old, old2, new, new2, c.objects.invariant.cost, c.fault_on_object.ensures.steps, c.next_after-next.ensures.step);
      there = λ o e. key_there closed (is_after obj_cmp c.in-Some.object) d f o (sym nx ∙ e);
      before = λ x y fx fy t b. closed_next c.args.layers.now c.requires.sparse c.args.world c.requires.there c.index-layers-world.result (slice_read c.args.layers.now c.args.world.place c.index-layers-world.result c.index-layers-world.is (below_at c.args.layers.now c.args.world c.requires.sparse c.requires.there)) c.args.above.world x y fx fy c.in-Some.object (c.objects.invariant.there c.in-Some.object c.in-Some.is) (λ t b. c.objects.invariant.before x y fx fy t (ap (object_before t.object) c.in-Some.is ∙ b)) d (subst (IsLeast (λ (s : Slot). same_object s.object c.in-Some.object && is_unseen x y s)) c.in_default-fault_on_object.is (c.fault_on_object.ensures.least x y fx fy)) f t (ap (object_before t.object) (sym nx) ∙ b);
    }

pub returns-clause-steps : goal.returns-clause-steps
returns-clause-steps g c = λ x fx.
    let k = 3 * depth_of (full_of c.args.layers.now) c.args.above.world + 4 in
    let j = depth_of (full_of c.args.layers.now) c.args.above.world + 2 in
    let same = closed_work c.args.layers.now c.requires.sparse c.args.world c.requires.there c.index-layers-world.result (slice_read c.args.layers.now c.args.world.place c.index-layers-world.result c.index-layers-world.is (below_at c.args.layers.now c.args.world c.requires.sparse c.requires.there)) x fx c.args.above.world j k in
    omega (arith, same, c.objects.invariant.cost)

use Rattle.std.proofs.Common.{rules, ◌+◌, ◌*◌, ◌<◌, length, refl, sym, ap, ◌∙◌, arith, not, Option, is_some}
use Rattle.std.specs.FinMap as map
use Rattle.std.specs.Map.{lookup_entry}
use Rattle.wjs_base.specs.declared.values.Slot.{Slot}
use Rattle.wjs_base.specs.Order.{slot_cmp, slot_total, slot_exact}
use Rattle.wjs_rows.specs.Order.{is_from, is_after}
use Rattle.wjs_layers.specs.declared.maps.Row.{Row}
use Rattle.wjs_slots.specs.Least.{first_slot}
use Rattle.wjs_layers.specs.Cursor.{is_before, count_passing}
use Rattle.wjs_layers.specs.Sparse.{full_of, depth_of}
use Rattle.wjs_layers.proofs.Places.{slice_read}
use Rattle.wjs_layers.proofs.Looks.{above_some, below_at}
use Rattle.wjs_layers.proofs.Entries.{all_slots}
use Rattle.wjs_overlay.proofs.Checks.{slot_of}
use Rattle.wjs_layers.proofs.Works.{times_le, count_most, rows_work}
use Rattle.wjs_overlay.proofs.Keyed.{found_is, fewer}
use Rattle.wjs_overlay.proofs.CheckLoops.{reads_first, reads_found, reads_next}
use Rattle.wjs_overlay.proofs.check.fault_in_reads.Goals as goal

pub offset_bounds-layers-world : goal.offset_bounds-layers-world
offset_bounds-layers-world g c = let l : c.args.world.place < length c.args.layers.now = (below_at c.args.layers.now c.args.world c.requires.sparse c.requires.there) in search rules

pub bounds-layers-world : goal.bounds-layers-world
bounds-layers-world g c = (below_at c.args.layers.now c.args.world c.requires.sparse c.requires.there)

pub next_from-next-requires : goal.next_from-next-requires
next_from-next-requires g c = above_some c.args.layers.now c.requires.sparse c.args.world c.requires.there c.index-layers-world.result (slice_read c.args.layers.now c.args.world.place c.index-layers-world.result c.index-layers-world.is (below_at c.args.layers.now c.args.world c.requires.sparse c.requires.there)) c.requires.up

pub next_after-next-requires : goal.next_after-next-requires
next_after-next-requires g c = above_some c.args.layers.now c.requires.sparse c.args.world c.requires.there c.index-layers-world.result (slice_read c.args.layers.now c.args.world.place c.index-layers-world.result c.index-layers-world.is (below_at c.args.layers.now c.args.world c.requires.sparse c.requires.there)) c.requires.up

pub rows-init : goal.rows-init
rows-init g c =
    let rows = c.index-layers-world.result.rows in
    let f = found_is slot_total slot_exact rows (is_from slot_cmp first_slot) c.next_from-next.result (c.next_from-next.ensures.least ∙ ap (λ k. lookup_entry (is_from slot_cmp k) (map.entries rows)) c.least_slot.ensures) in
    let k = 2 * depth_of (full_of c.args.layers.now) c.args.above.world + 3 in
    let most = times_le k _ _ (count_most (λ t. not (is_before t (slot_of c.next_from-next.result))) (map.keys rows)) in
    record { cost = omega (arith, most, c.next_from-next.ensures.step); there = f.there; before = λ x y fx fy. reads_first c.args.layers.now c.requires.sparse c.args.world c.requires.there c.index-layers-world.result (slice_read c.args.layers.now c.args.world.place c.index-layers-world.result c.index-layers-world.is (below_at c.args.layers.now c.args.world c.requires.sparse c.requires.there)) c.args.above.world x y fx fy (is_from slot_cmp first_slot) c.next_from-next.result f all_slots }

pub returns-then-row_differs : goal.returns-then-row_differs
returns-then-row_differs g c =
    let rows = c.index-layers-world.result.rows in
    let d = lookup_entry (is_after slot_cmp c.in-Some.slot) (map.entries rows) in
    let f = found_is slot_total slot_exact rows (is_after slot_cmp c.in-Some.slot) d refl in
    let less = fewer slot_total slot_exact rows c.in-Some.slot d f (ap is_some (c.rows.invariant.there (c.in-Some.slot, c.in-Some.row) c.in-Some.is)) in
    let k = 2 * depth_of (full_of c.args.layers.now) c.args.above.world + 3 in
    let many = times_le k _ _ less in
    let same = ap (λ (d : Option (Slot × Row)). count_passing (λ t. not (is_before t (slot_of d))) (map.keys rows) * k) c.in-Some.is in
    record { steps = λ x fx px. let all = rows_work c.args.layers.now c.requires.sparse c.args.world c.requires.there c.index-layers-world.result (slice_read c.args.layers.now c.args.world.place c.index-layers-world.result c.index-layers-world.is (below_at c.args.layers.now c.args.world c.requires.sparse c.requires.there)) x fx k px in omega (arith, many, same, all, c.rows.invariant.cost, c.row_differs.ensures.steps); least = λ x y fx fy. reads_found c.args.layers.now c.requires.sparse c.args.world c.requires.there c.index-layers-world.result (slice_read c.args.layers.now c.args.world.place c.index-layers-world.result c.index-layers-world.is (below_at c.args.layers.now c.args.world c.requires.sparse c.requires.there)) c.args.above.world x y fx fy c.in-Some.slot c.in-Some.row (c.rows.invariant.there (c.in-Some.slot, c.in-Some.row) c.in-Some.is) (sym c.row_differs.ensures.differs ∙ c.if-row_differs.true) (λ t b. c.rows.invariant.before x y fx fy t (ap (λ d. is_before t (slot_of d)) c.in-Some.is ∙ b)) }

pub rows-smaller : goal.rows-smaller
rows-smaller g c =
    let rows = c.index-layers-world.result.rows in
    let f = found_is slot_total slot_exact rows (is_after slot_cmp c.in-Some.slot) c.next_after-next.result c.next_after-next.ensures.least in
    let less = fewer slot_total slot_exact rows c.in-Some.slot c.next_after-next.result f (ap is_some (c.rows.invariant.there (c.in-Some.slot, c.in-Some.row) c.in-Some.is)) in
    let same = ap (λ (d : Option (Slot × Row)). count_passing (λ t. not (is_before t (slot_of d))) (map.keys rows)) c.in-Some.is in
    omega (arith, less, same)

pub rows-preserved : goal.rows-preserved
rows-preserved g c =
    let rows = c.index-layers-world.result.rows in
    let f = found_is slot_total slot_exact rows (is_after slot_cmp c.in-Some.slot) c.next_after-next.result c.next_after-next.ensures.least in
    let less = fewer slot_total slot_exact rows c.in-Some.slot c.next_after-next.result f (ap is_some (c.rows.invariant.there (c.in-Some.slot, c.in-Some.row) c.in-Some.is)) in
    let k = 2 * depth_of (full_of c.args.layers.now) c.args.above.world + 3 in
    let many = times_le k _ _ less in
    let same = ap (λ (d : Option (Slot × Row)). count_passing (λ t. not (is_before t (slot_of d))) (map.keys rows) * k) c.in-Some.is in
    record {
      cost = omega (arith, many, same, c.rows.invariant.cost, c.row_differs.ensures.steps, c.next_after-next.ensures.step);
      there = f.there;
      before = λ x y fx fy. reads_next c.args.layers.now c.requires.sparse c.args.world c.requires.there c.index-layers-world.result (slice_read c.args.layers.now c.args.world.place c.index-layers-world.result c.index-layers-world.is (below_at c.args.layers.now c.args.world c.requires.sparse c.requires.there)) c.args.above.world x y fx fy c.in-Some.slot c.in-Some.row c.next_after-next.result (c.rows.invariant.there (c.in-Some.slot, c.in-Some.row) c.in-Some.is) (sym c.row_differs.ensures.differs ∙ c.if-row_differs.false) (λ t b. c.rows.invariant.before x y fx fy t (ap (λ d. is_before t (slot_of d)) c.in-Some.is ∙ b)) f;
    }

pub returns-clause-steps : goal.returns-clause-steps
returns-clause-steps g c = λ x fx px.
    let k = 2 * depth_of (full_of c.args.layers.now) c.args.above.world + 3 in
    let all = rows_work c.args.layers.now c.requires.sparse c.args.world c.requires.there c.index-layers-world.result (slice_read c.args.layers.now c.args.world.place c.index-layers-world.result c.index-layers-world.is (below_at c.args.layers.now c.args.world c.requires.sparse c.requires.there)) x fx k px in
    omega (arith, all, c.rows.invariant.cost)

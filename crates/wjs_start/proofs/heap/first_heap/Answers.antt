use Rattle.std.proofs.Common.{length, sym, ap, ◌∙◌, subst}
use Rattle.wjs_base.specs.Text.{Table, Grows}
use Rattle.wjs_base.proofs.TextLaws.{Grows-refl}
use Rattle.wjs_heap.specs.Means.{parts}
use Rattle.wjs_start.specs.Building.{Building}
use Rattle.wjs_start.specs.Known.{declared_in}
use Rattle.wjs_start.proofs.Beginning.{nothing_built, knows_here, names_here, places_here, places_within, first_there, made_from_nothing, begun}
use Rattle.wjs_start.proofs.heap.first_heap.Goals as goal

pub create_all-requires-clause-building : goal.create_all-requires-clause-building
create_all-requires-clause-building g c = nothing_built (parts g.S.WorldStore.meaning c.new-heap.result) c.new-heap.ensures.heap c.new-heap.ensures.arena

pub create_all-requires-clause-knows : goal.create_all-requires-clause-knows
create_all-requires-clause-knows g c = knows_here c.make_known.new.texts c.new-heap.result.texts c.in_ok-known.known c.new-heap.ensures.texts c.in_ok-known.ensures.knows

pub write_all-requires-clause-building : goal.write_all-requires-clause-building
write_all-requires-clause-building g c =
    subst (Building (parts g.S.WorldStore.meaning c.create_all.new.heap)) (ap length c.as_slice.ensures.value ∙ c.in_ok-list.ensures.many) c.in_ok-create_all.ensures.building

pub write_all-requires-clause-world : goal.write_all-requires-clause-world
write_all-requires-clause-world g c =
    let m = g.S.WorldStore.meaning in
    first_there (m c.create_all.new.heap.store) (m c.args.store) (c.in_ok-create_all.ensures.store ∙ ap m c.new-heap.ensures.store) c.requires.new

pub write_all-requires-clause-there : goal.write_all-requires-clause-there
write_all-requires-clause-there g c =
    let texts = c.create_all.new.heap.texts in
    let knows = knows_here c.make_known.new.texts texts c.in_ok-known.known (c.in_ok-create_all.ensures.texts ∙ c.new-heap.ensures.texts) c.in_ok-known.ensures.knows texts (Grows-refl texts) in
    places_here texts c.in_ok-known.known c.as_slice-2.result.now c.as_slice-2.ensures.value knows

pub write_all-requires-clause-within : goal.write_all-requires-clause-within
write_all-requires-clause-within g c =
    let texts = c.create_all.new.heap.texts in
    let knows = knows_here c.make_known.new.texts texts c.in_ok-known.known (c.in_ok-create_all.ensures.texts ∙ c.new-heap.ensures.texts) c.in_ok-known.ensures.knows texts (Grows-refl texts) in
    places_within texts c.in_ok-known.known c.as_slice-2.result.now c.as_slice-2.ensures.value knows

pub returns : goal.returns
returns g c =
    let m = g.S.WorldStore.meaning in
    let k = c.in_ok-known.known in
    let made = c.in_ok-create_all.ensures in
    let none = parts m c.new-heap.result in
    let mid = parts m c.create_all.new.heap in
    let same = made.texts ∙ c.new-heap.ensures.texts in
    begun c.args.texts (m c.args.store) c.args.declared.now k c.in_ok-list.list.items c.as_slice-2.result.now mid (parts m c.write_all.new.heap) (g.met.S.WorldStore.sound c.write_all.new.heap.store) c.requires.new
    (subst (λ (x : Table). Grows c.args.texts x) (sym same) c.in_ok-known.ensures.grows)
    (made.store ∙ ap m c.new-heap.ensures.store)
    (knows_here c.make_known.new.texts mid.texts k same c.in_ok-known.ensures.knows)
    (names_here c.make_known.new.texts mid.texts k c.args.declared.now same c.in_ok-known.ensures.declared)
    c.in_ok-list.ensures.built
    (subst (Building mid) (ap length c.as_slice.ensures.value ∙ c.in_ok-list.ensures.many) made.building)
    (λ t knows. made_from_nothing t (declared_in t k) none mid c.as_slice.result.now c.in_ok-list.list.items c.new-heap.ensures.arena c.as_slice.ensures.value (made.arena t knows))
    c.as_slice-2.ensures.value
    c.in_ok-write_all.ensures

use Rattle.std.proofs.Common.{ap, ◌∙◌, map}
use Rattle.wjs_base.specs.Text.{Table, Grows}
use Rattle.wjs_base.proofs.TextLaws.{Grows-refl, Grows-trans}
use Rattle.wjs_props.proofs.Cutting.{names_known}
use Rattle.wjs_start.proofs.Placing.{places_tell}
use Rattle.wjs_start.specs.Properties.{property_in}
use Rattle.wjs_start.proofs.known.make_known.Goals as goal

pub returns-clause-knows : goal.returns-clause-knows
returns-clause-knows c = λ t g.
    let t0 = c.args.texts.now in
    let t1 = c.name_number.new.texts in
    let t2 = c.name_number-2.new.texts in
    let t3 = c.text_number.new.texts in
    let t4 = c.library.new.texts in
    let t5 = c.places.new.texts in
    let g4 : (u : Table) → Grows t5 u → Grows t4 u = λ u h. Grows-trans t4 t5 u c.in_ok-places.ensures.grows h in
    let g3 : (u : Table) → Grows t5 u → Grows t3 u = λ u h. Grows-trans t3 t4 u c.in_ok-library.ensures.grows (g4 u h) in
    let g2 : (u : Table) → Grows t5 u → Grows t2 u = λ u h. Grows-trans t2 t3 u c.in_ok-empty.ensures.grows (g3 u h) in
    let g1 : (u : Table) → Grows t5 u → Grows t1 u = λ u h. Grows-trans t1 t2 u c.in_ok-prototype.ensures.grows (g2 u h) in
    let back : (u : Table) → Grows t5 u → Grows t0 u = λ u h. Grows-trans t0 t1 u c.in_ok-length.ensures.grows (g1 u h) in
    let places = c.in_ok-places.ensures.are t g in
    record {
      length = c.in_ok-length.ensures.is t (g1 t g);
      prototype = c.in_ok-prototype.ensures.is t (g2 t g);
      empty = c.in_ok-empty.ensures.is t (g3 t g);
      library = c.in_ok-library.ensures.are t (g4 t g);
      declared = (c.in_ok-declared.ensures t (back t g)).there;
      places = record { there = places.there; are = places.are ∙ ap (map property_in) c.as_slice.ensures.value ∙ c.in_ok-list.ensures };
      tells_declared = names_known t5 t c.in_ok-places.ensures.table g c.in_ok-declared.declared.items (c.in_ok-declared.ensures t5 (back t5 (Grows-refl t5))).there;
      tells_places = places_tell t5 t c.in_ok-places.ensures.table g c.in_ok-places.places.items (c.in_ok-places.ensures.are t5 (Grows-refl t5)).there;
    }

pub returns-clause-declared : goal.returns-clause-declared
returns-clause-declared c = λ t g.
    let t0 = c.args.texts.now in
    let t1 = c.name_number.new.texts in
    let t2 = c.name_number-2.new.texts in
    let t3 = c.text_number.new.texts in
    let t4 = c.library.new.texts in
    let t5 = c.places.new.texts in
    let g4 = Grows-trans t4 t5 t c.in_ok-places.ensures.grows g in
    let g3 = Grows-trans t3 t4 t c.in_ok-library.ensures.grows g4 in
    let g2 = Grows-trans t2 t3 t c.in_ok-empty.ensures.grows g3 in
    let g1 = Grows-trans t1 t2 t c.in_ok-prototype.ensures.grows g2 in
    (c.in_ok-declared.ensures t (Grows-trans t0 t1 t c.in_ok-length.ensures.grows g1)).spell

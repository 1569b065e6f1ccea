use Rattle.std.proofs.Common.{◌≡◌, List, [], ◌∷◌, ◌++◌, ap, ◌∙◌, sym, subst, append-nil, arith}
use Rattle.std.specs.Prelude.{OnOk, map, slice_index_or}
use Rattle.std.proofs.lemmas.List.Elements.{All-get_or}
use Rattle.wjs_base.specs.declared.ids.ObjId.{ObjId}
use Rattle.wjs_base.specs.declared.ids.TextId.{TextId}
use Rattle.wjs_base.specs.declared.values.Name.{Name}
use Rattle.wjs_base.specs.declared.values.Value.{Value as NumberedValue}
use Rattle.wjs_base.specs.Text.{Table, Has}
use Rattle.wjs_by_content.specs.Names.{Slot, slot}
use Rattle.wjs_by_content.specs.Tables.{name_in, text_in, value_in}
use Rattle.wjs_by_content.specs.Values.{Value}
use Rattle.wjs_meaning.specs.Deeds.{write_all}
use Rattle.wjs_meaning.specs.Functions.{formal_slots}
use Rattle.wjs_model.specs.Soundness.{HasObject}
use Rattle.wjs_frames.specs.Doing.{DoesFirst}
use Rattle.wjs_props.specs.Several.{rows_in}
use Rattle.wjs_variables.proofs.Filling.{none_there, one_there, two_there, three_there, formal_slot, one_formal, two_formals, three_formals}
use Rattle.wjs_calls.proofs.Rows.{written_as}
use Rattle.wjs_variables.proofs.scopes.write_formals.Goals as goal

pub write_rows-requires-clause-rows : goal.write_rows-requires-clause-rows
write_rows-requires-clause-rows g c = ((c.requires.name, c.requires.value), tt)

pub write_rows-requires-clause-object : goal.write_rows-requires-clause-object
write_rows-requires-clause-object g c = subst (HasObject c.args.config.now) (sym c.scope-scope.ensures) c.requires.there.scope

pub returns-in-empty-clause-does : goal.returns-in-empty-clause-does
returns-in-empty-clause-does g c =
    let m = g.S.WorldStore.meaning in
    let w = c.args.frame.now.world in
    let s = c.args.frame.now.scope in
    let first = c.args.first in
    let ns = c.args.formals.now in
    let vs = c.args.values.now in
    let old = c.args.config.now in
    let new = c.write_rows.new.config in
    let other : TextId = record { 0 = 0 } in
    let rows : List (Name × NumberedValue) = first ∷ [] in
    written_as m w c.write_rows.result (λ t. rows_in t s rows) (λ t. (slot s (name_in t first.0), value_in t first.1) ∷ formal_slots s (map (text_in t) ns) (map (value_in t) vs)) old new
    (subst (λ (o : ObjId). OnOk c.write_rows.result (DoesFirst m (λ t. write_all w (rows_in t o rows)) old new)) c.scope-scope.ensures c.write_rows.ensures.does) c.write_rows.ensures.later
    (λ t more. ap (λ (l : List TextId). (slot s (name_in t first.0), value_in t first.1) ∷ formal_slots s (map (text_in t) l) (map (value_in t) vs)) (sym (none_there ns (omega (arith, c.in-empty.len_below)))))

pub returns-in-empty-clause-later : goal.returns-in-empty-clause-later
returns-in-empty-clause-later g c = c.write_rows.ensures.later

pub formal-a-requires-clause-text : goal.formal-a-requires-clause-text
formal-a-requires-clause-text g c =
    let other : TextId = record { 0 = 0 } in
    All-get_or (Has c.args.config.now.heap.texts) c.args.formals.now 0 other (omega (arith, c.in-len1.len_at_least)) c.requires.formals

pub write_rows-requires-in-len1-clause-rows : goal.write_rows-requires-in-len1-clause-rows
write_rows-requires-in-len1-clause-rows g c = ((c.requires.name, c.requires.value), ((c.formal-a.ensures.name, c.formal-a.ensures.value), tt))

pub write_rows-requires-in-len1-clause-object : goal.write_rows-requires-in-len1-clause-object
write_rows-requires-in-len1-clause-object g c = subst (HasObject c.args.config.now) (sym c.scope-scope.ensures) c.requires.there.scope

pub returns-in-len1-clause-does : goal.returns-in-len1-clause-does
returns-in-len1-clause-does g c =
    let m = g.S.WorldStore.meaning in
    let w = c.args.frame.now.world in
    let s = c.args.frame.now.scope in
    let first = c.args.first in
    let ns = c.args.formals.now in
    let vs = c.args.values.now in
    let old = c.args.config.now in
    let new = c.write_rows-in-len1.new.config in
    let other : TextId = record { 0 = 0 } in
    let rows : List (Name × NumberedValue) = first ∷ c.formal-a.result ∷ [] in
    written_as m w c.write_rows-in-len1.result (λ t. rows_in t s rows) (λ t. (slot s (name_in t first.0), value_in t first.1) ∷ formal_slots s (map (text_in t) ns) (map (value_in t) vs)) old new
    (subst (λ (o : ObjId). OnOk c.write_rows-in-len1.result (DoesFirst m (λ t. write_all w (rows_in t o rows)) old new)) c.scope-scope.ensures c.write_rows-in-len1.ensures.does) c.write_rows-in-len1.ensures.later
    (λ t more.
    let head : Slot × Value = (slot s (name_in t first.0), value_in t first.1) in
    let named : rows_in t s rows ≡ head ∷ formal_slot t s vs (slice_index_or ns 0 other) 0 ∷ [] = λ i. head ∷ (slot s (c.formal-a.ensures.text t more i), value_in t (c.formal-a.ensures.argument i)) ∷ [] in
    named
    ∙ ap (λ l. head ∷ l) (sym (one_formal t s vs (slice_index_or ns 0 other)))
    ∙ ap (λ (l : List TextId). head ∷ formal_slots s (map (text_in t) l) (map (value_in t) vs)) (sym (one_there ns other (omega (arith, c.in-len1.len_at_least)) (omega (arith, c.in-len1.len_below)))))

pub returns-in-len1-clause-later : goal.returns-in-len1-clause-later
returns-in-len1-clause-later g c = c.write_rows-in-len1.ensures.later

pub formal-a-requires-in-len2-clause-text : goal.formal-a-requires-in-len2-clause-text
formal-a-requires-in-len2-clause-text g c =
    let other : TextId = record { 0 = 0 } in
    All-get_or (Has c.args.config.now.heap.texts) c.args.formals.now 0 other (omega (arith, c.in-len2.len_at_least)) c.requires.formals

pub formal-b-requires-clause-text : goal.formal-b-requires-clause-text
formal-b-requires-clause-text g c =
    let other : TextId = record { 0 = 0 } in
    All-get_or (Has c.args.config.now.heap.texts) c.args.formals.now 1 other (omega (arith, c.in-len2.len_at_least)) c.requires.formals

pub write_rows-requires-in-len2-clause-rows : goal.write_rows-requires-in-len2-clause-rows
write_rows-requires-in-len2-clause-rows g c = ((c.requires.name, c.requires.value), ((c.formal-a-in-len2.ensures.name, c.formal-a-in-len2.ensures.value), ((c.formal-b.ensures.name, c.formal-b.ensures.value), tt)))

pub write_rows-requires-in-len2-clause-object : goal.write_rows-requires-in-len2-clause-object
write_rows-requires-in-len2-clause-object g c = subst (HasObject c.args.config.now) (sym c.scope-scope.ensures) c.requires.there.scope

pub returns-in-len2-clause-does : goal.returns-in-len2-clause-does
returns-in-len2-clause-does g c =
    let m = g.S.WorldStore.meaning in
    let w = c.args.frame.now.world in
    let s = c.args.frame.now.scope in
    let first = c.args.first in
    let ns = c.args.formals.now in
    let vs = c.args.values.now in
    let old = c.args.config.now in
    let new = c.write_rows-in-len2.new.config in
    let other : TextId = record { 0 = 0 } in
    let rows : List (Name × NumberedValue) = first ∷ c.formal-a-in-len2.result ∷ c.formal-b.result ∷ [] in
    written_as m w c.write_rows-in-len2.result (λ t. rows_in t s rows) (λ t. (slot s (name_in t first.0), value_in t first.1) ∷ formal_slots s (map (text_in t) ns) (map (value_in t) vs)) old new
    (subst (λ (o : ObjId). OnOk c.write_rows-in-len2.result (DoesFirst m (λ t. write_all w (rows_in t o rows)) old new)) c.scope-scope.ensures c.write_rows-in-len2.ensures.does) c.write_rows-in-len2.ensures.later
    (λ t more.
    let head : Slot × Value = (slot s (name_in t first.0), value_in t first.1) in
    let named : rows_in t s rows ≡ head ∷ formal_slot t s vs (slice_index_or ns 0 other) 0 ∷ formal_slot t s vs (slice_index_or ns 1 other) 1 ∷ [] = λ i. head ∷ (slot s (c.formal-a-in-len2.ensures.text t more i), value_in t (c.formal-a-in-len2.ensures.argument i)) ∷ (slot s (c.formal-b.ensures.text t more i), value_in t (c.formal-b.ensures.argument i)) ∷ [] in
    named
    ∙ ap (λ l. head ∷ l) (sym (two_formals t s vs (slice_index_or ns 0 other) (slice_index_or ns 1 other)))
    ∙ ap (λ (l : List TextId). head ∷ formal_slots s (map (text_in t) l) (map (value_in t) vs)) (sym (two_there ns other (omega (arith, c.in-len2.len_at_least)) (omega (arith, c.in-len2.len_below)))))

pub returns-in-len2-clause-later : goal.returns-in-len2-clause-later
returns-in-len2-clause-later g c = c.write_rows-in-len2.ensures.later

pub formal-a-requires-in-len3-clause-text : goal.formal-a-requires-in-len3-clause-text
formal-a-requires-in-len3-clause-text g c =
    let other : TextId = record { 0 = 0 } in
    All-get_or (Has c.args.config.now.heap.texts) c.args.formals.now 0 other (omega (arith, c.in-len3.len_at_least)) c.requires.formals

pub formal-b-requires-in-len3-clause-text : goal.formal-b-requires-in-len3-clause-text
formal-b-requires-in-len3-clause-text g c =
    let other : TextId = record { 0 = 0 } in
    All-get_or (Has c.args.config.now.heap.texts) c.args.formals.now 1 other (omega (arith, c.in-len3.len_at_least)) c.requires.formals

pub formal-c-requires-clause-text : goal.formal-c-requires-clause-text
formal-c-requires-clause-text g c =
    let other : TextId = record { 0 = 0 } in
    All-get_or (Has c.args.config.now.heap.texts) c.args.formals.now 2 other (omega (arith, c.in-len3.len_at_least)) c.requires.formals

pub write_rows-requires-in-len3-clause-rows : goal.write_rows-requires-in-len3-clause-rows
write_rows-requires-in-len3-clause-rows g c = ((c.requires.name, c.requires.value), ((c.formal-a-in-len3.ensures.name, c.formal-a-in-len3.ensures.value), ((c.formal-b-in-len3.ensures.name, c.formal-b-in-len3.ensures.value), ((c.formal-c.ensures.name, c.formal-c.ensures.value), tt))))

pub write_rows-requires-in-len3-clause-object : goal.write_rows-requires-in-len3-clause-object
write_rows-requires-in-len3-clause-object g c = subst (HasObject c.args.config.now) (sym c.scope-scope.ensures) c.requires.there.scope

pub returns-in-len3-clause-does : goal.returns-in-len3-clause-does
returns-in-len3-clause-does g c =
    let m = g.S.WorldStore.meaning in
    let w = c.args.frame.now.world in
    let s = c.args.frame.now.scope in
    let first = c.args.first in
    let ns = c.args.formals.now in
    let vs = c.args.values.now in
    let old = c.args.config.now in
    let new = c.write_rows-in-len3.new.config in
    let other : TextId = record { 0 = 0 } in
    let rows : List (Name × NumberedValue) = first ∷ c.formal-a-in-len3.result ∷ c.formal-b-in-len3.result ∷ c.formal-c.result ∷ [] in
    written_as m w c.write_rows-in-len3.result (λ t. rows_in t s rows) (λ t. (slot s (name_in t first.0), value_in t first.1) ∷ formal_slots s (map (text_in t) ns) (map (value_in t) vs)) old new
    (subst (λ (o : ObjId). OnOk c.write_rows-in-len3.result (DoesFirst m (λ t. write_all w (rows_in t o rows)) old new)) c.scope-scope.ensures c.write_rows-in-len3.ensures.does) c.write_rows-in-len3.ensures.later
    (λ t more.
    let head : Slot × Value = (slot s (name_in t first.0), value_in t first.1) in
    let named : rows_in t s rows ≡ head ∷ formal_slot t s vs (slice_index_or ns 0 other) 0 ∷ formal_slot t s vs (slice_index_or ns 1 other) 1 ∷ formal_slot t s vs (slice_index_or ns 2 other) 2 ∷ [] = λ i. head ∷ (slot s (c.formal-a-in-len3.ensures.text t more i), value_in t (c.formal-a-in-len3.ensures.argument i)) ∷ (slot s (c.formal-b-in-len3.ensures.text t more i), value_in t (c.formal-b-in-len3.ensures.argument i)) ∷ (slot s (c.formal-c.ensures.text t more i), value_in t (c.formal-c.ensures.argument i)) ∷ [] in
    named
    ∙ ap (λ l. head ∷ l) (sym (three_formals t s vs (slice_index_or ns 0 other) (slice_index_or ns 1 other) (slice_index_or ns 2 other)))
    ∙ ap (λ (l : List TextId). head ∷ formal_slots s (map (text_in t) l) (map (value_in t) vs)) (sym (three_there ns other (omega (arith, c.in-len3.len_at_least)) (omega (arith, c.in-len3.len_below)))))

pub returns-in-len3-clause-later : goal.returns-in-len3-clause-later
returns-in-len3-clause-later g c = c.write_rows-in-len3.ensures.later

pub returns-in_default-clause-does : goal.returns-in_default-clause-does
returns-in_default-clause-does g c =
    let m = g.S.WorldStore.meaning in
    let w = c.args.frame.now.world in
    let s = c.args.frame.now.scope in
    let first = c.args.first in
    let formals = λ (t : Table). formal_slots s (map (text_in t) c.args.formals.now) (map (value_in t) c.args.values.now) in
    written_as m w c.write_gathered.result (λ t. (slot s (name_in t first.0), value_in t first.1) ∷ formals t ++ []) (λ t. (slot s (name_in t first.0), value_in t first.1) ∷ formals t) c.args.config.now c.write_gathered.new.config
    c.write_gathered.ensures.does c.write_gathered.ensures.later (λ t more. ap (λ l. (slot s (name_in t first.0), value_in t first.1) ∷ l) (append-nil (formals t)))

pub returns-in_default-clause-later : goal.returns-in_default-clause-later
returns-in_default-clause-later g c = c.write_gathered.ensures.later

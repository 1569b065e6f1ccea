use Rattle.std.proofs.Common.{List, [], ◌∷◌, ◌++◌, ap, ◌∙◌, sym, subst}
use Rattle.std.specs.Prelude.{OnOk, map}
use Rattle.wjs_base.specs.declared.ids.ObjId.{ObjId}
use Rattle.wjs_base.specs.Text.{Table}
use Rattle.wjs_by_content.specs.Names.{Slot, slot}
use Rattle.wjs_by_content.specs.Tables.{name_in, text_in, value_in}
use Rattle.wjs_by_content.specs.Values.{Value}
use Rattle.wjs_meaning.specs.Deeds.{write_all}
use Rattle.wjs_meaning.specs.Functions.{formal_slots}
use Rattle.wjs_model.specs.Soundness.{HasObject}
use Rattle.wjs_frames.specs.Doing.{DoesFirst}
use Rattle.wjs_props.specs.Several.{rows_in}
use Rattle.wjs_heap_steps.specs.HasRows.{HasRows}
use Rattle.wjs_variables.specs.Filling.{undefined_slots}
use Rattle.wjs_variables.proofs.Filling.{formals_undefined}
use Rattle.wjs_calls.proofs.Rows.{written_as}
use Rattle.wjs_variables.proofs.Gathering.{row_in, row_there}
use Rattle.wjs_variables.proofs.scopes.write_gathered.Goals as goal

pub put_formals-requires-clause-known : goal.put_formals-requires-clause-known
put_formals-requires-clause-known g c = row_there c.args.config.now [] c.push.new.self.items c.args.first tt c.requires.name c.requires.value (c.in_ok-push.ensures.items ∙ ap (λ l. l ++ c.args.first ∷ []) c.in_ok-rows.ensures.items)

pub write_rows-requires-clause-object : goal.write_rows-requires-clause-object
write_rows-requires-clause-object g c = subst (HasObject c.args.config.now) (sym c.scope.ensures) c.requires.there.scope

pub write_rows-requires-clause-rows : goal.write_rows-requires-clause-rows
write_rows-requires-clause-rows g c = subst (HasRows c.args.config.now) (sym c.as_slice.ensures.value) c.in_ok-put_formals-2.ensures.known

pub returns-clause-does : goal.returns-clause-does
returns-clause-does g c =
    let m = g.S.WorldStore.meaning in
    let w = c.args.frame.now.world in
    let s = c.args.frame.now.scope in
    let first = c.args.first in
    let old = c.args.config.now in
    let new = c.write_rows.new.config in
    let rows = c.as_slice.result.now in
    let head : Table → Slot × Value = λ t. (slot s (name_in t first.0), value_in t first.1) in
    let formals : Table → List (Slot × Value) = λ t. formal_slots s (map (text_in t) c.args.formals.now) (map (value_in t) c.args.values.now) in
    let others = c.args.others.now in
    written_as m w c.write_rows.result (λ t. rows_in t s rows) (λ t. head t ∷ formals t ++ undefined_slots s (map (text_in t) others)) old new
    (subst (λ (o : ObjId). OnOk c.write_rows.result (DoesFirst m (λ t. write_all w (rows_in t o rows)) old new)) c.scope.ensures c.write_rows.ensures.does) c.write_rows.ensures.later
    (λ t more.
    ap (rows_in t s) c.as_slice.ensures.value
    ∙ c.in_ok-put_formals-2.ensures.slots t more s
    ∙ ap (λ l. l ++ formal_slots s (map (text_in t) others) []) (c.in_ok-put_formals.ensures.slots t more s ∙ ap (λ l. l ++ formals t) (row_in t s [] c.push.new.self.items first (c.in_ok-push.ensures.items ∙ ap (λ l. l ++ first ∷ []) c.in_ok-rows.ensures.items)))
    ∙ ap (λ l. head t ∷ formals t ++ l) (formals_undefined t s others))

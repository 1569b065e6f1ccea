use Rattle.std.proofs.Common.{◌≡◌, sym, ap, ◌∙◌}
use Rattle.std.proofs.lemmas.Result.{on_ok_weaker, IfOk-weaker}
use Rattle.wjs_base.specs.declared.values.Value.{Value}
use Rattle.wjs_base.specs.Text.{IsTable}
use Rattle.wjs_base.specs.Unicode.{utf8_of}
use Rattle.wjs_by_content.specs.Tables.{value_in, arena_in}
use Rattle.wjs_by_content.specs.Worlds.{worlds_in}
use Rattle.wjs_store.specs.Meaning.{worlds}
use Rattle.wjs_props.proofs.Actions.{value_knows}
use Rattle.wjs_heap_steps.proofs.Having.{value_here}
use Rattle.wjs_reports.specs.Thrown.{ShowsIn, shown_object, shown_value}
use Rattle.wjs_reports.proofs.Carried.{shows_value}
use Rattle.wjs_reports.proofs.Leaving.{texts_leave}
use Rattle.wjs_reports.proofs.thrown.show_thrown.Goals as goal

pub show_primitive-requires : goal.show_primitive-requires
show_primitive-requires g c = value_knows c.args.config.now.heap.texts c.args.config.now.heap.arena c.args.value c.requires.base.heap.table (value_here c.args.config.now c.args.value c.requires.value)

pub returns-in-Object-clause-shows : goal.returns-in-Object-clause-shows
returns-in-Object-clause-shows g c =
    let m = g.S.WorldStore.meaning in
    let config = c.args.config.now in
    let t = config.heap.texts in
    let arena = arena_in t config.heap.arena in
    let full = worlds_in t (worlds (m config.heap.store)) in
    IfOk-weaker c.show_object.result
    (λ bytes. bytes.items ≡ utf8_of (shown_object arena full config.world c.in-Object.object))
    (λ bytes. ShowsIn m config c.args.value bytes.items)
    (λ bytes is. shows_value m config c.args.value bytes.items (is ∙ ap (λ (v : Value). utf8_of (shown_value (value_in t v) arena full config.world)) (sym c.in-Object.is)))
    c.show_object.ensures.shows

pub returns-in_default-clause-leaves : goal.returns-in_default-clause-leaves
returns-in_default-clause-leaves g c =
    on_ok_weaker c.show_primitive.result (λ (table : IsTable c.show_primitive.new.texts). texts_leave g.S.WorldStore.meaning c.args.config.now c.show_primitive.new.texts c.requires.base table c.show_primitive.ensures.grows) c.show_primitive.ensures.table

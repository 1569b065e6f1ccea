use Rattle.std.proofs.Common.{◌≡◌, IsTrue, ◌∙◌, subst}
use Rattle.std.specs.Prelude.{not, IfOk}
use Rattle.wjs_base.specs.declared.ids.WorldId.{WorldId}
use Rattle.wjs_base.specs.Unicode.{utf8_of}
use Rattle.wjs_by_content.specs.Names.{message_name}
use Rattle.wjs_by_content.specs.Properties as plan
use Rattle.wjs_by_content.specs.Tables.{content_in, arena_in}
use Rattle.wjs_by_content.specs.Values.{Text}
use Rattle.wjs_heap.specs.Heap.{Performs}
use Rattle.wjs_heap.specs.Means.{parts}
use Rattle.wjs_reports.proofs.Errors.{fault_read}
use Rattle.wjs_reports.proofs.Leaving.{on_any, world_left, object_left, leaves_twice}
use Rattle.wjs_reports.proofs.thrown.show_fault.Goals as goal

pub property-requires-2-clause-object : goal.property-requires-2-clause-object
property-requires-2-clause-object g c = object_left g.S.WorldStore.meaning c.args.config.now c.property.new.config c.args.object c.in_ok-name.ensures.leaves c.requires.object

pub returns-clause-shows : goal.returns-clause-shows
returns-clause-shows g c =
    let m = g.S.WorldStore.meaning in
    let old = c.args.config.now in
    let mid = c.property.new.config in
    let new = c.property-2.new.config in
    let first = c.in_ok-name.ensures.gets in
    let gets : WorldId → Type 0 = λ w. Performs w (λ t. plan.get (arena_in t mid.heap.arena) c.args.object message_name) (λ t. content_in t c.in_ok-message.message) (parts m mid.heap) (parts m new.heap) in
    let second = subst gets (world_left m old mid c.in_ok-name.ensures.leaves) c.in_ok-message.ensures.gets in
    let works : IsTrue (not (m new.heap.store).spent) = c.in_ok-message.ensures.leaves.base.works in
    let read = fault_read old.world c.args.object c.in_ok-name.name c.in_ok-message.message (parts m old.heap) (parts m mid.heap) (parts m new.heap) c.requires.base.heap c.requires.base.marks (g.met.S.WorldStore.sound new.heap.store works).admits_own first second in
    let P : Text → Type 0 = λ u. IfOk c.utf8_of_units.result (λ bytes. bytes.items ≡ utf8_of u) in
    subst P (c.as_slice.ensures.value ∙ c.in_ok-units.ensures ∙ read) c.utf8_of_units.ensures.bytes

pub returns-clause-leaves : goal.returns-clause-leaves
returns-clause-leaves g c = on_any c.utf8_of_units.result (leaves_twice g.S.WorldStore.meaning c.args.config.now c.property.new.config c.property-2.new.config c.in_ok-name.ensures.leaves c.in_ok-message.ensures.leaves)

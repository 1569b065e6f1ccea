use Rattle.std.proofs.Common.{◌≡◌, sym, ap, ◌∙◌, subst}
use Rattle.std.specs.Prelude.{IfOk}
use Rattle.wjs_base.specs.Unicode.{utf8_of}
use Rattle.wjs_arena.specs.declared.class.Class.{Class}
use Rattle.wjs_arena.specs.declared.class.Class.TheVariants as class
use Rattle.wjs_by_content.specs.Objects.{Internals, object_at}
use Rattle.wjs_by_content.specs.Tables.{arena_in}
use Rattle.wjs_by_content.specs.Values.{Text}
use Rattle.wjs_by_content.specs.Worlds.{worlds_in}
use Rattle.wjs_store.specs.Meaning.{worlds}
use Rattle.wjs_heap_steps.proofs.Looking.{object_is}
use Rattle.wjs_reports.specs.Thrown.{shown_by}
use Rattle.wjs_reports.proofs.Carried.{shown_other}
use Rattle.wjs_reports.proofs.Leaving.{on_any, leaves_same}
use Rattle.std.specs.FinMap as map
use Rattle.wjs_arena.proofs.Fields.{classed, classed_is}
use Rattle.wjs_reports.proofs.thrown.show_object.Goals as goal

pub returns-in-Fault-clause-shows : goal.returns-in-Fault-clause-shows
returns-in-Fault-clause-shows g c =
    let config = c.args.config.now in
    let heap = config.heap in
    let t = heap.texts in
    let arena = arena_in t heap.arena in
    let full = worlds_in t (worlds (g.S.WorldStore.meaning heap.store)) in
    let is : class.Fault ≡ (object_at arena c.args.object).class = sym c.in-Fault.is ∙ sym (ap (λ (x : Internals). x.class) (object_is heap.arena c.args.object (classed (map.get c.args.config.now.heap.arena c.args.object) c.class-class.result) c.requires.object.0 (classed_is (map.get c.args.config.now.heap.arena c.args.object) c.class-class.result c.class-class.ensures.class) t)) in
    let P : Class → Type 0 = λ k. IfOk c.show_fault.result (λ bytes. bytes.items ≡ utf8_of (shown_by k arena full config.world c.args.object)) in
    subst P is c.show_fault.ensures.shows

pub returns-in_default-clause-shows : goal.returns-in_default-clause-shows
returns-in_default-clause-shows g c =
    let config = c.args.config.now in
    let heap = config.heap in
    let t = heap.texts in
    let arena = arena_in t heap.arena in
    let full = worlds_in t (worlds (g.S.WorldStore.meaning heap.store)) in
    let is = sym (ap (λ (x : Internals). x.class) (object_is heap.arena c.args.object (classed (map.get c.args.config.now.heap.arena c.args.object) c.class-class.result) c.requires.object.0 (classed_is (map.get c.args.config.now.heap.arena c.args.object) c.class-class.result c.class-class.ensures.class) t)) in
    let P : Text → Type 0 = λ u. IfOk c.utf8_of_units.result (λ bytes. bytes.items ≡ utf8_of u) in
    subst P (c.class_name.ensures ∙ shown_other c.class-class.result c.in_default.not-Fault arena full config.world c.args.object ∙ ap (λ (k : Class). shown_by k arena full config.world c.args.object) is) c.utf8_of_units.ensures.bytes

pub returns-in_default-clause-leaves : goal.returns-in_default-clause-leaves
returns-in_default-clause-leaves g c = on_any c.utf8_of_units.result (leaves_same g.S.WorldStore.meaning c.args.config.now c.requires.base)

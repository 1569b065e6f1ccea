use Rattle.std.proofs.Common.{◌≡◌, List, [], ◌∷◌, ◌++◌, length, sym, ap, ◌∙◌}
use Rattle.std.specs.Prelude.{map}
use Rattle.wjs_base.specs.declared.values.Name.{Name}
use Rattle.wjs_base.specs.declared.values.Value.{Value as NumberedValue}
use Rattle.wjs_base.specs.declared.values.Value.TheVariants as values
use Rattle.wjs_by_content.specs.Names.{slot}
use Rattle.wjs_by_content.specs.Tables.{value_in}
use Rattle.wjs_by_content.specs.Values.{Object, whole}
use Rattle.wjs_meaning.specs.Functions.{arguments_slots}
use Rattle.wjs_meaning.specs.NewObjects.{elements_from}
use Rattle.wjs_props.specs.Several.{rows_in}
use Rattle.wjs_heap_steps.proofs.Having.{value_both}
use Rattle.wjs_heap_steps.proofs.Making.{number_there, number_near}
use Rattle.wjs_calls.proofs.Elements.{length-each}
use Rattle.wjs_calls.proofs.Rows.{written_as}
use Rattle.wjs_variables.proofs.arguments.write_arguments.Goals as goal

pub write_listed-requires-clause-rows : goal.write_listed-requires-clause-rows
write_listed-requires-clause-rows g c =
    let config = c.args.config.now in
    let n = c.in_ok-count.count in
    let is = c.in_ok-count.ensures config.heap.texts in
    let value = value_both config n (number_there config.heap.texts config.heap.texts config.heap.arena n (length c.args.values.now) is) (number_near config.apart.items config.heap.texts n (length c.args.values.now) is) in
    ((c.requires.callee, c.requires.function), ((c.requires.length, value), tt))

pub returns-clause-does : goal.returns-clause-does
returns-clause-does g c =
    let o = c.args.arguments.object in
    let vs = c.args.values.now in
    let n = c.in_ok-count.count in
    let rows : List (Name × NumberedValue) = (c.args.arguments.callee, values.Object c.args.function) ∷ (c.args.arguments.length, n) ∷ [] in
    written_as g.S.WorldStore.meaning c.args.frame.now.world c.write_listed.result (λ t. rows_in t o rows ++ elements_from o 0 (map (value_in t) vs)) (λ t. arguments_slots o c.args.function (map (value_in t) vs)) c.args.config.now c.write_listed.new.config
    c.write_listed.ensures.does c.write_listed.ensures.later
    (λ t more.
    let size : value_in t n ≡ whole (length (map (value_in t) vs)) = c.in_ok-count.ensures t ∙ ap whole (sym (length-each (value_in t) vs)) in
    (λ i. (slot o (c.requires.callee_text t more i), Object c.args.function) ∷ (slot o (c.requires.length_text t more i), size i) ∷ elements_from o 0 (map (value_in t) vs)))

pub returns-clause-later : goal.returns-clause-later
returns-clause-later g c = c.write_listed.ensures.later

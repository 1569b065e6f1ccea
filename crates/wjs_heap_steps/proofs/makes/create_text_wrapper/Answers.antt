use Rattle.std.proofs.Common.{Some, ap, sym, ◌∙◌, subst, length}
use Rattle.std.proofs.lemmas.Result.{on_ok_weaker}
use Rattle.wjs_base.specs.declared.values.Name.{Name}
use Rattle.wjs_base.specs.declared.values.Value.{Value}
use Rattle.wjs_base.specs.declared.values.Value.TheVariants as values
use Rattle.wjs_base.specs.Spelling.{IsName}
use Rattle.wjs_base.specs.Text.{Units}
use Rattle.wjs_arena.specs.declared.class.Class.TheVariants as class
use Rattle.wjs_by_content.specs.Renamed.{Holds}
use Rattle.wjs_by_content.specs.Names.{length_name}
use Rattle.wjs_by_content.specs.Tables.{text_in, name_in}
use Rattle.wjs_by_content.specs.Values.{String, whole}
use Rattle.wjs_heap.specs.Heap.{HasValue}
use Rattle.wjs_meaning.specs.Builtins.{wrapper_of}
use Rattle.wjs_heap_steps.proofs.Composing.{if_ok}
use Rattle.wjs_heap_steps.proofs.Later.{later_twice}
use Rattle.wjs_heap_steps.proofs.Making.{text_wrapper_is, made_after, holding_named, number_there}
use Rattle.wjs_heap_steps.proofs.Making.{near_holding, number_near}
use Rattle.wjs_model.specs.Apart.{NearValue}
use Rattle.wjs_heap_steps.proofs.makes.create_text_wrapper.Goals as goal

pub create-requires-clause-named : goal.create-requires-clause-named
create-requires-clause-named g c =
    let mid = c.known_name.new.config.heap in
    holding_named mid.texts mid.arena c.object_of-object.result class.Text (Some c.builtin-prototype.result) c.object_of-object.ensures (values.Text c.args.id) c.in_ok-object.field-0
    (c.in_ok-name.ensures.later.values (values.Text c.args.id) c.requires.text)
    (subst (Holds (λ (e : Name × Value). IsName mid.texts e.0 × HasValue mid.texts mid.arena e.1)) (sym c.in_ok-object.ensures) ((c.in_ok-name.ensures.found, number_there mid.texts mid.texts mid.arena c.length_value-length.result _ (c.length_value-length.ensures mid.texts)), tt))

pub returns-clause-does : goal.returns-clause-does
returns-clause-does g c =
    let id = c.args.id in
    if_ok _ _ c.create.result
    (λ o k. made_after g.S.WorldStore.meaning (λ t. length_name) (λ t. name_in t c.in_ok-name.name) (λ t. wrapper_of (String (text_in t id))) o c.args.config.now c.known_name.new.config c.create.new.config c.in_ok-name.ensures.does c.in_ok-name.ensures.later
    (k (λ t. wrapper_of (String (text_in t id))) (λ t more. text_wrapper_is t c.object_of-object.result c.builtin-prototype.result id c.in_ok-object.field-0 c.in_ok-name.name c.length_value-length.result c.object_of-object.ensures c.builtin-prototype.ensures.number c.in_ok-object.ensures (c.in_ok-name.ensures.text t more)
    (c.length_value-length.ensures t ∙ ap (λ (u : Units). whole (length u)) (sym (c.units_of.ensures.text t more))))))
    c.create.ensures.makes

pub returns-clause-later : goal.returns-clause-later
returns-clause-later g c = on_ok_weaker c.create.result (later_twice g.S.WorldStore.meaning c.args.config.now c.known_name.new.config c.create.new.config c.in_ok-name.ensures.later) c.create.ensures.later

pub create-requires-clause-near : goal.create-requires-clause-near
create-requires-clause-near g c =
    let mid = c.known_name.new.config in
    near_holding mid.apart.items c.object_of-object.result class.Text (Some c.builtin-prototype.result) c.object_of-object.ensures c.builtin-prototype.ensures.found.1 (values.Text c.args.id) c.in_ok-object.field-0 tt
    (subst (Holds (λ (e : Name × Value). NearValue mid.apart.items e.1)) (sym c.in_ok-object.ensures) (number_near mid.apart.items mid.heap.texts c.length_value-length.result _ (c.length_value-length.ensures mid.heap.texts), tt))

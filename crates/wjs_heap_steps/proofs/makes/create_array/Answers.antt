use Rattle.wjs_by_content.specs.Names.{length_name}
use Rattle.wjs_by_content.specs.Tables.{name_in}
use Rattle.wjs_meaning.specs.NewObjects.{array_object}
use Rattle.wjs_heap_steps.proofs.Composing.{if_ok}
use Rattle.wjs_heap_steps.proofs.Making.{array_is, made_after}
use Rattle.std.proofs.Common.{Some}
use Rattle.wjs_arena.specs.declared.class.Class.TheVariants as class
use Rattle.wjs_heap_steps.proofs.Making.{near_flagged}
use Rattle.std.proofs.lemmas.Result.{on_ok_weaker}
use Rattle.wjs_heap_steps.proofs.Later.{later_twice}
use Rattle.wjs_heap_steps.proofs.makes.create_array.Goals as goal

pub returns-clause-does : goal.returns-clause-does
returns-clause-does g c =
    if_ok _ _ c.create.result
    (λ o k. made_after g.S.WorldStore.meaning (λ t. length_name) (λ t. name_in t c.in_ok-name.name) (λ t. array_object) o c.args.config.now c.known_name.new.config c.create.new.config c.in_ok-name.ensures.does c.in_ok-name.ensures.later
    (k (λ t. array_object) (λ t more. array_is t c.object_of-object.result c.builtin-prototype.result c.in_ok-object.field-0 c.in_ok-name.name c.object_of-object.ensures c.builtin-prototype.ensures.number c.in_ok-object.ensures (c.in_ok-name.ensures.text t more))))
    c.create.ensures.makes

pub create-requires-clause-near : goal.create-requires-clause-near
create-requires-clause-near g c = near_flagged c.known_name.new.config.apart.items c.object_of-object.result class.Array (Some c.builtin-prototype.result) c.object_of-object.ensures c.builtin-prototype.ensures.found.1 c.in_ok-object.field-0

pub returns-clause-later : goal.returns-clause-later
returns-clause-later g c = on_ok_weaker c.create.result (later_twice g.S.WorldStore.meaning c.args.config.now c.known_name.new.config c.create.new.config c.in_ok-name.ensures.later) c.create.ensures.later

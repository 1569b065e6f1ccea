use Rattle.std.proofs.Common.{Some}
use Rattle.wjs_arena.specs.declared.class.Class.TheVariants as class
use Rattle.wjs_by_content.specs.Names.{constructor_name}
use Rattle.wjs_by_content.specs.Tables.{name_in}
use Rattle.wjs_meaning.specs.Functions.{prototype_object}
use Rattle.wjs_heap_steps.proofs.Composing.{if_ok}
use Rattle.wjs_heap_steps.proofs.Making.{made_after, near_flagged}
use Rattle.wjs_calls.proofs.FunctionObjects.{prototype_is}
use Rattle.wjs_calls.proofs.Rows.{any_later}
use Rattle.wjs_calls.proofs.makes.create_prototype.Goals as goal

pub returns-clause-does : goal.returns-clause-does
returns-clause-does g c =
    if_ok _ _ c.create.result
    (λ o k. made_after g.S.WorldStore.meaning (λ t. constructor_name) (λ t. name_in t c.in_ok-name.name) (λ t. prototype_object) o c.args.config.now c.known_name.new.config c.create.new.config c.in_ok-name.ensures.does c.in_ok-name.ensures.later
    (k (λ t. prototype_object) (λ t more. prototype_is t c.object_of-object.result c.builtin-prototype.result c.in_ok-flags.flags c.in_ok-name.name c.object_of-object.ensures c.builtin-prototype.ensures.number c.in_ok-flags.ensures (c.in_ok-name.ensures.text t more))))
    c.create.ensures.makes

pub returns-clause-later : goal.returns-clause-later
returns-clause-later g c = any_later g.S.WorldStore.meaning c.args.config.now c.known_name.new.config c.create.new.config c.create.result c.in_ok-name.ensures.later c.create.ensures.later

pub create-requires-clause-near : goal.create-requires-clause-near
create-requires-clause-near g c = near_flagged c.known_name.new.config.apart.items c.object_of-object.result class.Plain (Some c.builtin-prototype.result) c.object_of-object.ensures c.builtin-prototype.ensures.found.1 c.in_ok-flags.flags

use Rattle.std.proofs.Common.{Some}
use Rattle.wjs_arena.specs.declared.class.Class.TheVariants as class
use Rattle.wjs_base.specs.Text.{Table}
use Rattle.wjs_by_content.specs.Tables.{value_in}
use Rattle.std.specs.Prelude.{map}
use Rattle.wjs_heap.specs.Means.{nothing}
use Rattle.wjs_meaning.specs.Functions.{arguments_object}
use Rattle.wjs_base.proofs.TextLaws.{Grows-trans}
use Rattle.wjs_heap_steps.proofs.Later.{later_twice}
use Rattle.wjs_heap_steps.proofs.Making.{made_after, near_flagged}
use Rattle.wjs_variables.proofs.Filling.{arguments_is, arguments_named}
use Rattle.wjs_variables.proofs.arguments.create_arguments.Goals as goal

pub create-requires-clause-named : goal.create-requires-clause-named
create-requires-clause-named g c =
    let mid = c.arguments_names.new.config in
    arguments_named mid.heap.texts mid.heap.arena c.object_of-object.result c.builtin-prototype.result c.in_ok-flags.flags c.in_ok-names.names.0 c.in_ok-names.names.1 _ c.object_of-object.ensures c.in_ok-flags.ensures.is c.in_ok-flags.ensures.small c.in_ok-names.ensures.callee c.in_ok-names.ensures.length

pub returns-clause-does : goal.returns-clause-does
returns-clause-does g c =
    let said = λ (t : Table). arguments_object (map (value_in t) c.args.values.now) in
    made_after g.S.WorldStore.meaning (λ t. nothing) (λ t. nothing) said c.in_ok-id.id c.args.config.now c.arguments_names.new.config c.create.new.config c.in_ok-names.ensures.does c.in_ok-names.ensures.later
    (c.in_ok-id.ensures.makes said (λ t more. arguments_is t c.object_of-object.result c.builtin-prototype.result c.in_ok-flags.flags c.in_ok-names.names.0 c.in_ok-names.names.1 c.args.values.now c.object_of-object.ensures c.builtin-prototype.ensures.number c.in_ok-flags.ensures.is (c.in_ok-names.ensures.callee_text t more) (c.in_ok-names.ensures.length_text t more)))

pub returns-clause-later : goal.returns-clause-later
returns-clause-later g c = later_twice g.S.WorldStore.meaning c.args.config.now c.arguments_names.new.config c.create.new.config c.in_ok-names.ensures.later c.in_ok-id.ensures.later

pub returns-clause-callee : goal.returns-clause-callee
returns-clause-callee g c = c.in_ok-id.ensures.later.names c.in_ok-names.names.0 c.in_ok-names.ensures.callee

pub returns-clause-length : goal.returns-clause-length
returns-clause-length g c = c.in_ok-id.ensures.later.names c.in_ok-names.names.1 c.in_ok-names.ensures.length

pub returns-clause-callee_text : goal.returns-clause-callee_text
returns-clause-callee_text g c = λ t more. c.in_ok-names.ensures.callee_text t (Grows-trans c.arguments_names.new.config.heap.texts c.create.new.config.heap.texts t c.in_ok-id.ensures.later.texts more)

pub returns-clause-length_text : goal.returns-clause-length_text
returns-clause-length_text g c = λ t more. c.in_ok-names.ensures.length_text t (Grows-trans c.arguments_names.new.config.heap.texts c.create.new.config.heap.texts t c.in_ok-id.ensures.later.texts more)

pub create-requires-clause-near : goal.create-requires-clause-near
create-requires-clause-near g c = near_flagged c.arguments_names.new.config.apart.items c.object_of-object.result class.Arguments (Some c.builtin-prototype.result) c.object_of-object.ensures c.builtin-prototype.ensures.found.1 c.in_ok-flags.flags

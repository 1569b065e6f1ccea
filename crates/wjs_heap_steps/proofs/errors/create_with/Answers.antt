use Rattle.std.proofs.Common.{◌∷◌}
use Rattle.std.proofs.lemmas.Result.{on_ok_weaker}
use Rattle.wjs_base.proofs.TextLaws.{Grows-trans}
use Rattle.wjs_by_content.specs.Names.{message_name}
use Rattle.wjs_by_content.specs.Tables.{value_in, under_in}
use Rattle.wjs_by_content.specs.Values.{String}
use Rattle.wjs_meaning.specs.Errors.{error_of, fixed_name}
use Rattle.wjs_heap_steps.proofs.Composing.{if_ok}
use Rattle.wjs_heap_steps.proofs.Later.{later_twice}
use Rattle.wjs_heap_steps.proofs.Making.{fault_is, made_after}
use Rattle.std.proofs.Common.{Some}
use Rattle.wjs_arena.specs.declared.class.Class.TheVariants as class
use Rattle.wjs_heap_steps.proofs.Having.{fixed_here, fixed_near}
use Rattle.wjs_heap_steps.proofs.Making.{fixed_named, near_fixed}
use Rattle.wjs_heap_steps.proofs.errors.create_with.Goals as goal
use Rattle.std.proofs.Common.{◌∙◌}

pub returns-clause-does : goal.returns-clause-does
returns-clause-does g c =
    let old = c.args.config.now in
    let mid = c.fixed_of_fault.new.config in
    let fixed = c.in_ok-fixed in
    if_ok _ _ c.create.result
    (λ o k name e. made_after g.S.WorldStore.meaning (λ t. (message_name, String c.args.message.now) ∷ fixed_name c.args.trouble) (λ t. under_in t (value_in t) fixed.fixed) (λ t. error_of c.args.trouble (name t)) o old mid c.create.new.config fixed.ensures.does fixed.ensures.later
    (k (λ t. error_of c.args.trouble (name t)) (λ t more. fault_is t c.object_of-object.result c.builtin-prototype.result fixed.fixed c.args.trouble (name t) c.args.message.now c.object_of-object.ensures (c.builtin-prototype.ensures.number ∙ c.prototype_of.ensures) (fixed.ensures.is t more)
    (e t (Grows-trans old.heap.texts mid.heap.texts t fixed.ensures.later.texts more)))))
    c.create.ensures.makes

pub returns-clause-later : goal.returns-clause-later
returns-clause-later g c = on_ok_weaker c.create.result (later_twice g.S.WorldStore.meaning c.args.config.now c.fixed_of_fault.new.config c.create.new.config c.in_ok-fixed.ensures.later) c.create.ensures.later

pub create-requires-clause-near : goal.create-requires-clause-near
create-requires-clause-near g c =
    let mid = c.fixed_of_fault.new.config in
    near_fixed mid.apart.items c.object_of-object.result class.Fault (Some c.builtin-prototype.result) c.object_of-object.ensures c.builtin-prototype.ensures.found.1 c.in_ok-fixed.fixed (fixed_near mid c.in_ok-fixed.fixed c.in_ok-fixed.ensures.found)

pub create-requires-clause-named : goal.create-requires-clause-named
create-requires-clause-named g c =
    let mid = c.fixed_of_fault.new.config in
    fixed_named mid.heap.texts mid.heap.arena c.object_of-object.result class.Fault (Some c.builtin-prototype.result) c.object_of-object.ensures c.in_ok-fixed.fixed (fixed_here mid c.in_ok-fixed.fixed c.in_ok-fixed.ensures.found)

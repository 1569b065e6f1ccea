use Rattle.std.proofs.Common.{Some, None, refl}
use Rattle.wjs_by_content.specs.Tables.{name_in, value_in}
use Rattle.wjs_by_content.specs.Objects.{fixed}
use Rattle.wjs_by_content.specs.Names.{slot}
use Rattle.wjs_heap.specs.Means.{nothing}
use Rattle.wjs_meaning.specs.Deeds.{Do, Look, Write}
use Rattle.wjs_heap_steps.proofs.Composing.{does_first, first_at_once, first_by, if_ok}
use Rattle.wjs_heap_steps.proofs.references.store_local.Goals as goal

pub returns-in-Some-clause-does : goal.returns-in-Some-clause-does
returns-in-Some-clause-does g c =
    let m = g.S.WorldStore.meaning in
    let old = c.args.config.now in
    does_first m (λ t go. Do Look (λ arena. go (fixed arena c.args.scope (name_in t c.args.name)))) (λ t. Some (value_in t c.in-Some.field-0))
    (λ t x act. elim x [ Some v ↦ act | None ↦ Do (Write c.args.frame.now.world (slot c.args.scope (name_in t c.args.name)) (Some (value_in t c.args.value))) (λ done. act) ])
    old old old c.in-Some.ensures.does (first_at_once m (λ t act. act) old (λ t act. refl))

pub returns-in-None-clause-does : goal.returns-in-None-clause-does
returns-in-None-clause-does g c =
    let m = g.S.WorldStore.meaning in
    let old = c.args.config.now in
    if_ok _ _ c.write.result (λ done d. does_first m (λ t go. Do Look (λ arena. go (fixed arena c.args.scope (name_in t c.args.name)))) (λ t. None)
    (λ t x act. elim x [ Some v ↦ act | None ↦ Do (Write c.args.frame.now.world (slot c.args.scope (name_in t c.args.name)) (Some (value_in t c.args.value))) (λ done. act) ])
    old old c.write.new.config c.in-None.ensures.does
    (first_by m (λ t go. Do (Write c.args.frame.now.world (slot c.args.scope (name_in t c.args.name)) (Some (value_in t c.args.value))) go) (λ t. nothing) old c.write.new.config d)) c.write.ensures.does

use Rattle.std.proofs.Common.{Option, Some, None}
use Rattle.wjs_base.specs.Text.{Table}
use Rattle.wjs_by_content.specs.Tables.{name_in, value_in}
use Rattle.wjs_by_content.specs.Objects.{fixed}
use Rattle.wjs_by_content.specs.Names.{slot}
use Rattle.wjs_by_content.specs.Values.{Value, value_or_undefined}
use Rattle.wjs_meaning.specs.Deeds.{Do, Look, Read, Completion, Gives}
use Rattle.wjs_heap_steps.proofs.Peeking.{if_some, peeks_then, peeks_look, peeks_map, peeks_at_once}
use Rattle.wjs_heap_steps.proofs.peeks.peek_local.Goals as goal

pub returns-in-Some-clause-peeks : goal.returns-in-Some-clause-peeks
returns-in-Some-clause-peeks g c =
    let m = g.S.WorldStore.meaning in
    let now = c.args.config.now in
    let there : Table → Option Value = λ t. Some (value_in t c.in-Some.value) in
    let given : Table → Completion = λ t. Gives (value_in t c.in-Some.value) in
    peeks_then m (λ t go. Do Look (λ arena. go (fixed arena c.args.scope (name_in t c.args.name)))) there
    (λ t x go. elim x [ Some v ↦ go (Gives v) | None ↦ Do (Read c.args.frame.now.world (slot c.args.scope (name_in t c.args.name))) (λ found. go (Gives (value_or_undefined found))) ]) given now
    (peeks_look m (λ t arena. fixed arena c.args.scope (name_in t c.args.name)) there now c.in-Some.ensures.is)
    (peeks_at_once m given now)

pub returns-in-None-clause-peeks : goal.returns-in-None-clause-peeks
returns-in-None-clause-peeks g c =
    let m = g.S.WorldStore.meaning in
    let now = c.args.config.now in
    let none : Table → Option Value = λ t. None in
    let gives : Table → Value → Completion = λ t v. Gives v in
    if_some _ _ c.peek_slot.result (λ value p.
    let given : Table → Completion = λ t. Gives (value_in t value) in
    peeks_then m (λ t go. Do Look (λ arena. go (fixed arena c.args.scope (name_in t c.args.name)))) none
    (λ t x go. elim x [ Some v ↦ go (Gives v) | None ↦ Do (Read c.args.frame.now.world (slot c.args.scope (name_in t c.args.name))) (λ found. go (Gives (value_or_undefined found))) ]) given now
    (peeks_look m (λ t arena. fixed arena c.args.scope (name_in t c.args.name)) none now c.in-None.ensures.is)
    (peeks_map m (λ t go. Do (Read c.args.frame.now.world (slot c.args.scope (name_in t c.args.name))) (λ found. go (value_or_undefined found))) (λ t. value_in t value) gives now p)) c.peek_slot.ensures.peeks

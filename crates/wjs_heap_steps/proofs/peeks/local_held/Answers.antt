use Rattle.std.proofs.Common.{Option, Some, None}
use Rattle.wjs_base.specs.Text.{Table}
use Rattle.wjs_by_content.specs.Tables.{text_in, value_in}
use Rattle.wjs_by_content.specs.Objects.{fixed}
use Rattle.wjs_by_content.specs.Names.{slot}
use Rattle.wjs_by_content.specs.Values.{Value, value_or_undefined}
use Rattle.wjs_meaning.specs.Deeds.{Do, Look, Read, Completion, Gives}
use Rattle.wjs_heap_steps.proofs.Peeking.{peeks_then, peeks_look, peeks_map}
use Rattle.wjs_heap_steps.proofs.peeks.local_held.Goals as goal

pub returns-in-None-clause-peeks : goal.returns-in-None-clause-peeks
returns-in-None-clause-peeks g c =
    let m = g.S.WorldStore.meaning in
    let now = c.args.config.now in
    let none : Table → Option Value = λ t. None in
    let held : Table → Option Value = λ t. Some (value_in t c.in_ok-value.value) in
    let gives : Table → Option Value → Completion = λ t x. Gives (value_or_undefined x) in
    let given : Table → Completion = λ t. Gives (value_in t c.in_ok-value.value) in
    peeks_then m (λ t go. Do Look (λ arena. go (fixed arena c.args.scope (text_in t c.args.id)))) none
    (λ t x go. elim x [ Some v ↦ go (Gives v) | None ↦ Do (Read c.args.frame.now.world (slot c.args.scope (text_in t c.args.id))) (λ found. go (Gives (value_or_undefined found))) ]) given now
    (peeks_look m (λ t arena. fixed arena c.args.scope (text_in t c.args.id)) none now c.in-None.ensures.is)
    (peeks_map m (λ t go. Do (Read c.args.frame.now.world (slot c.args.scope (text_in t c.args.id))) go) held gives now c.in_ok-value.ensures.peeks)

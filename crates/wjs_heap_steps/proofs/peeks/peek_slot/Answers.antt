use Rattle.std.proofs.Common.{subst}
use Rattle.wjs_base.specs.declared.values.Content.{Content}
use Rattle.wjs_by_content.specs.Names.{slot}
use Rattle.wjs_by_content.specs.Values.{value_or_undefined}
use Rattle.wjs_by_content.specs.Tables.{name_in, content_in}
use Rattle.wjs_meaning.specs.Deeds.{Do, Read}
use Rattle.wjs_heap_steps.specs.Peeking.{Peeks}
use Rattle.wjs_heap_steps.proofs.Peeking.{peeks_map}
use Rattle.wjs_heap_steps.proofs.peeks.peek_slot.Goals as goal

pub returns-in-Present-clause-peeks : goal.returns-in-Present-clause-peeks
returns-in-Present-clause-peeks g c =
    let m = g.S.WorldStore.meaning in
    let now = c.args.config.now in
    subst (λ (x : Content). Peeks m (λ t go. Do (Read c.args.frame.now.world (slot c.args.object (name_in t c.args.name))) (λ found. go (value_or_undefined found))) (λ t. value_or_undefined (content_in t x)) now) c.in-Present.is (peeks_map m _ _ (λ t. value_or_undefined) now c.in_ok-found.ensures.peeks)

pub returns-in-Absent-clause-peeks : goal.returns-in-Absent-clause-peeks
returns-in-Absent-clause-peeks g c =
    let m = g.S.WorldStore.meaning in
    let now = c.args.config.now in
    subst (λ (x : Content). Peeks m (λ t go. Do (Read c.args.frame.now.world (slot c.args.object (name_in t c.args.name))) (λ found. go (value_or_undefined found))) (λ t. value_or_undefined (content_in t x)) now) c.in-Absent.is (peeks_map m _ _ (λ t. value_or_undefined) now c.in_ok-found.ensures.peeks)

use Rattle.std.proofs.Common.{Some, subst}
use Rattle.wjs_base.specs.declared.ids.WorldId.{WorldId}
use Rattle.wjs_base.specs.declared.values.Name.TheVariants as names
use Rattle.wjs_by_content.specs.Properties as plan
use Rattle.wjs_by_content.specs.Tables.{text_in, value_in}
use Rattle.wjs_meaning.specs.Deeds.{Do, Look, carry_out}
use Rattle.wjs_heap_steps.specs.Peeking.{Peeks}
use Rattle.wjs_heap_steps.proofs.Peeking.{peeks_plan}
use Rattle.wjs_heap_steps.proofs.Seeing.{get_found}
use Rattle.wjs_heap_steps.proofs.NearDeeds.{get_left}
use Rattle.wjs_heap_steps.proofs.NearWorlds.{near_value}
use Rattle.wjs_heap_steps.proofs.Having.{value_both}
use Rattle.wjs_heap_steps.proofs.peeks.peek_held.Goals as goal

pub returns-clause-peeks : goal.returns-clause-peeks
returns-clause-peeks g c =
    let m = g.S.WorldStore.meaning in
    let now = c.args.config.now in
    subst (λ (w : WorldId). Peeks m (λ t go. Do Look (λ arena. carry_out (plan.get arena c.args.object (text_in t c.args.id)) w go)) (λ t. Some (value_in t c.in_ok-value.value)) now) c.world.ensures
    (peeks_plan m c.world.result (λ t arena. plan.get arena c.args.object (text_in t c.args.id)) (λ t. Some (value_in t c.in_ok-value.value)) now (λ t arena s. get_found _ t arena s c.requires.base.heap.arena c.args.object (text_in t c.args.id) c.requires.object.0) c.in_ok-value.ensures.gets)

pub returns-clause-found : goal.returns-clause-found
returns-clause-found g c =
    let m = g.S.WorldStore.meaning in
    let now = c.args.config.now in
    let left = get_left m now now.heap (g.met.S.WorldStore.sound now.heap.store) c.requires.base c.world.result c.args.object c.requires.object.1 (names.Text c.args.id) _ c.in_ok-value.ensures.gets in
    value_both now c.in_ok-value.value c.in_ok-value.ensures.found (near_value now.apart.items now.heap.texts c.in_ok-value.value left.0)

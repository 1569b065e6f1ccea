use Rattle.std.proofs.Common.{Some, subst}
use Rattle.wjs_base.specs.declared.ids.WorldId.{WorldId}
use Rattle.wjs_by_content.specs.Names.{slot}
use Rattle.wjs_by_content.specs.Plans.{Gives, Reads}
use Rattle.wjs_by_content.specs.Tables.{name_in, slot_in, value_in}
use Rattle.wjs_meaning.specs.Deeds.{Do, Read}
use Rattle.wjs_heap_steps.specs.Peeking.{Peeks}
use Rattle.wjs_heap_steps.proofs.Peeking.{peeks_actions}
use Rattle.wjs_heap_steps.proofs.NearDeeds.{read_left}
use Rattle.wjs_heap_steps.proofs.NearWorlds.{near_value}
use Rattle.wjs_heap_steps.proofs.Having.{value_both}
use Rattle.wjs_heap_steps.proofs.peeks.slot_held.Goals as goal

pub returns-clause-name : goal.returns-clause-name
returns-clause-name g c = c.in_ok-value.ensures.slot.name

pub returns-clause-peeks : goal.returns-clause-peeks
returns-clause-peeks g c =
    let m = g.S.WorldStore.meaning in
    let now = c.args.config.now in
    subst (λ (w : WorldId). Peeks m (λ t go. Do (Read w (slot c.args.object (name_in t c.args.name))) go) (λ t. Some (value_in t c.in_ok-value.value)) now) c.world.ensures
    (peeks_actions m c.world.result (λ t. Reads (slot_in t (record { object = c.args.object; name = c.args.name })) Gives) (λ t. Some (value_in t c.in_ok-value.value)) now c.in_ok-value.ensures.reads)

pub returns-clause-found : goal.returns-clause-found
returns-clause-found g c =
    let m = g.S.WorldStore.meaning in
    let now = c.args.config.now in
    let left = read_left m now now.heap (g.met.S.WorldStore.sound now.heap.store) c.requires.base c.world.result c.args.object c.requires.object.1 c.args.name _ c.in_ok-value.ensures.reads in
    value_both now c.in_ok-value.value c.in_ok-value.ensures.found (near_value now.apart.items now.heap.texts c.in_ok-value.value left.0)

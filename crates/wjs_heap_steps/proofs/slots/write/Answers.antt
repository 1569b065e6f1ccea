use Rattle.std.proofs.Common.{sym, Some}
use Rattle.wjs_by_content.specs.Plans.{Gives, Writes}
use Rattle.wjs_by_content.specs.Tables.{slot_in, value_in}
use Rattle.wjs_heap.specs.Means.{nothing}
use Rattle.wjs_heap_steps.proofs.Running.{does_ran}
use Rattle.wjs_heap_steps.proofs.Steps.{ran_actions}
use Rattle.wjs_heap_steps.proofs.Later.{later_plan}
use Rattle.wjs_heap_steps.proofs.NearDeeds.{write_left}
use Rattle.wjs_heap_steps.proofs.Having.{value_near}
use Rattle.wjs_heap_steps.proofs.Having.{value_here}
use Rattle.wjs_heap_steps.proofs.slots.write.Goals as goal

pub returns-clause-does : goal.returns-clause-does
returns-clause-does g c =
    let m = g.S.WorldStore.meaning in
    rw (sym c.world.ensures) (does_ran m _ _ c.args.config.now _ (ran_actions m c.world.result (λ t. Writes (slot_in t (record { object = c.args.object; name = c.args.name })) (Some (value_in t c.args.value)) (Gives nothing)) (λ t. nothing) c.args.config.now c.write.new.heap c.in_ok-write.ensures))

pub returns-clause-later : goal.returns-clause-later
returns-clause-later g c =
    let m = g.S.WorldStore.meaning in
    let old = c.args.config.now in
    let heap = c.write.new.heap in
    let left = write_left m old heap (g.met.S.WorldStore.sound heap.store) c.requires.base c.world.result c.args.object c.requires.object.1 c.args.name c.args.value _ (value_near old c.args.value c.requires.value) c.in_ok-write.ensures in
    later_plan m _ _ _ old heap c.requires.base c.in_ok-write.ensures left

pub write-requires-clause-content : goal.write-requires-clause-content
write-requires-clause-content g c = value_here c.args.config.now c.args.value c.requires.value

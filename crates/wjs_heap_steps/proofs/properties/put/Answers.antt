use Rattle.std.proofs.Common.{sym}
use Rattle.wjs_by_content.specs.Properties as plan
use Rattle.wjs_by_content.specs.Tables.{name_in, value_in}
use Rattle.wjs_heap_steps.proofs.Running.{does_ran}
use Rattle.wjs_heap_steps.proofs.Seeing.{put_found}
use Rattle.wjs_heap_steps.proofs.Steps.{ran_plan}
use Rattle.wjs_heap_steps.proofs.Later.{later_plan}
use Rattle.wjs_heap_steps.proofs.NearDeeds.{put_left}
use Rattle.wjs_heap_steps.proofs.Having.{value_near}
use Rattle.wjs_heap_steps.proofs.Having.{value_here}
use Rattle.wjs_heap_steps.proofs.properties.put.Goals as goal

pub returns-clause-does : goal.returns-clause-does
returns-clause-does g c =
    let m = g.S.WorldStore.meaning in
    rw (sym c.world.ensures) (does_ran m _ _ c.args.config.now _ (ran_plan m c.world.result (λ t arena. plan.put arena c.args.object (name_in t c.args.name) (value_in t c.args.value)) (λ t. c.in_ok-answer.answer) c.args.config.now c.put.new.heap (λ t arena s. put_found _ t arena s c.requires.base.heap.arena c.args.object (name_in t c.args.name) (value_in t c.args.value) c.requires.object.0) c.in_ok-answer.ensures))

pub returns-clause-later : goal.returns-clause-later
returns-clause-later g c =
    let m = g.S.WorldStore.meaning in
    let old = c.args.config.now in
    let heap = c.put.new.heap in
    let left = put_left m old heap (g.met.S.WorldStore.sound heap.store) c.requires.base c.world.result c.args.object c.requires.object.1 c.args.name c.args.value _ (value_near old c.args.value c.requires.value) c.in_ok-answer.ensures in
    later_plan m _ _ _ old heap c.requires.base c.in_ok-answer.ensures left

pub put-requires-clause-value : goal.put-requires-clause-value
put-requires-clause-value g c = value_here c.args.config.now c.args.value c.requires.value

use Rattle.std.proofs.Common.{sym}
use Rattle.wjs_by_content.specs.Properties as plan
use Rattle.wjs_by_content.specs.Tables.{name_in, content_in}
use Rattle.wjs_heap_steps.proofs.Running.{does_ran}
use Rattle.wjs_heap_steps.proofs.Seeing.{get_found}
use Rattle.wjs_heap_steps.proofs.Steps.{ran_plan}
use Rattle.wjs_heap_steps.proofs.Later.{later_plan}
use Rattle.wjs_heap_steps.proofs.NearDeeds.{get_left}
use Rattle.wjs_heap_steps.proofs.Having.{content_both}
use Rattle.wjs_heap_steps.proofs.properties.get.Goals as goal

pub returns-clause-does : goal.returns-clause-does
returns-clause-does g c =
    let m = g.S.WorldStore.meaning in
    rw (sym c.world.ensures) (does_ran m _ _ c.args.config.now _ (ran_plan m c.world.result (λ t arena. plan.get arena c.args.object (name_in t c.args.name)) (λ t. content_in t c.in_ok-found.found) c.args.config.now c.get.new.heap (λ t arena s. get_found _ t arena s c.requires.base.heap.arena c.args.object (name_in t c.args.name) c.requires.object.0) c.in_ok-found.ensures.gets))

pub returns-clause-later : goal.returns-clause-later
returns-clause-later g c =
    let m = g.S.WorldStore.meaning in
    let old = c.args.config.now in
    let heap = c.get.new.heap in
    let left = get_left m old heap (g.met.S.WorldStore.sound heap.store) c.requires.base c.world.result c.args.object c.requires.object.1 c.args.name _ c.in_ok-found.ensures.gets in
    later_plan m _ _ _ old heap c.requires.base c.in_ok-found.ensures.gets left.1

pub returns-clause-found : goal.returns-clause-found
returns-clause-found g c =
    let m = g.S.WorldStore.meaning in
    let old = c.args.config.now in
    let heap = c.get.new.heap in
    let left = get_left m old heap (g.met.S.WorldStore.sound heap.store) c.requires.base c.world.result c.args.object c.requires.object.1 c.args.name _ c.in_ok-found.ensures.gets in
    content_both (record old { heap = heap }) heap.texts c.in_ok-found.found c.in_ok-found.ensures.found left.0

use Rattle.std.proofs.Common.{sym}
use Rattle.wjs_by_content.specs.Properties as plan
use Rattle.wjs_props.specs.Visits.{visits_in}
use Rattle.wjs_heap_steps.proofs.Running.{does_ran}
use Rattle.wjs_heap_steps.proofs.Seeing.{visits_found}
use Rattle.wjs_heap_steps.proofs.Steps.{ran_plan}
use Rattle.wjs_heap_steps.proofs.Later.{later_plan}
use Rattle.wjs_heap_steps.proofs.NearDeeds.{visits_left}
use Rattle.wjs_heap_steps.proofs.Having.{visits_both}
use Rattle.wjs_heap_steps.proofs.properties.visits.Goals as goal

pub returns-clause-does : goal.returns-clause-does
returns-clause-does g c =
    let m = g.S.WorldStore.meaning in
    rw (sym c.world.ensures) (does_ran m _ _ c.args.config.now _ (ran_plan m c.world.result (λ t arena. plan.visits arena c.args.object) (λ t. visits_in t c.in_ok-visits.visits) c.args.config.now c.list_names.new.heap (λ t arena s. visits_found _ t arena s c.requires.base.heap.arena c.args.object c.requires.object.0) c.in_ok-visits.ensures.lists))

pub returns-clause-later : goal.returns-clause-later
returns-clause-later g c =
    let m = g.S.WorldStore.meaning in
    let old = c.args.config.now in
    let heap = c.list_names.new.heap in
    let left = visits_left m old heap (g.met.S.WorldStore.sound heap.store) c.requires.base c.world.result c.args.object c.requires.object.1 _ c.in_ok-visits.ensures.lists in
    later_plan m _ _ _ old heap c.requires.base c.in_ok-visits.ensures.lists left.1

pub returns-clause-found : goal.returns-clause-found
returns-clause-found g c =
    let m = g.S.WorldStore.meaning in
    let old = c.args.config.now in
    let heap = c.list_names.new.heap in
    let left = visits_left m old heap (g.met.S.WorldStore.sound heap.store) c.requires.base c.world.result c.args.object c.requires.object.1 _ c.in_ok-visits.ensures.lists in
    visits_both (record old { heap = heap }) heap.texts c.in_ok-visits.visits c.in_ok-visits.ensures.there left.0

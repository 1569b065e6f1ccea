use Rattle.std.proofs.Common.{sym}
use Rattle.wjs_by_content.specs.Plans.{Gives, Reads}
use Rattle.wjs_by_content.specs.Tables.{slot_in, content_in}
use Rattle.wjs_heap_steps.proofs.Running.{does_ran}
use Rattle.wjs_heap_steps.proofs.Steps.{ran_actions}
use Rattle.wjs_heap_steps.proofs.Later.{later_plan}
use Rattle.wjs_heap_steps.proofs.NearDeeds.{read_left}
use Rattle.wjs_heap_steps.proofs.Having.{content_both}
use Rattle.wjs_heap_steps.proofs.slots.read_content.Goals as goal

pub returns-clause-does : goal.returns-clause-does
returns-clause-does g c =
    let m = g.S.WorldStore.meaning in
    rw (sym c.world.ensures) (does_ran m _ _ c.args.config.now _ (ran_actions m c.world.result (λ t. Reads (slot_in t (record { object = c.args.object; name = c.args.name })) Gives) (λ t. content_in t c.in_ok-found.found) c.args.config.now c.read.new.heap c.in_ok-found.ensures.reads))

pub returns-clause-later : goal.returns-clause-later
returns-clause-later g c =
    let m = g.S.WorldStore.meaning in
    let old = c.args.config.now in
    let heap = c.read.new.heap in
    let left = read_left m old heap (g.met.S.WorldStore.sound heap.store) c.requires.base c.world.result c.args.object c.requires.object.1 c.args.name _ c.in_ok-found.ensures.reads in
    later_plan m _ _ _ old heap c.requires.base c.in_ok-found.ensures.reads left.1

pub returns-clause-found : goal.returns-clause-found
returns-clause-found g c =
    let m = g.S.WorldStore.meaning in
    let old = c.args.config.now in
    let heap = c.read.new.heap in
    let left = read_left m old heap (g.met.S.WorldStore.sound heap.store) c.requires.base c.world.result c.args.object c.requires.object.1 c.args.name _ c.in_ok-found.ensures.reads in
    content_both (record old { heap = heap }) heap.texts c.in_ok-found.found c.in_ok-found.ensures.found left.0

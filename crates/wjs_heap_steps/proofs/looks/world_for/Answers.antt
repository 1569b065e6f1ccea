use Rattle.std.proofs.Common.{ap}
use Rattle.wjs_by_content.specs.Objects.{Internals, object_at}
use Rattle.wjs_heap_steps.proofs.Entries.{shown_by}
use Rattle.wjs_heap_steps.proofs.Running.{does_ran}
use Rattle.wjs_heap_steps.proofs.Steps.{ran_look}
use Rattle.wjs_heap_steps.proofs.Looking.{seen_is}
use Rattle.std.specs.FinMap as map
use Rattle.wjs_arena.proofs.Fields.{standing, standing_is}
use Rattle.wjs_heap_steps.proofs.looks.world_for.Goals as goal

pub returns-clause-does : goal.returns-clause-does
returns-clause-does g c =
    let m = g.S.WorldStore.meaning in
    let old = c.args.config.now in
    does_ran m _ _ old old (ran_look m (λ t arena. (object_at arena c.args.object).world) (λ t. c.world.result) old (λ t more arena s. ap (λ (x : Internals). x.world) (seen_is old.heap.arena c.args.object (standing (map.get c.args.config.now.heap.arena c.args.object) c.world.result) c.requires.0 (standing_is (map.get c.args.config.now.heap.arena c.args.object) c.world.result c.world.ensures.world) t arena s)))

pub returns-clause-is : goal.returns-clause-is
returns-clause-is g c = λ t arena s. ap (λ (x : Internals). x.world) (seen_is c.args.config.now.heap.arena c.args.object (standing (map.get c.args.config.now.heap.arena c.args.object) c.world.result) c.requires.0 (standing_is (map.get c.args.config.now.heap.arena c.args.object) c.world.result c.world.ensures.world) t arena s)

pub returns-clause-shown : goal.returns-clause-shown
returns-clause-shown g c = shown_by c.args.config.now.heap.arena c.args.object (standing (map.get c.args.config.now.heap.arena c.args.object) c.world.result) c.requires.0 (standing_is (map.get c.args.config.now.heap.arena c.args.object) c.world.result c.world.ensures.world)

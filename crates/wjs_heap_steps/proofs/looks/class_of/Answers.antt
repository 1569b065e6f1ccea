use Rattle.std.proofs.Common.{ap}
use Rattle.wjs_by_content.specs.Objects.{Internals, object_at}
use Rattle.wjs_heap_steps.proofs.Running.{does_ran}
use Rattle.wjs_heap_steps.proofs.Steps.{ran_look}
use Rattle.wjs_heap_steps.proofs.Looking.{seen_is}
use Rattle.std.specs.FinMap as map
use Rattle.wjs_arena.proofs.Fields.{classed, classed_is}
use Rattle.wjs_heap_steps.proofs.looks.class_of.Goals as goal

pub returns-clause-does : goal.returns-clause-does
returns-clause-does g c =
    let m = g.S.WorldStore.meaning in
    let old = c.args.config.now in
    does_ran m _ _ old old (ran_look m (λ t arena. (object_at arena c.args.object).class) (λ t. c.class.result) old (λ t more arena s. ap (λ (x : Internals). x.class) (seen_is old.heap.arena c.args.object (classed (map.get c.args.config.now.heap.arena c.args.object) c.class.result) c.requires.0 (classed_is (map.get c.args.config.now.heap.arena c.args.object) c.class.result c.class.ensures.class) t arena s)))

pub returns-clause-is : goal.returns-clause-is
returns-clause-is g c = λ t arena s. ap (λ (x : Internals). x.class) (seen_is c.args.config.now.heap.arena c.args.object (classed (map.get c.args.config.now.heap.arena c.args.object) c.class.result) c.requires.0 (classed_is (map.get c.args.config.now.heap.arena c.args.object) c.class.result c.class.ensures.class) t arena s)

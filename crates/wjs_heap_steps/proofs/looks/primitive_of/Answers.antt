use Rattle.std.proofs.Common.{ap}
use Rattle.wjs_by_content.specs.Objects.{Internals, object_at}
use Rattle.wjs_by_content.specs.Tables.{value_in}
use Rattle.wjs_heap.specs.Means.{parts}
use Rattle.wjs_heap_steps.proofs.Having.{value_both}
use Rattle.wjs_heap_steps.proofs.Running.{does_ran}
use Rattle.wjs_heap_steps.proofs.Steps.{ran_look}
use Rattle.wjs_heap_steps.proofs.Looking.{seen_is, named_there, near_there}
use Rattle.std.specs.FinMap as map
use Rattle.wjs_arena.proofs.Fields.{holding, holding_is}
use Rattle.wjs_heap_steps.proofs.looks.primitive_of.Goals as goal

pub returns-clause-does : goal.returns-clause-does
returns-clause-does g c =
    let m = g.S.WorldStore.meaning in
    let old = c.args.config.now in
    does_ran m _ _ old old (ran_look m (λ t arena. (object_at arena c.args.object).primitive) (λ t. value_in t c.primitive.result) old (λ t more arena s. ap (λ (x : Internals). x.primitive) (seen_is old.heap.arena c.args.object (holding (map.get c.args.config.now.heap.arena c.args.object) c.primitive.result) c.requires.object.0 (holding_is (map.get c.args.config.now.heap.arena c.args.object) c.primitive.result c.primitive.ensures.primitive) t arena s)))

pub returns-clause-is : goal.returns-clause-is
returns-clause-is g c = λ t arena s. ap (λ (x : Internals). x.primitive) (seen_is c.args.config.now.heap.arena c.args.object (holding (map.get c.args.config.now.heap.arena c.args.object) c.primitive.result) c.requires.object.0 (holding_is (map.get c.args.config.now.heap.arena c.args.object) c.primitive.result c.primitive.ensures.primitive) t arena s)

pub returns-clause-found : goal.returns-clause-found
returns-clause-found g c =
    let m = g.S.WorldStore.meaning in
    let now = c.args.config.now in
    let x = (holding (map.get c.args.config.now.heap.arena c.args.object) c.primitive.result) in
    value_both now x.primitive (named_there (parts m now.heap) c.args.object x c.requires.base.heap c.requires.object.0 (holding_is (map.get c.args.config.now.heap.arena c.args.object) c.primitive.result c.primitive.ensures.primitive)).primitive (near_there m now c.args.object x c.requires.base c.requires.object (holding_is (map.get c.args.config.now.heap.arena c.args.object) c.primitive.result c.primitive.ensures.primitive)).primitive

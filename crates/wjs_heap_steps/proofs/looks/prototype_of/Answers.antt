use Rattle.std.proofs.Common.{ap}
use Rattle.wjs_by_content.specs.Objects.{Internals, object_at}
use Rattle.wjs_heap_steps.proofs.Having.{object_both}
use Rattle.wjs_heap_steps.proofs.Running.{does_ran}
use Rattle.wjs_heap_steps.proofs.Steps.{ran_look}
use Rattle.wjs_heap_steps.proofs.Looking.{seen_is, prototype_there, near_there}
use Rattle.std.specs.FinMap as map
use Rattle.wjs_arena.proofs.Fields.{prototyped, prototyped_is}
use Rattle.wjs_heap_steps.proofs.looks.prototype_of.Goals as goal

pub returns-clause-does : goal.returns-clause-does
returns-clause-does g c =
    let m = g.S.WorldStore.meaning in
    let old = c.args.config.now in
    does_ran m _ _ old old (ran_look m (λ t arena. (object_at arena c.args.object).prototype) (λ t. c.prototype.result) old (λ t more arena s. ap (λ (x : Internals). x.prototype) (seen_is old.heap.arena c.args.object (prototyped (map.get c.args.config.now.heap.arena c.args.object) c.prototype.result) c.requires.object.0 (prototyped_is (map.get c.args.config.now.heap.arena c.args.object) c.prototype.result c.prototype.ensures.prototype) t arena s)))

pub returns-clause-is : goal.returns-clause-is
returns-clause-is g c = λ t arena s. ap (λ (x : Internals). x.prototype) (seen_is c.args.config.now.heap.arena c.args.object (prototyped (map.get c.args.config.now.heap.arena c.args.object) c.prototype.result) c.requires.object.0 (prototyped_is (map.get c.args.config.now.heap.arena c.args.object) c.prototype.result c.prototype.ensures.prototype) t arena s)

pub returns-clause-found : goal.returns-clause-found
returns-clause-found g c =
    let now = c.args.config.now in
    let x = (prototyped (map.get c.args.config.now.heap.arena c.args.object) c.prototype.result) in
    object_both now x.prototype (prototype_there now.heap.arena c.args.object x c.requires.base.heap.arena c.requires.object.0 (prototyped_is (map.get c.args.config.now.heap.arena c.args.object) c.prototype.result c.prototype.ensures.prototype)) (near_there g.S.WorldStore.meaning now c.args.object x c.requires.base c.requires.object (prototyped_is (map.get c.args.config.now.heap.arena c.args.object) c.prototype.result c.prototype.ensures.prototype)).prototype

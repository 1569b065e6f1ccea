use Rattle.std.proofs.Common.{ap}
use Rattle.wjs_by_content.specs.Objects.{Internals, object_at}
use Rattle.wjs_heap_steps.proofs.Having.{object_both}
use Rattle.wjs_arena.specs.declared.object.Object.{Object}
use Rattle.wjs_heap_steps.proofs.Entries.{entry_is}
use Rattle.wjs_heap_steps.proofs.Running.{does_ran}
use Rattle.wjs_heap_steps.proofs.Steps.{ran_look}
use Rattle.wjs_heap_steps.proofs.Looking.{seen_is, scope_there, near_there}
use Rattle.std.specs.FinMap as map
use Rattle.wjs_arena.proofs.Fields.{scoped, scoped_is}
use Rattle.wjs_heap_steps.proofs.looks.scope_of.Goals as goal

pub returns-clause-does : goal.returns-clause-does
returns-clause-does g c =
    let m = g.S.WorldStore.meaning in
    let old = c.args.config.now in
    does_ran m _ _ old old (ran_look m (λ t arena. (object_at arena c.args.object).scope) (λ t. c.scope.result) old (λ t more arena s. ap (λ (x : Internals). x.scope) (seen_is old.heap.arena c.args.object (scoped (map.get c.args.config.now.heap.arena c.args.object) c.scope.result) c.requires.object.0 (scoped_is (map.get c.args.config.now.heap.arena c.args.object) c.scope.result c.scope.ensures.scope) t arena s)))

pub returns-clause-is : goal.returns-clause-is
returns-clause-is g c = λ t arena s. ap (λ (x : Internals). x.scope) (seen_is c.args.config.now.heap.arena c.args.object (scoped (map.get c.args.config.now.heap.arena c.args.object) c.scope.result) c.requires.object.0 (scoped_is (map.get c.args.config.now.heap.arena c.args.object) c.scope.result c.scope.ensures.scope) t arena s)

pub returns-clause-found : goal.returns-clause-found
returns-clause-found g c =
    let now = c.args.config.now in
    let x = (scoped (map.get c.args.config.now.heap.arena c.args.object) c.scope.result) in
    object_both now x.scope (scope_there now.heap.arena c.args.object x c.requires.base.heap.arena c.requires.object.0 (scoped_is (map.get c.args.config.now.heap.arena c.args.object) c.scope.result c.scope.ensures.scope)) (near_there g.S.WorldStore.meaning now c.args.object x c.requires.base c.requires.object (scoped_is (map.get c.args.config.now.heap.arena c.args.object) c.scope.result c.scope.ensures.scope)).scope

pub returns-clause-entry : goal.returns-clause-entry
returns-clause-entry g c = λ e h. ap (λ (x : Object). x.scope) (entry_is _ (scoped (map.get c.args.config.now.heap.arena c.args.object) c.scope.result) e (scoped_is (map.get c.args.config.now.heap.arena c.args.object) c.scope.result c.scope.ensures.scope) h)

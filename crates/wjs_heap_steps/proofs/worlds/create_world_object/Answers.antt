use Rattle.std.proofs.Common.{◌≡◌, Some, sym, ap, subst}
use Rattle.wjs_base.specs.declared.ids.WorldId.{WorldId}
use Rattle.wjs_arena.specs.declared.class.Class.TheVariants as class
use Rattle.wjs_arena.specs.declared.object.Object.{Object}
use Rattle.wjs_arena.specs.Entries.{IsThere}
use Rattle.wjs_meaning.specs.WorldValues.{world_object_of}
use Rattle.wjs_model.specs.Soundness.{HasWorld}
use Rattle.wjs_heap_steps.proofs.Running.{does_ran}
use Rattle.wjs_heap_steps.proofs.Steps.{ran_create}
use Rattle.wjs_heap_steps.proofs.Later.{later_create, created_there}
use Rattle.wjs_heap_steps.proofs.Making.{world_object_is, world_named, near_world, no_code}
use Rattle.wjs_heap_steps.proofs.worlds.create_world_object.Goals as goal

pub create-requires-clause-named : goal.create-requires-clause-named
create-requires-clause-named g c = let h = c.args.config.now.heap in world_named h.texts h.arena c.object_of-object.result class.World (Some c.builtin-prototype.result) c.object_of-object.ensures (Some c.args.world)

pub returns-clause-does : goal.returns-clause-does
returns-clause-does g c =
    let m = g.S.WorldStore.meaning in
    let old = c.args.config.now in
    let x = record c.object_of-object.result { world = Some c.args.world } in
    does_ran m _ _ old _ (ran_create m (λ t. world_object_of c.args.world) x c.in_ok-o.o old c.create.new.heap c.in_ok-o.ensures.creates
    (subst (λ (y : Object). IsThere old.heap.arena y.prototype) (sym c.object_of-object.ensures) c.builtin-prototype.ensures.found.0) (subst (λ (y : Object). IsThere old.heap.arena y.scope) (sym c.object_of-object.ensures) tt) (λ t more. world_object_is t c.object_of-object.result c.builtin-prototype.result c.args.world c.object_of-object.ensures c.builtin-prototype.ensures.number))

one_world : (a b : WorldId) → Some a ≡ Some b → a ≡ b
one_world a b e = cc

pub returns-clause-later : goal.returns-clause-later
returns-clause-later g c =
    let m = g.S.WorldStore.meaning in
    let old = c.args.config.now in
    let x = record c.object_of-object.result { world = Some c.args.world } in
    later_create m x c.in_ok-o.o old c.create.new.heap c.requires.base c.in_ok-o.ensures.creates
    (near_world old.apart.items c.object_of-object.result class.World (Some c.builtin-prototype.result) c.object_of-object.ensures c.builtin-prototype.ensures.found.1 (Some c.args.world)) (no_code old.units.items old.heap.arena x x.scope (ap (λ (y : Object). y.code) c.object_of-object.ensures)) (λ w h. subst (HasWorld m old) (one_world c.args.world w h) c.requires.world)

pub returns-clause-found : goal.returns-clause-found
returns-clause-found g c = created_there g.S.WorldStore.meaning (record c.object_of-object.result { world = Some c.args.world }) c.in_ok-o.o c.args.config.now c.create.new.heap c.requires.base c.in_ok-o.ensures.creates

use Rattle.std.proofs.Common.{Some}
use Rattle.wjs_arena.specs.declared.class.Class.TheVariants as class
use Rattle.wjs_heap_steps.proofs.Making.{world_named}
use Rattle.wjs_parts.proofs.Entry.{shows_world}
use Rattle.wjs_parts.proofs.enters.show_world.Goals as goal

pub create-requires-clause-named : goal.create-requires-clause-named
create-requires-clause-named g c = let config = c.args.config.now in world_named config.heap.texts config.heap.arena c.object_of-object.result class.World (Some c.builtin-prototype.result) c.object_of-object.ensures (Some config.world)

pub returns : goal.returns
returns g c =
    shows_world g.S.WorldStore.meaning c.args.config.now c.create.new.heap c.object_of-object.result c.builtin-prototype.result c.in_ok-_shown._shown c.requires.base c.object_of-object.ensures c.builtin-prototype.ensures.number c.builtin-prototype.ensures.found c.in_ok-_shown.ensures.creates

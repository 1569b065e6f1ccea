use Rattle.wjs_machine_tests.proofs.Belonging.{world_by}
use Rattle.std.specs.FinMap as map
use Rattle.wjs_arena.proofs.Fields.{standing, standing_is}
use Rattle.wjs_machine_tests.proofs.owners.world_of_object.Goals as goal

pub returns : goal.returns
returns g c = world_by g.S.WorldStore.meaning c.args.config.now c.args.object (standing (map.get c.args.config.now.heap.arena c.args.object) c.world.result) c.requires.sound.base c.requires.object (standing_is (map.get c.args.config.now.heap.arena c.args.object) c.world.result c.world.ensures.world)

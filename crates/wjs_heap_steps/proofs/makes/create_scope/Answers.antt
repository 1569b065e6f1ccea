use Rattle.std.proofs.Common.{None}
use Rattle.wjs_arena.specs.declared.class.Class.TheVariants as class
use Rattle.wjs_heap_steps.proofs.Making.{near_scope}
use Rattle.wjs_heap_steps.proofs.makes.create_scope.Goals as goal

pub create-requires-clause-near : goal.create-requires-clause-near
create-requires-clause-near g c = near_scope c.args.config.now.apart.items c.object_of-object.result class.Scope None c.object_of-object.ensures tt c.args.outer c.requires.outer.1

use Rattle.std.proofs.Common.{Some}
use Rattle.wjs_arena.specs.declared.class.Class.TheVariants as class
use Rattle.wjs_heap_steps.proofs.Making.{near_bare}
use Rattle.wjs_heap_steps.proofs.makes.create_plain.Goals as goal

pub create-requires-clause-near : goal.create-requires-clause-near
create-requires-clause-near g c = near_bare c.args.config.now.apart.items c.object_of.result class.Plain (Some c.builtin-prototype.result) c.object_of.ensures c.builtin-prototype.ensures.found.1

use Rattle.std.proofs.Common.{Some}
use Rattle.wjs_arena.specs.declared.class.Class.TheVariants as class
use Rattle.wjs_heap_steps.proofs.Having.{value_here, value_near}
use Rattle.wjs_heap_steps.proofs.Making.{primitive_named, near_primitive}
use Rattle.wjs_native_text.proofs.receivers.hold_object.Goals as goal

pub create-requires-clause-near : goal.create-requires-clause-near
create-requires-clause-near g c = near_primitive c.args.config.now.apart.items c.object_of-object.result class.Plain (Some c.builtin-prototype.result) c.object_of-object.ensures c.builtin-prototype.ensures.found.1 c.args.value (value_near c.args.config.now c.args.value c.requires.value)

pub create-requires-clause-named : goal.create-requires-clause-named
create-requires-clause-named g c = let now = c.args.config.now in primitive_named now.heap.texts now.heap.arena c.object_of-object.result class.Plain (Some c.builtin-prototype.result) c.object_of-object.ensures c.args.value (value_here now c.args.value c.requires.value)

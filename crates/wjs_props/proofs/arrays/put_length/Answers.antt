use Rattle.std.proofs.Common.{◌∙◌}
use Rattle.wjs_base.proofs.TextLaws.{Grows-trans}
use Rattle.wjs_heap.specs.Means.{parts}
use Rattle.wjs_props.proofs.Putting.{length_put, slot_after, number_there}
use Rattle.wjs_props.proofs.arrays.put_length.Goals as goal

pub write-requires-clause-slot : goal.write-requires-clause-slot
write-requires-clause-slot g c =
    let p = parts g.S.WorldStore.meaning in
    slot_after (p c.args.heap.now) (p c.cut.new.heap) (record { object = c.args.object; name = c.args.name }) (Grows-trans c.args.heap.now.texts c.read.new.heap.texts c.cut.new.heap.texts c.in_ok-found.ensures.reads.texts c.in_ok-cut.ensures.texts) (c.in_ok-cut.ensures.arena ∙ c.in_ok-found.ensures.reads.arena) c.requires.object c.requires.name

pub write-requires-clause-content : goal.write-requires-clause-content
write-requires-clause-content g c = number_there c.cut.new.heap.texts c.cut.new.heap.arena c.value_of_length-shorter.result c.args.length c.value_of_length-shorter.ensures

pub returns : goal.returns
returns g c =
    let p = parts g.S.WorldStore.meaning in
    length_put c.args.world (record { object = c.args.object; name = c.args.name }) c.args.length (p c.args.heap.now) (p c.read.new.heap) (p c.cut.new.heap) (p c.write.new.heap) c.requires.heap c.requires.name c.requires.spells c.in_ok-found.found c.length_of-old.result c.length_of-old.ensures c.in_ok-found.ensures.reads c.in_ok-cut.ensures c.value_of_length-shorter.result c.value_of_length-shorter.ensures c.in_ok-write.ensures

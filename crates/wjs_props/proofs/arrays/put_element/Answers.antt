use Rattle.std.proofs.Common.{◌∙◌, ◌+◌}
use Rattle.wjs_base.proofs.TextLaws.{Grows-trans}
use Rattle.wjs_heap.specs.Means.{parts}
use Rattle.wjs_props.proofs.Putting.{put_below, put_past, slot_after, number_there}
use Rattle.wjs_props.proofs.arrays.put_element.Goals as goal

pub returns-then-index-length : goal.returns-then-index-length
returns-then-index-length g c =
    let p = parts g.S.WorldStore.meaning in
    put_below c.args.world c.args.slot c.args.index c.args.value (p c.args.heap.now) (p c.read.new.heap) (p c.write.new.heap) c.requires.heap c.requires.name c.requires.spells c.in_ok-held.held c.length_of-length.result c.length_of-length.ensures c.in_ok-held.ensures.reads c.in_ok-write.ensures c.if-index-length.true

pub write-requires-2-clause-slot : goal.write-requires-2-clause-slot
write-requires-2-clause-slot g c =
    let p = parts g.S.WorldStore.meaning in
    slot_after (p c.args.heap.now) (p c.write.new.heap) c.args.slot (Grows-trans c.args.heap.now.texts c.read.new.heap.texts c.write.new.heap.texts c.in_ok-held.ensures.reads.texts c.in_ok-write.ensures.texts) (c.in_ok-write.ensures.arena ∙ c.in_ok-held.ensures.reads.arena) c.requires.object c.requires.name

pub write-requires-2-clause-content : goal.write-requires-2-clause-content
write-requires-2-clause-content g c = number_there c.write.new.heap.texts c.write.new.heap.arena c.value_of_length-greater.result (c.args.index + 1) c.value_of_length-greater.ensures

pub returns : goal.returns
returns g c =
    let p = parts g.S.WorldStore.meaning in
    put_past c.args.world c.args.slot c.args.index c.args.value (p c.args.heap.now) (p c.read.new.heap) (p c.write.new.heap) c.requires.heap c.requires.name c.requires.spells c.in_ok-held.held c.length_of-length.result c.length_of-length.ensures c.in_ok-held.ensures.reads c.in_ok-write.ensures c.if-index-length.false (p c.write-2.new.heap) c.value_of_length-greater.result c.value_of_length-greater.ensures c.in_ok-write-2.ensures

use Rattle.wjs_by_content.specs.Tables.{value_in}
use Rattle.wjs_heap.specs.Means.{parts}
use Rattle.wjs_by_content.specs.Properties as plan
use Rattle.wjs_heap.proofs.Growing.{heap_grows, value_stays, performs_grown}
use Rattle.wjs_props.proofs.arrays.put_index.Goals as goal

pub put_element-requires-clause-heap : goal.put_element-requires-clause-heap
put_element-requires-clause-heap g c = heap_grows (parts g.S.WorldStore.meaning c.args.heap.now) c.length_name.new.texts c.in_ok-name.ensures.table c.in_ok-name.ensures.grows c.requires.heap

pub put_element-requires-clause-value : goal.put_element-requires-clause-value
put_element-requires-clause-value g c = value_stays c.args.heap.now.texts c.length_name.new.texts c.in_ok-name.ensures.grows c.args.heap.now.arena c.args.value c.requires.value

pub returns : goal.returns
returns g c =
    let p = parts g.S.WorldStore.meaning in
    performs_grown (p c.args.heap.now) c.length_name.new.texts c.in_ok-name.ensures.table c.in_ok-name.ensures.grows c.args.world (λ t. plan.put_index c.args.object c.args.index (value_in t c.args.value)) (λ t. c.in_ok-answer.answer) (p c.put_element.new.heap) c.in_ok-answer.ensures

use Rattle.wjs_heap_steps.proofs.Having.{value_both}
use Rattle.wjs_heap_steps.proofs.Making.{number_there, number_near}
use Rattle.wjs_heap_steps.proofs.values.text_member.Goals as goal

pub returns-then-is_length-clause-found : goal.returns-then-is_length-clause-found
returns-then-is_length-clause-found g c =
    let now = c.args.config.now in
    value_both now c.length_value.result (number_there now.heap.texts now.heap.texts now.heap.arena c.length_value.result _ (c.length_value.ensures now.heap.texts)) (number_near now.apart.items now.heap.texts c.length_value.result _ (c.length_value.ensures now.heap.texts))

use Rattle.std.proofs.Common.{Some, ap}
use Rattle.wjs_by_content.specs.Names.{slot, length_name}
use Rattle.wjs_meaning.specs.Deeds.{Do, Write}
use Rattle.wjs_heap_steps.proofs.Having.{value_both}
use Rattle.wjs_heap_steps.proofs.Making.{number_there, number_near}
use Rattle.wjs_step_common.proofs.Following.{follows_as}
use Rattle.wjs_literals.proofs.arrays.write_length.Goals as goal

pub write_known-requires-clause-value : goal.write_known-requires-clause-value
write_known-requires-clause-value g c =
    let mid = c.args.config.now in
    value_both mid c.in_ok-value.value (number_there mid.heap.texts mid.heap.texts mid.heap.arena c.in_ok-value.value c.args.length (c.in_ok-value.ensures mid.heap.texts)) (number_near mid.apart.items mid.heap.texts c.in_ok-value.value c.args.length (c.in_ok-value.ensures mid.heap.texts))

pub returns-clause-does : goal.returns-clause-does
returns-clause-does g c = record {
  by = λ act later r h.
      follows_as _ _ _ _ _ _ (λ grows. ap (λ v. Do (Write c.args.frame.now.world (slot c.args.array length_name) (Some v)) (λ done. act)) (c.in_ok-value.ensures later.heap.texts)) (c.in_ok-write_known.ensures.does.by (λ done. act) later r h);
}

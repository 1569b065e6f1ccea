use Rattle.wjs_heap.specs.Means.{parts}
use Rattle.wjs_heap.proofs.Growing.{heap_begins}
use Rattle.wjs_heap.proofs.heap.Heap.new.Goals as goal

pub returns-clause-heap : goal.returns-clause-heap
returns-clause-heap g c = heap_begins (parts g.S.WorldStore.meaning (record { texts = c.args.texts; arena = c.new.result; store = c.args.store })) c.requires.table c.new.ensures.arena c.new.ensures.empty c.requires.first

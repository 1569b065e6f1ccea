use Rattle.wjs_heap.proofs.Growing.{heap_begins}
use Rattle.wjs_heap.proofs.laws.heaps_begin.Goals as goal

pub returns : goal.returns
returns c = heap_begins

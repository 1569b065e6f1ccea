use Rattle.wjs_heap.proofs.Growing.{heap_grows}
use Rattle.wjs_heap.proofs.laws.more_texts_keep.Goals as goal

pub returns : goal.returns
returns c = λ h heap texts table g. heap_grows h texts table g heap

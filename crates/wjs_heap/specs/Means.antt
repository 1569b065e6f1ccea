-- What a heap of the code means.
use Rattle.wjs_store.specs.Meaning.{Meaning}
use Rattle.wjs_heap.specs.declared.heap.Heap.{Heap}
use Rattle.wjs_heap.specs.Heap.{Parts}

-- with what its store means
abbrev pub parts : {S : Type 0} → (S → Meaning) → Heap S → Parts
parts meaning h = record { texts = h.texts; arena = h.arena; store = meaning h.store }

-- the answer of what answers nothing
abbrev pub nothing : Unit {0}
nothing = tt

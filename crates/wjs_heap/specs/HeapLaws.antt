-- What begins a heap and what keeps it one, each promised by a public function.
use Rattle.std.specs.Prelude.{◌≡◌, ℕ}
use Rattle.std.specs.FinMap as map
use Rattle.wjs_base.specs.Text.{Table, IsTable, Grows}
use Rattle.wjs_store.specs.Fixed.{fresh}
use Rattle.wjs_store.specs.Meaning.{worlds}
use Rattle.wjs_arena.specs.declared.object.Object.{Object}
use Rattle.wjs_arena.specs.Entries.{Objects, IsArena, created}
use Rattle.wjs_heap.specs.Heap.{Parts, HasNamed, IsHeap}

-- with other texts
abbrev pub with_texts : Parts → Table → Parts
with_texts h texts = record { texts = texts; arena = h.arena; store = h.store }

-- with other objects
abbrev pub with_arena : Parts → Objects → Parts
with_arena h arena = record { texts = h.texts; arena = arena; store = h.store }

-- texts, no objects and the fresh first world are a heap
abbrev pub HeapsBegin : Type 0
HeapsBegin = (h : Parts) → IsTable h.texts → IsArena h.arena → h.arena ≡ map.empty → worlds h.store ≡ fresh → IsHeap h

-- a heap with more texts is one
abbrev pub MoreTextsKeep : Type 0
MoreTextsKeep = (h : Parts) → IsHeap h → (texts : Table) → IsTable texts → Grows h.texts texts → IsHeap (with_texts h texts)

-- a heap with one object more, whose names, texts and objects are there, is one
abbrev pub MoreObjectsKeep : Type 0
MoreObjectsKeep = (h : Parts) → IsHeap h → (owner : ℕ) (x : Object) → HasNamed h.texts h.arena x → IsArena (created h.arena owner x) → IsHeap (with_arena h (created h.arena owner x))

-- Finite maps and verdicts under other names.
use Rattle.std.specs.Prelude.{map as each}
use Rattle.std.specs.declared.cmp.Ordering.{Ordering}
use Rattle.std.specs.FinMap as map
use Rattle.std.specs.FinMap.{FinMap}
use Rattle.wjs_store.specs.State.{Verdict, moved, differs, no_parent}

-- each entry (k, v) becomes (f k, g v)
abbrev pub renamed : {K J X Y : Type 0} {R : K → K → Ordering} {S : J → J → Ordering} → (K → J) → (X → Y) → FinMap R X → FinMap S Y
renamed f g m = map.from_entries (each (λ e. (f e.0, g e.1)) (map.entries m))

-- a verdict but for the slot of a refused one: which slot is the least depends on the names
abbrev pub shape : {K : Type 0} → Verdict K → Verdict (Unit {0})
shape moved = moved
shape (differs s) = differs tt
shape no_parent = no_parent

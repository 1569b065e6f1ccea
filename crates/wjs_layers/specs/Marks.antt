-- The marks of writing, and how many rows have a mark.
use Rattle.std.specs.Prelude.{ℕ, ◌+◌, Bool, false, cond, List, [], ◌∷◌, is_some}
use Rattle.std.specs.Option.{option_map_or}
use Rattle.std.specs.FinMap as map
use Rattle.std.specs.FinMap.{FinMap}
use Rattle.wjs_base.specs.Order.{slot_cmp}
use Rattle.wjs_base.specs.declared.ids.WorldId.{WorldId}
use Rattle.wjs_store.specs.Naming.{plain}
use Rattle.wjs_store.specs.State.{World, State, find_world}
use Rattle.wjs_base.specs.declared.values.Slot.{Slot}
use Rattle.wjs_layers.specs.declared.maps.Row.{Row}

abbrev pub reads_in : List (Slot × Row) → ℕ
reads_in [] = 0
reads_in (e ∷ es) = cond (is_some e.1.read) 1 0 + reads_in es

abbrev pub writes_in : List (Slot × Row) → ℕ
writes_in [] = 0
writes_in (e ∷ es) = cond e.1.written 1 0 + writes_in es

-- the slot was written in the world
abbrev pub is_written : State plain → WorldId → Slot → Bool
is_written F w s = option_map_or (λ (x : World plain). map.contains_key x.written s) (find_world F w) false

-- the slot has a written row
abbrev pub has_written : FinMap slot_cmp Row → Slot → Bool
has_written rows s = option_map_or (λ (row : Row). row.written) (map.get rows s) false

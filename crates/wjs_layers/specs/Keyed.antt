-- Rows, by what is kept at each slot.
use Rattle.std.specs.Prelude.{map as each}
use Rattle.std.specs.Option.{option_map_or}
use Rattle.std.specs.FinMap as map
use Rattle.std.specs.FinMap.{FinMap}
use Rattle.wjs_base.specs.declared.values.Slot.{Slot}
use Rattle.wjs_base.specs.declared.values.Content.{Content}
use Rattle.wjs_base.specs.Order.{slot_cmp}
use Rattle.wjs_layers.specs.declared.maps.Row.{Row}
use Rattle.wjs_layers.specs.Shorts.{row_written}

abbrev pub entry_by : {V : Type 0} → (Slot → V → Row) → Slot × V → Slot × Row
entry_by f e = (e.0, f e.0 e.1)

-- what is kept at each slot, as a row
unfoldable pub rows_by : {V : Type 0} → (Slot → V → Row) → FinMap slot_cmp V → FinMap slot_cmp Row
rows_by f m = map.from_sorted (each (entry_by f) (map.entries m))

-- the slot is written, if it has a row: the recorded read stays
abbrev pub rewritten : FinMap slot_cmp Row → Slot → Content → FinMap slot_cmp Row
rewritten rows slot now = option_map_or (λ (row : Row). map.insert rows slot (row_written row.read now)) (map.get rows slot) rows

-- Several slots of one object of the first world are set.
use Rattle.std.specs.Prelude.{List, fold}
use Rattle.std.specs.FinMap as map
use Rattle.std.specs.FinMap.{FinMap}
use Rattle.wjs_base.specs.declared.ids.ObjId.{ObjId}
use Rattle.wjs_base.specs.declared.values.Name.{Name}
use Rattle.wjs_base.specs.declared.values.Value.{Value}
use Rattle.wjs_base.specs.Order.{slot_cmp}
use Rattle.wjs_layers.specs.declared.maps.Row.{Row}
use Rattle.wjs_layers.specs.Tables.{row_with}

-- one after another
abbrev pub first_rows : ObjId → List (Name × Value) → FinMap slot_cmp Row → FinMap slot_cmp Row
first_rows o rows m = fold (λ n row. map.insert n (record { object = o; name = row.0 }) (row_with row.1)) m rows

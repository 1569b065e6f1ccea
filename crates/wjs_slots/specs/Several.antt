-- Several rows of one object are put in.
use Rattle.std.specs.Prelude.{List, fold}
use Rattle.std.specs.FinMap as map
use Rattle.std.specs.FinMap.{FinMap}
use Rattle.wjs_base.specs.declared.ids.ObjId.{ObjId}
use Rattle.wjs_base.specs.declared.values.Name.{Name}
use Rattle.wjs_base.specs.Order.{slot_cmp}

-- one after another
abbrev pub with_rows_on : {V : Type 0} → ObjId → List (Name × V) → FinMap slot_cmp V → FinMap slot_cmp V
with_rows_on object rows m = fold (λ n row. map.insert n (record { object = object; name = row.0 }) row.1) m rows

-- Several slots are written.
use Rattle.std.specs.Prelude.{List, [], ◌∷◌, map as each, Some}
use Rattle.wjs_base.specs.declared.ids.ObjId.{ObjId}
use Rattle.wjs_base.specs.declared.values.Name.{Name}
use Rattle.wjs_base.specs.declared.values.Value.{Value as NumberedValue}
use Rattle.wjs_base.specs.Text.{Table}
use Rattle.wjs_by_content.specs.Names.{Slot, slot}
use Rattle.wjs_by_content.specs.Plans.{Plan, Gives, Writes}
use Rattle.wjs_by_content.specs.Tables.{name_in, value_in}
use Rattle.wjs_by_content.specs.Values.{Value}
use Rattle.wjs_heap.specs.Means.{nothing}

-- one after another
abbrev pub writes : List (Slot × Value) → Plan (Unit {0})
writes [] = Gives nothing
writes (e ∷ es) = Writes e.0 (Some e.1) (writes es)

-- the slots of an object that these values have names for
abbrev pub rows_in : Table → ObjId → List (Name × NumberedValue) → List (Slot × Value)
rows_in t o rows = each (λ row. (slot o (name_in t row.0), value_in t row.1)) rows

-- Slots that are looked for.
use Rattle.std.specs.Prelude.{Bool, cond, ◌&&◌, ◌==◌, Option, None, Some}
use Rattle.std.specs.Ordering.{is_lt}
use Rattle.wjs_base.specs.declared.ids.ObjId.{ObjId}
use Rattle.wjs_base.specs.declared.values.Name.{Name}
use Rattle.wjs_base.specs.declared.values.Name.TheVariants.{Index}
use Rattle.wjs_base.specs.declared.values.Slot.{Slot}
use Rattle.wjs_base.specs.Order.{obj_cmp}
pub use Rattle.wjs_names.specs.Least.{IsLeast, comes_past}

-- whether a slot's object comes after an object
abbrev pub is_past : ObjId → Slot → Bool
is_past object slot = is_lt (obj_cmp object slot.object)

-- the least of all slots
abbrev pub first_slot : Slot
first_slot = record { object = record { owner = 0; serial = 0 }; name = Index 0 }

-- whether an object is this one
abbrev pub is_object : ObjId → ObjId → Bool
is_object a b = (a.owner == b.owner) && (a.serial == b.serial)

-- whether a slot is one of an object's, after the name that was passed
abbrev pub is_next_on : ObjId → Option Name → Slot → Bool
is_next_on object passed slot = is_object slot.object object && comes_past passed slot.name

-- a row of an object with its slot
abbrev pub row_on : {V : Type 0} → ObjId → Name × V → Slot × V
row_on object row = (record { object = object; name = row.0 }, row.1)

-- the entry, where its slot is one of the object's
abbrev pub entry_on : {V : Type 0} → ObjId → Option (Slot × V) → Option (Slot × V)
entry_on object None = None
entry_on object (Some e) = cond (is_object e.0.object object) (Some e) None

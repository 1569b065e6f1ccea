-- What a world itself says of a slot, and what a write leaves of it.
use Rattle.std.specs.Prelude.{◌≡◌, true, false, not, cond, ◌&&◌, ◌||◌, Option, None, Some, is_some}
use Rattle.std.specs.Option.{option_and_then}
use Rattle.std.specs.Ordering.{eq_by_cmp}
use Rattle.std.specs.FinMap as map
use Rattle.wjs_base.specs.declared.values.Slot.{Slot}
use Rattle.wjs_base.specs.declared.ids.ObjId.{ObjId}
use Rattle.wjs_base.specs.declared.values.Value.{Value}
use Rattle.wjs_base.specs.declared.values.Content.{Content}
use Rattle.wjs_base.specs.declared.values.Content.TheVariants.{Absent, Present}
use Rattle.wjs_base.specs.Order.{slot_cmp}
use Rattle.wjs_store.specs.Naming.{plain}
use Rattle.wjs_store.specs.State.{World, has_row}
use Rattle.wjs_layers.specs.declared.maps.Row.{Row}
use Rattle.wjs_layers.specs.declared.layer.Layer.{Layer}
use Rattle.wjs_layers.specs.Tables.{row_with}
use Rattle.wjs_layers.specs.Sparse.{now_of, read_of, mark_of}
use Rattle.wjs_layers.specs.declared.layer.Look.{Look}
use Rattle.wjs_layers.specs.declared.layer.Look.TheVariants.{Closed, Untouched, Nowhere}

abbrev pub Looked : Layer → Slot → Look → Type 0
Looked r s Closed = (map.get r.rows s ≡ None) × (map.contains_key r.closed s.object ≡ true)
Looked r s (Untouched above) = (map.get r.rows s ≡ None) × (map.contains_key r.closed s.object ≡ false) × (r.above ≡ Some above)
Looked r s Nowhere = (map.get r.rows s ≡ None) × (r.above ≡ None)

-- a world with a parent has no row of the slot, and has not listed its object
abbrev pub IsUntouched : Layer → Slot → Type 0
IsUntouched r s = (map.get r.rows s ≡ None) × (map.contains_key r.closed s.object ≡ false) × (is_some r.above ≡ true)

-- the world y is x but for one slot, where it is what the row says
pub record Puts (r : Layer) (s : Slot) (o : Option Row) (x y : World plain) : Type 0 where
  pub id : y.id ≡ x.id
  pub parent : y.parent ≡ x.parent
  pub strict : y.strict ≡ x.strict
  pub closed : y.closed ≡ x.closed
  pub first_here : map.get y.first s ≡ option_and_then read_of o
  pub written_here : map.get y.written s ≡ option_and_then mark_of o
  pub copy_here : map.get y.copy s ≡ option_and_then now_of o
  pub first_other : (t : Slot) → eq_by_cmp slot_cmp t s ≡ false → map.get y.first t ≡ map.get x.first t
  pub written_other : (t : Slot) → eq_by_cmp slot_cmp t s ≡ false → map.get y.written t ≡ map.get x.written t
  pub copy_other : (t : Slot) → eq_by_cmp slot_cmp t s ≡ false → map.get y.copy t ≡ map.get x.copy t
  pub marked : (row : Row) → o ≡ Some row → (is_some row.read || row.written) ≡ is_some r.above
  pub present : (row : Row) → r.above ≡ None → o ≡ Some row → is_some (now_of row) ≡ true

-- the recorded read of a slot once it is written
abbrev pub read_after : World plain → Slot → Option (Option Value)
read_after x s = cond (is_some x.parent && (not (has_row x s) && (map.contains_key x.closed s.object || x.strict))) (Some (map.get x.copy s)) (map.get x.first s)

-- the row of a slot in the first world
abbrev pub first_row_of : Content → Option Row
first_row_of Absent = None
first_row_of (Present v) = Some (row_with v)

-- an object is marked as listed, in a world with a parent
abbrev pub closed_layer : ObjId → Layer → Layer
closed_layer o r = cond (is_some r.above) (record r { closed = map.insert r.closed o tt }) r

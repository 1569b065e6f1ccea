-- The least slot that fails a check.
use Rattle.std.specs.Prelude.{◌≡◌, Bool, true, false, not, ◌&&◌, Option, Some}
use Rattle.std.specs.Option.{option_map_or}
use Rattle.std.specs.FinMap as map
use Rattle.wjs_base.specs.declared.ids.ObjId.{ObjId}
use Rattle.wjs_base.specs.declared.values.Slot.{Slot}
use Rattle.wjs_base.specs.Order.{obj_cmp}
use Rattle.wjs_base.specs.Same.{same_value}
use Rattle.wjs_store.specs.Naming.{plain}
use Rattle.wjs_store.specs.State.{World, has_row, same_content}
use Rattle.wjs_layers.specs.Cursor.{is_before, is_prior}

-- the slot passes, and no slot before it does; none where no slot passes
pub record IsLeast (p : Slot → Bool) (least : Option Slot) : Type 0 where
  pub passes : (s : Slot) → least ≡ Some s → p s ≡ true
  pub before : (s : Slot) → is_before s least ≡ true → p s ≡ false

-- a recorded read of the world x is not what its parent y holds
abbrev pub differs : World plain → World plain → Slot → Bool
differs x y s = option_map_or (λ c. not (same_content same_value c (map.get y.copy s))) (map.get x.first s) false

-- a slot is present in the parent y, and has no row in the world x
abbrev pub is_unseen : World plain → World plain → Slot → Bool
is_unseen x y s = map.contains_key y.copy s && not (has_row x s)

-- the object comes before the next one
abbrev pub object_before : ObjId → Option ObjId → Bool
object_before o next = is_prior obj_cmp o next

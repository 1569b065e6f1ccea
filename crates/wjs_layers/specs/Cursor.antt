-- Slots in their order, one after another.
use Rattle.std.specs.Prelude.{◌≡◌, ℕ, ◌+◌, ◌≤◌, Bool, true, cond, ◌&&◌, List, [], ◌∷◌, Option, None, Some, is_some}
use Rattle.std.specs.declared.cmp.Ordering.{Ordering}
use Rattle.std.specs.Ordering.{is_lt, eq_by_cmp}
use Rattle.std.specs.FinMap as map
use Rattle.std.specs.FinMap.{FinMap}
use Rattle.wjs_base.specs.declared.ids.ObjId.{ObjId}
use Rattle.wjs_base.specs.declared.ids.WorldId.{WorldId}
use Rattle.wjs_base.specs.declared.values.Slot.{Slot}
use Rattle.wjs_base.specs.declared.values.Value.{Value}
use Rattle.wjs_base.specs.Order.{slot_cmp}
use Rattle.wjs_store.specs.Naming.{plain}
use Rattle.wjs_store.specs.State.{State, KeySet, content_at, same_object}
use Rattle.wjs_layers.specs.declared.maps.Row.{Row}
use Rattle.wjs_layers.specs.Work.{kept_from}

-- how many pass
abbrev pub count_passing : {K : Type 0} → (K → Bool) → List K → ℕ
count_passing p [] = 0
count_passing p (s ∷ ss) = cond (p s) 1 0 + count_passing p ss

-- the slot comes after those that were passed
abbrev pub to_come : Option Slot → Slot → Bool
to_come None s = true
to_come (Some passed) s = is_lt (slot_cmp passed s)

-- the key comes before the next one
abbrev pub is_prior : {K : Type 0} → (K → K → Ordering) → K → Option K → Bool
is_prior R k None = true
is_prior R k (Some next) = is_lt (R k next)

abbrev pub is_before : Slot → Option Slot → Bool
is_before s next = is_prior slot_cmp s next

-- the lesser of two slots
abbrev pub lesser_of : Option Slot → Option Slot → Option Slot
lesser_of None b = b
lesser_of (Some a) None = Some a
lesser_of (Some a) (Some b) = cond (is_lt (slot_cmp a b)) (Some a) (Some b)

-- the slots of an object that are still to come
abbrev pub comes_on : ObjId → Option Slot → Slot → Bool
comes_on o passed s = same_object s.object o && to_come passed s

-- the least slot of an object that has a row, among those to come
pub record IsNextRow (rows : FinMap slot_cmp Row) (o : ObjId) (passed next : Option Slot) : Type 0 where
  pub on : (s : Slot) → next ≡ Some s → s.object ≡ o
  pub later : (s : Slot) → next ≡ Some s → to_come passed s ≡ true
  pub there : (s : Slot) → next ≡ Some s → is_some (map.get rows s) ≡ true
  pub least : (s : Slot) → s.object ≡ o → to_come passed s ≡ true → is_before s next ≡ true → map.get rows s ≡ None

-- a slot of an object to come, before which the world holds nothing of the object
pub record IsNextSlot (F : State plain) (w : WorldId) (o : ObjId) (passed next : Option Slot) : Type 0 where
  pub on : (s : Slot) → next ≡ Some s → s.object ≡ o
  pub later : (s : Slot) → next ≡ Some s → to_come passed s ≡ true
  pub kept : (s : Slot) → next ≡ Some s → 1 ≤ kept_from (eq_by_cmp slot_cmp s) F w
  pub least : (s : Slot) → s.object ≡ o → to_come passed s ≡ true → is_before s next ≡ true → content_at F w s ≡ None

-- a slot that is present is among those found
abbrev pub with_present : KeySet slot_cmp → Option Value → Slot → KeySet slot_cmp
with_present found None s = found
with_present found (Some v) s = map.insert found s tt

-- The rows of objects of one owner that follow each other, and those of all others.
use Rattle.std.specs.Prelude.{◌≡◌, ℕ, ◌+◌, ◌-◌, ◌≤◌, ◌^◌, cond, ◌&&◌, ◌==◌, nat_le, nat_lt, ◌<◌, List, [], ◌∷◌, ◌++◌, length, map as each, Option, None, Some, MatchOption, slice_get}
use Rattle.std.specs.FinMap as map
use Rattle.std.specs.FinMap.{FinMap, find}
use Rattle.std.specs.Map.{lookup_entry}
use Rattle.wjs_base.specs.declared.ids.ObjId.{ObjId}
use Rattle.wjs_base.specs.declared.values.Name.{Name}
use Rattle.wjs_base.specs.declared.values.Slot.{Slot}
use Rattle.wjs_base.specs.Order.{name_cmp, slot_cmp}
use Rattle.wjs_slots.specs.Least.{comes_past}
use Rattle.wjs_names.specs.Lists.{IsInOrder}

-- the place of an object among n of an owner's, from a serial number on
abbrev pub place_in : ℕ → ℕ → ℕ → ObjId → Option ℕ
place_in owner first n object = cond ((object.owner == owner) && (nat_le first object.serial && nat_lt (object.serial - first) n)) (Some (object.serial - first)) None

-- the value at a name of an object, if the object is there
abbrev pub value_in : {V : Type 0} → Option (FinMap name_cmp V) → Name → Option V
value_in None name = None
value_in (Some names) name = map.get names name

-- the rows of the object with a serial number, where these are an owner's from the first on
abbrev pub held_at : {V : Type 0} → ℕ → List (FinMap name_cmp V) → ℕ → Option (FinMap name_cmp V)
held_at first objects serial = cond (nat_le first serial) (slice_get objects (serial - first)) None

-- the value at a slot, where one owner's objects have these rows from the first on
abbrev pub near_value : {V : Type 0} → ℕ → ℕ → List (FinMap name_cmp V) → Slot → Option V
near_value owner first objects slot = cond (slot.object.owner == owner) (value_in (held_at first objects slot.object.serial) slot.name) None

-- the rows of one object with their slots
abbrev pub rows_at : {V : Type 0} → ObjId → List (Name × V) → List (Slot × V)
rows_at object rows = each (λ row. (record { object = object; name = row.0 }, row.1)) rows

-- the rows of an owner's objects from the one with this serial number on
abbrev pub near_rows : {V : Type 0} → ℕ → ℕ → List (FinMap name_cmp V) → List (Slot × V)
near_rows owner serial [] = []
near_rows owner serial (names ∷ objects) = rows_at (record { owner = owner; serial = serial }) (map.entries names) ++ near_rows owner (serial + 1) objects

-- no row of these objects is among these
abbrev pub IsApart : {V : Type 0} → ℕ → ℕ → ℕ → List (Slot × V) → Type 0
IsApart owner first n far = (slot : Slot) → place_in owner first n slot.object ≡ Some (slot.object.serial - first) → find slot_cmp slot far ≡ None

-- what holds of n objects of an owner, from the first on, and the rows of all others
pub record IsSplit {V : Type 0} (owner first n : ℕ) (far : List (Slot × V)) : Type 0 where
  pub apart : IsApart owner first n far
  pub ordered : IsInOrder slot_cmp far
  pub short : first + n ≤ 2 ^ 64

-- the objects at the places from i on, up to k, have no rows
abbrev pub AreBare : {V : Type 0} → List (FinMap name_cmp V) → ℕ → ℕ → Type 0
AreBare {V} objects i k = (j : ℕ) (names : FinMap name_cmp V) (name : Name) → i ≤ j → j < k → slice_get objects j ≡ Some names → map.get names name ≡ None

-- the first place from i on whose object has rows, with the first of these
abbrev pub IsFirstRow : {V : Type 0} → List (FinMap name_cmp V) → ℕ → Option (ℕ × (Name × V)) → Type 0
IsFirstRow {V} objects i first =
    MatchOption first
    (AreBare objects i (length objects))
    (λ e. (i ≤ e.0) × AreBare objects i e.0 × ((names : FinMap name_cmp V) × (slice_get objects e.0 ≡ Some names) × (Some e.1 ≡ lookup_entry (comes_past None) (map.entries names))))

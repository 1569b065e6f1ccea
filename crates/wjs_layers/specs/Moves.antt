-- What a commit hands up, from the rows of the child.
use Rattle.std.specs.Prelude.{◌≡◌, ℕ, cond, List, fold, Option, None, Some, is_some, slice_get}
use Rattle.std.specs.FinMap as map
use Rattle.wjs_base.specs.declared.ids.ObjId.{ObjId}
use Rattle.wjs_base.specs.declared.ids.WorldId.{WorldId}
use Rattle.wjs_base.specs.declared.values.Slot.{Slot}
use Rattle.wjs_base.specs.declared.values.Value.{Value}
use Rattle.wjs_store.specs.Naming.{plain}
use Rattle.wjs_store.specs.State.{World, State, is_touched, close_in, after_write}
use Rattle.wjs_layers.specs.declared.maps.Row.{Row}
use Rattle.wjs_layers.specs.declared.layer.Layer.{Layer}
use Rattle.wjs_layers.specs.Sparse.{now_of, read_of}

-- a read is recorded where the slot is untouched
abbrev pub handed_by : Option (Option Value) → World plain → Slot → World plain
handed_by None y s = y
handed_by (Some c) y s = cond (is_touched y s) y (record y { first = map.insert y.first s c })

abbrev pub handed : World plain → Slot × Row → World plain
handed y e = handed_by (read_of e.1) y e.0

-- the recorded reads of rows, in a world with a parent
abbrev pub handed_rows : List (Slot × Row) → World plain → World plain
handed_rows rows y = cond (is_some y.parent) (fold handed y rows) y

-- the world holds what was read
abbrev pub ReadsAgree : List (Slot × Row) → World plain → Type 0
ReadsAgree rows y = (i : ℕ) (e : Slot × Row) (c : Option Value) → slice_get rows i ≡ Some e → read_of e.1 ≡ Some c → map.get y.copy e.0 ≡ c

-- the written rows are written
abbrev pub written_rows : WorldId → List (Slot × Row) → State plain → State plain
written_rows w rows F = fold (λ (G : State plain) (e : Slot × Row). cond e.1.written (after_write G w e.0 (now_of e.1)) G) F rows

-- objects are marked as listed
abbrev pub closed_all : List ObjId → World plain → World plain
closed_all objects y = fold (λ (z : World plain) (o : ObjId). close_in o z) y objects

-- a layer without rows
abbrev pub cleared : Layer → Layer
cleared r = record r { rows = map.empty; closed = map.empty }

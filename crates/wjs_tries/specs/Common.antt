-- What is known of all that activities share.
use Rattle.std.specs.Prelude.{◌≡◌, ℕ, ◌<◌, ◌≤◌, List, Some, All, IsTrue}
use Rattle.std.specs.FinMap as map
use Rattle.wjs_base.specs.declared.ids.ObjId.{ObjId}
use Rattle.wjs_base.specs.declared.ids.WorldId.{WorldId}
use Rattle.wjs_base.specs.declared.values.Slot.{Slot}
use Rattle.wjs_base.specs.declared.values.Value.{Value}
use Rattle.wjs_base.specs.Text.{Table, IsTable}
use Rattle.wjs_store.specs.State.{has_world, first_world}
use Rattle.wjs_store.specs.Shown.{first_of}
use Rattle.wjs_store.specs.Reached.{IsReached}
use Rattle.wjs_store.specs.Meaning.{Worlds}
use Rattle.wjs_arena.specs.Entries.{Objects, Entry, IsArena, has}
use Rattle.wjs_heap.specs.Heap.{HasNamed, HasSlot, HasValue}
use Rattle.wjs_meaning.specs.Builtins.{builtin}
use Rattle.wjs_meaning.specs.declared.builtin.Builtin.{Builtin}
use Rattle.wjs_model.specs.declared.loaded.LoadedProgram.{LoadedProgram as Program}
use Rattle.wjs_model.specs.Texts.{KnowsUnit, PlacesUnit}
use Rattle.wjs_model.specs.Standing.{FunctionStands}
use Rattle.wjs_session.specs.Session.{first_copy}

-- a table, objects, programs and worlds, where owners up to this one were drawn
pub record IsCommon (t : Table) (arena : Objects) (units : List Program) (F : Worlds) (drawn : ℕ) : Type 0 where
  pub reached : IsReached F
  pub first : first_of F ≡ Some first_world
  pub table : IsTable t
  pub arena_is : IsArena arena
  -- what objects name is there, and what the first world holds
  pub objects : (o : ObjId) (e : Entry) → map.get arena o ≡ Some e → HasNamed t arena e.object
  pub slots : (s : Slot) (v : Value) → map.get (first_copy F) s ≡ Some v → HasSlot t arena s × HasValue t arena v
  pub builtins : (b : Builtin) → IsTrue (has arena (builtin b))
  pub units_known : All (KnowsUnit t) units
  pub units_placed : All (PlacesUnit t) units
  pub functions : (o : ObjId) (e : Entry) → map.get arena o ≡ Some e → FunctionStands units arena e.object.code e.object.scope
  -- the world that an object stands for is its owner's
  pub worlds_by : (o : ObjId) (e : Entry) (w : WorldId) → map.get arena o ≡ Some e → e.object.world ≡ Some w → w.owner ≡ o.owner
  -- no object and no world is of a later owner
  pub object_owners : (o : ObjId) → IsTrue (has arena o) → o.owner ≤ drawn
  pub world_owners : (w : WorldId) → IsTrue (has_world F w) → w.owner ≤ drawn

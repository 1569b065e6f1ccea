-- The first heap.
use Rattle.std.specs.Prelude.{◌≡◌, ℕ, ◌+◌, ◌<◌, Bool, true, false, not, List, [], ◌∷◌, ◌++◌, length, map as each, Some, IfSome, IsTrue}
use Rattle.std.specs.FinMap as map
use Rattle.wjs_base.specs.declared.ids.ObjId.{ObjId}
use Rattle.wjs_base.specs.declared.ids.TextId.{TextId}
use Rattle.wjs_base.specs.declared.ids.WorldId.{WorldId}
use Rattle.wjs_base.specs.Text.{Table, Grows}
use Rattle.wjs_store.specs.State.{has_world, write, first_world}
use Rattle.wjs_store.specs.Meaning.{Meaning, View, worlds}
use Rattle.wjs_store.specs.Fixed.{fresh}
use Rattle.wjs_arena.specs.declared.object.Code.{Code}
use Rattle.wjs_arena.specs.declared.object.Code.TheVariants as code
use Rattle.wjs_arena.specs.Entries.{Entry, has, world_of}
use Rattle.wjs_by_content.specs.Carried.{tell}
use Rattle.wjs_by_content.specs.Plans.{Told, Wrote}
use Rattle.wjs_by_content.specs.Tables.{text_in, arena_in}
use Rattle.wjs_by_content.specs.Worlds.{worlds_in, told_by, KnowsWorlds}
use Rattle.wjs_heap.specs.Heap.{Parts, IsHeap, KnowsTold}
use Rattle.wjs_meaning.specs.declared.builtin.Builtin.{Builtin}
use Rattle.wjs_meaning.specs.Builtins.{first_object, builtin, first_world_object}
use Rattle.wjs_meaning.specs.Start.{Property, properties, first_arena, first_full}
use Rattle.wjs_meaning.specs.Table.{natives, first_native}

-- the first world alone, with no slot and no mark, under each view; the store works, and has told nothing yet
pub record IsNew (m : Meaning) : Type 0 where
  pub own : worlds m ≡ fresh
  pub each_view : (v : View) → IsTrue (m.admits v) → m.full v ≡ fresh
  pub works : IsTrue (not m.spent)
  pub silent : IfSome m.told (λ done. done ≡ [])

-- each slot was written, the last one first
abbrev pub writes_told : List Property → List Told
writes_told [] = []
writes_told (p ∷ ps) = writes_told ps ++ (write first_world p.at (Some p.value), Wrote) ∷ []

-- the code of a script's function
abbrev pub is_script : Code → Bool
is_script (code.Script tree node) = true
is_script _ = false

-- how many objects there are before the first step
abbrev pub object_count : ℕ
object_count = first_native + length natives

-- over a new store and where a script declares these names, what there is is what the meaning has before the first step
pub record IsFirst (texts : Table) (before : Meaning) (declared : List TextId) (h : Parts) : Type 0 where
  pub heap : IsHeap h
  pub grows : Grows texts h.texts
  -- the objects, under each later table
  pub arena : (t : Table) → Grows h.texts t → arena_in t h.arena ≡ first_arena (each (text_in t) declared)
  -- the first world with its slots, under each view that is admitted
  pub slots : (t : Table) → Grows h.texts t → (v : View) → IsTrue (h.store.admits v) → worlds_in t (h.store.full v) ≡ first_full
  -- what a store tells that tells its actions
  pub told : (t : Table) → Grows h.texts t → (v : View) → IsTrue (h.store.admits v) → told_by t h.store.told ≡ tell (writes_told properties) (told_by t before.told)
  -- the texts of the slots are there, and those of what was told
  pub knows : (v : View) → IsTrue (h.store.admits v) → KnowsWorlds h.texts (h.store.full v)
  pub marks : KnowsWorlds h.texts (worlds h.store)
  pub tells : KnowsTold h.texts h.store.told
  -- the first objects are there, and the first world alone, for which an object stands
  pub objects : (n : ℕ) → n < object_count → IsTrue (has h.arena (first_object n))
  pub builtins : (b : Builtin) → IsTrue (has h.arena (builtin b))
  pub first : IsTrue (has_world (worlds h.store) first_world)
  pub no_other : (w : WorldId) → IsTrue (has_world (worlds h.store) w) → w ≡ first_world
  pub own_worlds : (o : ObjId) (w : WorldId) → world_of h.arena o ≡ Some w → w ≡ first_world
  pub shown : world_of h.arena first_world_object ≡ Some first_world
  -- none is a script's function
  pub codes : (o : ObjId) (e : Entry) → map.get h.arena o ≡ Some e → IsTrue (not (is_script e.object.code))
  -- the store is as it was beside
  pub narrows : (v : View) → IsTrue (h.store.admits v) → IsTrue (before.admits v)
  pub own : h.store.own ≡ before.own
  pub around : h.store.around ≡ before.around
  pub spent : h.store.spent ≡ before.spent

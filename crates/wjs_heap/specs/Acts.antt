-- One action of the worlds of a heap, and one object more, by content.
use Rattle.std.specs.Prelude.{◌≡◌, ℕ, [], ◌∷◌, IsTrue}
use Rattle.wjs_base.specs.declared.ids.ObjId.{ObjId}
use Rattle.wjs_base.specs.declared.ids.WorldId.{WorldId}
use Rattle.wjs_base.specs.Text.{Table, Grows}
use Rattle.wjs_store.specs.State.{Act, has_world, answer_to, after}
use Rattle.wjs_store.specs.Meaning.{Meaning, View, worlds}
use Rattle.wjs_arena.specs.declared.object.Object.{Object}
use Rattle.wjs_arena.specs.Entries as numbered
use Rattle.wjs_by_content.specs.Names.{Slot}
use Rattle.wjs_by_content.specs.Objects.{next_number, created}
use Rattle.wjs_by_content.specs.Tables.{arena_in, object_in}
use Rattle.wjs_by_content.specs.Values.{Value}
use Rattle.wjs_by_content.specs.Plans.{Heard, heard, told_of}
use Rattle.wjs_by_content.specs.Worlds.{worlds_in, told_by, KnowsWorlds}
use Rattle.wjs_by_content.specs.Carried.{tell}
use Rattle.wjs_heap.specs.Heap.{Parts, IsHeap, KnowsTold}

-- a store went from one meaning to another by an action, under a view and in the contents that the table gives
pub record ActsBy (texts : Table) (act : Act Slot Value) (answer : Heard) (old new : Meaning) (v : View) : Type 0 where
  pub answers : answer ≡ heard (answer_to (worlds_in texts (old.full v)) act)
  pub worlds : worlds_in texts (new.full v) ≡ after (worlds_in texts (old.full v)) act
  -- it alone was told
  pub told : told_by texts new.told ≡ tell (told_of (worlds_in texts (old.full v)) act ∷ []) (told_by texts old.told)
  -- and the table knows the worlds still
  pub knows : KnowsWorlds texts (new.full v)

-- a call did one action of the worlds, and heard this answer: by content in the same sense
pub record Acts (act : Act Slot Value) (answer : Heard) (old new : Parts) : Type 0 where
  pub narrows : (v : View) → IsTrue (new.store.admits v) → IsTrue (old.store.admits v)
  pub acts : (u : Table) → Grows new.texts u → (v : View) → IsTrue (new.store.admits v) → KnowsWorlds u (old.store.full v) → ActsBy u act answer old.store new.store v
  pub marks : KnowsWorlds old.texts (worlds old.store) → KnowsWorlds new.texts (worlds new.store)
  pub told : KnowsWorlds old.texts (worlds old.store) → KnowsTold old.texts old.store.told → KnowsTold new.texts new.store.told
  pub texts : new.texts ≡ old.texts
  pub arena : new.arena ≡ old.arena
  pub own : new.store.own ≡ old.store.own
  pub around : new.store.around ≡ old.store.around
  pub still_there : (i : WorldId) → IsTrue (has_world (worlds old.store) i) → IsTrue (has_world (worlds new.store) i)
  pub heap : IsHeap new
  pub spent : new.store.spent ≡ old.store.spent

-- an object was made, and everything else is as before
pub record Creates (owner : ℕ) (object : Object) (id : ObjId) (old new : Parts) : Type 0 where
  pub number : id ≡ numbered.next_number old.arena owner
  pub arena : new.arena ≡ numbered.created old.arena owner object
  -- by content, whatever the table
  pub number_in : (t : Table) → id ≡ next_number (arena_in t old.arena) owner
  pub arena_by : (t : Table) → arena_in t new.arena ≡ created (arena_in t old.arena) owner (object_in t object)
  pub there : IsTrue (numbered.has new.arena id)
  pub keeps : numbered.Keeps old.arena new.arena
  pub texts : new.texts ≡ old.texts
  pub store : new.store ≡ old.store
  pub heap : IsHeap new

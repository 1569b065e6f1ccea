-- A heap on the way to the first one.
use Rattle.std.specs.Prelude.{◌≡◌, ℕ, ◌<◌, not, List, Some, IsTrue, fold}
use Rattle.std.specs.FinMap as map
use Rattle.wjs_base.specs.declared.ids.ObjId.{ObjId}
use Rattle.wjs_base.specs.declared.ids.WorldId.{WorldId}
use Rattle.wjs_base.specs.Text.{Table}
use Rattle.wjs_arena.specs.Entries.{Entry, next_number, world_of}
use Rattle.wjs_by_content.specs.Values.{Text}
use Rattle.wjs_by_content.specs.Objects.{Arena, Internals, created}
use Rattle.wjs_by_content.specs.Tables.{arena_in}
use Rattle.wjs_heap.specs.Heap.{Parts, IsHeap}
use Rattle.wjs_store.specs.State.{first_world}
use Rattle.wjs_meaning.specs.Builtins.{first_world_object}
use Rattle.wjs_start.specs.declared.known.Known.{Known}
use Rattle.wjs_start.specs.First.{is_script}
use Rattle.wjs_start.specs.Known.{Knows, declared_in}

-- objects 0 to n - 1 of owner 0 are there, 13 alone stands for a world, the first, and none is a script's function
pub record Building (h : Parts) (n : ℕ) : Type 0 where
  pub heap : IsHeap h
  pub count : (next_number h.arena 0).serial ≡ n
  pub worlds : (o : ObjId) (w : WorldId) → world_of h.arena o ≡ Some w → (13 < n) × (w ≡ first_world)
  pub shown : 13 < n → world_of h.arena first_world_object ≡ Some first_world
  pub codes : (o : ObjId) (e : Entry) → map.get h.arena o ≡ Some e → IsTrue (not (is_script e.object.code))

-- one object of owner 0 after another
abbrev pub with_objects : Arena → List Internals → Arena
with_objects arena objects = fold (λ (a : Arena) object. created a 0 object) arena objects

-- objects were made, n being there then; they depend on the declared names
pub record Makes (k : Known) (objects : List Text → List Internals) (n : ℕ) (old new : Parts) : Type 0 where
  pub building : Building new n
  pub arena : (t : Table) → Knows t k → arena_in t new.arena ≡ with_objects (arena_in t old.arena) (objects (declared_in t k))
  pub texts : new.texts ≡ old.texts
  pub store : new.store ≡ old.store

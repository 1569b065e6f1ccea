-- What stands outside a configuration: a view of its store, further objects, of other owners, beside its own, and a table of texts, later than the configuration's, in which the view's slots and values have their texts.
use Rattle.std.specs.Prelude.{◌≡◌, ℕ, ◌++◌, Some, IsTrue}
use Rattle.std.specs.FinMap as map
use Rattle.wjs_base.specs.declared.ids.ObjId.{ObjId}
use Rattle.wjs_base.specs.declared.ids.WorldId.{WorldId}
use Rattle.wjs_base.specs.Text.{Table, Grows}
use Rattle.wjs_store.specs.State.{has_world}
use Rattle.wjs_store.specs.Meaning.{Meaning, View, worlds}
use Rattle.wjs_arena.specs.Entries.{Objects}
use Rattle.wjs_by_content.specs.Objects.{Arena, Entry}
use Rattle.wjs_by_content.specs.Tables.{arena_in}
use Rattle.wjs_by_content.specs.Worlds.{KnowsWorlds}
use Rattle.wjs_model.specs.declared.config.Config.{Config}

pub record Outside : Type 0 where
  pub view : View
  pub more : Arena
  pub texts : Table

-- a view alone, under a table
abbrev pub alone : View → Table → Outside
alone view texts = record { view = view; more = map.empty; texts = texts }

-- the objects of both, where those of the first come first
abbrev pub beside : Arena → Arena → Arena
beside arena more = map.from_entries (map.entries arena ++ map.entries more)

-- by what a store means, and who makes a configuration's objects
module _ (m : Meaning) (owner : ℕ) where
  -- further objects are of other owners, and none has a world of the store or of the configuration's owner
  pub record IsFurther (more : Arena) : Type 0 where
    pub apart : (o : ObjId) (e : Entry) → map.get more o ≡ Some e → ¬ (o.owner ≡ owner)
    pub worlds : (o : ObjId) (e : Entry) (w : WorldId) → map.get more o ≡ Some e → e.object.world ≡ Some w
        → ¬ IsTrue (has_world (worlds m) w) × ¬ (w.owner ≡ owner)

  -- the table has grown from the configuration's
  pub record IsOutside (own : Table) (v : Outside) : Type 0 where
    pub view : IsTrue (m.admits v.view)
    pub further : IsFurther v.more
    pub texts : Grows own v.texts

  -- what a look may find, under a table: these objects, with further ones beside them
  pub record Finds (objects : Objects) (t : Table) (arena : Arena) : Type 0 where
    pub more : Arena
    pub further : IsFurther more
    pub is : arena ≡ beside (arena_in t objects) more

module _ {S : Type 0} (meaning : S → Meaning) where
  abbrev pub Admits : Config S → Outside → Type 0
  Admits c v = IsOutside (meaning c.heap.store) c.owner c.heap.texts v

  -- the table knows what the store's worlds hold under the view
  abbrev pub Knows : Config S → Outside → Type 0
  Knows c v = KnowsWorlds v.texts ((meaning c.heap.store).full v.view)

  abbrev pub Sees : Config S → Table → Arena → Type 0
  Sees c t arena = Finds (meaning c.heap.store) c.owner c.heap.arena t arena

-- A heap: texts, objects and a store of worlds. Each text and object is there that a present slot or its content, under the store's own view, or an object names.
use Rattle.std.specs.Prelude.{◌≡◌, List, Option, None, Some, IfSome, IsTrue}
use Rattle.std.specs.FinMap as map
use Rattle.wjs_base.specs.declared.ids.ObjId.{ObjId}
use Rattle.wjs_base.specs.declared.ids.WorldId.{WorldId}
use Rattle.wjs_base.specs.declared.values.Slot.{Slot}
use Rattle.wjs_base.specs.declared.values.Value.{Value}
use Rattle.wjs_base.specs.declared.values.Value.TheVariants as value
use Rattle.wjs_base.specs.Spelling.{IsName}
use Rattle.wjs_base.specs.Text.{Table, Has, IsTable, Grows}
use Rattle.wjs_store.specs.State.{has_world, content_at}
use Rattle.wjs_store.specs.Meaning.{Meaning, View, PlainAct, PlainReply, worlds}
use Rattle.wjs_arena.specs.declared.object.Object.{Object}
use Rattle.wjs_arena.specs.Entries.{Objects, Entry, IsArena, has}
use Rattle.wjs_by_content.specs.Renamed.{Holds}
use Rattle.wjs_by_content.specs.Plans.{Plan}
use Rattle.wjs_by_content.specs.Worlds.{KnowsWorlds, KnowsAct, KnowsReply}
use Rattle.wjs_by_content.specs.Carried.{Carries}

-- what a heap means: its texts, its objects, and what its store means
pub record Parts : Type 0 where
  pub texts : Table
  pub arena : Objects
  pub store : Meaning

module _ (texts : Table) (arena : Objects) where
  -- the text or object that a value is, if it is one, is there
  abbrev pub HasValue : Value → Type 0
  HasValue (value.Text id) = Has texts id
  HasValue (value.Object o) = IsTrue (has arena o)
  HasValue v = Unit {0}

  -- that of a content that is present
  abbrev pub HasContent : Option Value → Type 0
  HasContent None = Unit {0}
  HasContent (Some v) = HasValue v

  -- a slot's object is there, and so is its name
  pub record HasSlot (s : Slot) : Type 0 where
    pub object : IsTrue (has arena s.object)
    pub name : IsName texts s.name

  -- what an object names beside its prototype and its scope
  pub record HasNamed (x : Object) : Type 0 where
    pub primitive : HasValue x.primitive
    pub fixed : Holds (λ e. IsName texts e.0 × HasValue e.1) x.fixed
    pub flags : Holds (λ e. IsName texts e.0) x.flags

pub record IsHeap (h : Parts) : Type 0 where
  pub table : IsTable h.texts
  pub arena : IsArena h.arena
  pub objects : (o : ObjId) (e : Entry) → map.get h.arena o ≡ Some e → HasNamed h.texts h.arena e.object
  pub slots : (i : WorldId) (s : Slot) (v : Value) → content_at (worlds h.store) i s ≡ Some v → HasSlot h.texts h.arena s × HasValue h.texts h.arena v

-- the table knows each slot and value that the told actions and their answers name
abbrev pub KnowsTold : Table → Option (List (PlainAct × PlainReply)) → Type 0
KnowsTold texts told = IfSome told (λ done. Holds (λ e. KnowsAct texts e.0 × KnowsReply texts e.1) done)

-- a call did in a world what the plan asks, and gave its answer: in the contents that the table gives or any table that has grown from it, and under each view that is admitted afterwards and whose slots the table knows
pub record Performs {A : Type 0} (w : WorldId) (plan : Table → Plan A) (answer : Table → A) (old new : Parts) : Type 0 where
  pub narrows : (v : View) → IsTrue (new.store.admits v) → IsTrue (old.store.admits v)
  pub carries : (t u : Table) → Grows new.texts t → Grows t u → (v : View) → IsTrue (new.store.admits v) → KnowsWorlds u (old.store.full v) → Carries u w (plan t) (answer t) old.store new.store v
  -- where the table knows what the worlds and their marks name, it does so afterwards
  pub marks : KnowsWorlds old.texts (worlds old.store) → KnowsWorlds new.texts (worlds new.store)
  -- and where it knows the told actions, it does so afterwards
  pub told : KnowsWorlds old.texts (worlds old.store) → KnowsTold old.texts old.store.told → KnowsTold new.texts new.store.told
  -- texts keep their numbers
  pub texts : Grows old.texts new.texts
  -- objects, the store's own view and its surroundings are as before
  pub arena : new.arena ≡ old.arena
  pub own : new.store.own ≡ old.store.own
  pub around : new.store.around ≡ old.store.around
  -- worlds stay, and it is a heap still
  pub still_there : (i : WorldId) → IsTrue (has_world (worlds old.store) i) → IsTrue (has_world (worlds new.store) i)
  pub heap : IsHeap new
  -- and works as before
  pub spent : new.store.spent ≡ old.store.spent

-- Configurations whose store is no more than what it means. So one can be spoken of whose session rests, or has not begun.
use Rattle.std.specs.Prelude.{◌≡◌, ℕ, true, false, List, [], ◌∷◌, Some}
use Rattle.std.specs.Global.{Vec}
use Rattle.std.specs.FinMap as map
use Rattle.wjs_base.specs.Text.{Table}
use Rattle.wjs_store.specs.Meaning.{Meaning, Worlds}
use Rattle.wjs_store.specs.Shown.{first_of}
use Rattle.wjs_arena.specs.Entries.{Objects, joined}
use Rattle.wjs_heap.specs.declared.heap.Heap.{Heap}
use Rattle.wjs_meaning.specs.Builtins.{global_object}
use Rattle.wjs_model.specs.declared.config.Config.{Config}
use Rattle.wjs_model.specs.declared.config.State.TheVariants as states
use Rattle.wjs_model.specs.declared.loaded.LoadedProgram.{LoadedProgram as Program}
use Rattle.wjs_session.specs.declared.session.Session.{Session}
use Rattle.wjs_session.specs.Session.{holding, first_copy, session}
use Rattle.wjs_session.specs.Stores.{worlds_in}
use Rattle.wjs_session.specs.Told.{told_of}
use Rattle.wjs_session.specs.Resumed.{resumed}
use Rattle.wjs_alone.specs.Alone.{world_of}
use Rattle.wjs_tries.specs.declared.common.Common.{Common}
use Rattle.wjs_tries.specs.declared.common.Rested.{Rested}

-- what such a store means
abbrev pub itself : Meaning → Meaning
itself m = m

-- what a session means
abbrev pub session_meaning : Session → Meaning
session_meaning s = session (worlds_in s.shared) s.world (worlds_in s.inner) (told_of s.told.chain.value) s.spent

abbrev pub heap_of : {S : Type 0} → (S → Meaning) → Heap S → Heap Meaning
heap_of meaning h = record { texts = h.texts; arena = h.arena; store = meaning h.store }

-- the same configuration, of whose store only the meaning is left
abbrev pub meant : {S : Type 0} → (S → Meaning) → Config S → Config Meaning
meant meaning c = record {
  heap = heap_of meaning c.heap;
  units = c.units;
  frames = c.frames;
  global = c.global;
  world = c.world;
  owner = c.owner;
  apart = c.apart;
  pending = c.pending;
  left = c.left;
  state = c.state;
}

-- ---- tries that rest

-- a list of owners that are kept apart
abbrev pub Listed : Type 0
Listed = Vec ℕ

-- the configuration that a try would be, were it resumed with these kept apart: its own objects are beside those that are shared
abbrev pub resting : Listed → Common → Rested → Config Meaning
resting apart common rest = record {
  heap = record { texts = common.texts; arena = joined common.arena rest.objects; store = resumed (worlds_in common.shared) rest.resting };
  units = common.units;
  frames = rest.frames;
  global = global_object;
  world = world_of rest.owner;
  owner = rest.owner;
  apart = apart;
  pending = rest.pending;
  left = rest.left;
  state = states.Running;
}

-- ---- tries that have not begun

-- what a session of an owner would mean that began over these worlds: its world alone, which holds the view; its own view is what the first
-- world holds, and it has told nothing
abbrev pub beginning : Worlds → ℕ → Meaning
beginning F owner = record {
  full = λ v. holding (world_of owner) v ∷ [];
  admits = λ v. true;
  own = first_copy F;
  told = Some [];
  around = record (holding (world_of owner) map.empty) { parent = first_of F } ∷ F;
  spent = false;
}

-- a configuration of an owner over what is shared, of which nothing is due yet
pub record Opens {S : Type 0} (meaning : S → Meaning) (t : Table) (arena : Objects) (units : List Program) (F : Worlds) (owner : ℕ)
    (c : Config S) : Type 0 where
  pub texts : c.heap.texts ≡ t
  pub arena_is : c.heap.arena ≡ arena
  pub store : meaning c.heap.store ≡ beginning F owner
  pub units_are : c.units.items ≡ units
  pub frames : c.frames ≡ []
  pub global : c.global ≡ global_object
  pub world : c.world ≡ world_of owner
  pub owner_is : c.owner ≡ owner
  pub pending : c.pending.items ≡ []
  pub state : c.state ≡ states.Done

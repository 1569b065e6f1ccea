-- Marks, checks and own views by number are those by content, where a table knows what they name.
use Rattle.std.specs.Prelude.{◌≡◌, List, map as each}
use Rattle.wjs_base.specs.Text.{Table}
use Rattle.wjs_store.specs.Naming.{plain}
use Rattle.wjs_store.specs.State.{World}
use Rattle.wjs_store.specs.Meaning.{View, Worlds, PlainAct}
use Rattle.wjs_session.specs.Along.{along}
use Rattle.wjs_session.specs.Session.{passes, owned}
use Rattle.wjs_by_content.specs.Names.{content}
use Rattle.wjs_by_content.specs.Renamed.{Holds, Knows, named_world}
use Rattle.wjs_by_content.specs.Telling.{names_of}
use Rattle.wjs_by_content.specs.Worlds.{worlds_in, act_in, KnowsWorlds, KnowsAct}
use Rattle.wjs_alone.specs.Marks.{own_view, agrees}
use Rattle.wjs_alone.specs.Views.{held_in, KnowsView}

-- a world, by a table
abbrev pub world_in : Table → World plain → World content
world_in t x = named_world (names_of t) x

-- actions one after another leave the same worlds and the same marks, of which all is known
pub record AlongByContent (t : Table) (actions : List PlainAct) (G : Worlds) (x : World plain) : Type 0 where
  pub is : along (each (act_in t) actions) (worlds_in t G) (world_in t x) ≡ (worlds_in t (along actions G x).0, world_in t (along actions G x).1)
  pub worlds : KnowsWorlds t (along actions G x).0
  pub marks : Knows (names_of t) (along actions G x).1

abbrev pub MarksByContent : Type 0
MarksByContent = (t : Table) (actions : List PlainAct) (G : Worlds) (x : World plain) → KnowsWorlds t G → Knows (names_of t) x → Holds (KnowsAct t) actions → AlongByContent t actions G x

-- the check passes or doesn't
abbrev pub ChecksByContent : Type 0
ChecksByContent = (t : Table) (x : World plain) (v : View) → Knows (names_of t) x → KnowsView t v → agrees (world_in t x) (held_in t v) ≡ passes x v

-- what it takes the first world to hold is the same
abbrev pub OwnViewsByContent : Type 0
OwnViewsByContent = (t : Table) (x : World plain) (v : View) → Knows (names_of t) x → KnowsView t v → own_view (world_in t x) (held_in t v) ≡ held_in t (owned x v)

-- A session that rests, over the shared worlds as they stand.
use Rattle.std.specs.Prelude.{◌≡◌, Bool, false}
use Rattle.std.proofs.Props.{props}
use Rattle.wjs_store.specs.Meaning.{Meaning, Worlds, IsSound}
use Rattle.wjs_session.specs.declared.resting.Resting.{Resting}
use Rattle.wjs_session.specs.Stores.{worlds_in}
use Rattle.wjs_session.specs.Told.{told_of}
use Rattle.wjs_session.specs.Session.{world_at, session}
use Rattle.wjs_session.specs.Kept.{IsSession, IsSession-prop}
use Rattle.wjs_session.specs.Tells.{TellsMarks, worlds_set}
use Rattle.wjs_session.specs.Returns.{Returns}

-- it is a session on its world of them, whose marks it has told
pub record Rests (F : Worlds) (r : Resting) : Type 0 where
  pub is : IsSession F r.world (worlds_in r.inner)
  pub tells : TellsMarks (world_at F r.world) (worlds_in r.inner) (told_of r.told.chain.value)

-- what it would mean, were it resumed there
abbrev pub resumed : Worlds → Resting → Meaning
resumed F r = session F r.world (worlds_in r.inner) (told_of r.told.chain.value) false

-- it is one fact
pub rests_prop : (spent : Bool) (F : Worlds) (r : Resting) → IsProp (spent ≡ false → Rests F r)
rests_prop spent F r = hlevel (props, IsSession-prop, worlds_set)

-- where its world returns it rests too, and means the same under each view, and admits the same views
abbrev pub RestingStandsStill : Type 0
RestingStandsStill = (F F' : Worlds) (r : Resting) → Rests F r → Returns F F' r.world → Rests F' r × ((resumed F' r).full ≡ (resumed F r).full) × ((resumed F' r).admits ≡ (resumed F r).admits)

-- it would be a sound store
abbrev pub RestingIsSound : Type 0
RestingIsSound = (F : Worlds) (r : Resting) → Rests F r → IsSound (resumed F r)

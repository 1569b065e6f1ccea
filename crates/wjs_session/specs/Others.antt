-- What others leave of the shared worlds, while a session rests.
use Rattle.std.specs.Prelude.{◌≡◌, false, ◌∷◌, Option, Some}
use Rattle.std.specs.FinMap as map
use Rattle.wjs_base.specs.declared.ids.WorldId.{WorldId}
use Rattle.wjs_base.specs.declared.values.Slot.{Slot}
use Rattle.wjs_base.specs.declared.values.Value.{Value}
use Rattle.wjs_store.specs.State.{same_world, has_world, after_write}
use Rattle.wjs_store.specs.Shown.{first_of}
use Rattle.wjs_store.specs.Reached.{IsReached}
use Rattle.wjs_store.specs.Meaning.{View, Worlds}
use Rattle.wjs_store.specs.declared.store.Verdict.{Verdict}
use Rattle.wjs_layers.specs.Reset.{after_reset}
use Rattle.wjs_session.specs.Session.{holding, world_at, first_copy, full_of, around_of}
use Rattle.wjs_session.specs.Kept.{IsChild, IsSession}
use Rattle.wjs_session.specs.Returns.{Returns}
use Rattle.wjs_session.specs.Settled.{Settles}

-- what a session on the world j leaves of the shared worlds F: the first world has the same number, the other worlds are there as before, and each other child of the first world stands as it stood
pub record Leaves (F : Worlds) (j : WorldId) (F' : Worlds) : Type 0 where
  pub first : first_of F' ≡ first_of F
  pub there : (d : WorldId) → same_world d j ≡ false → has_world F' d ≡ has_world F d
  pub returns : (i : WorldId) → same_world i j ≡ false → IsChild F i → Returns F F' i

-- a session's turn, which keeps its surroundings; what the first world holds stays
abbrev pub TurnsLeaveOthers : Type 0
TurnsLeaveOthers = (F F' : Worlds) (j : WorldId) (G G' : Worlds) → IsSession F j G → IsSession F' j G' → around_of F' j ≡ around_of F j → Leaves F j F' × (first_copy F' ≡ first_copy F)

-- a session that began over F, and since then kept its surroundings; what the first world holds stays
abbrev pub BeginsLeaveOthers : Type 0
BeginsLeaveOthers = (F F' : Worlds) (j : WorldId) (G' : Worlds) → IsSession F' j G' → around_of F' j ≡ record (holding j map.empty) { parent = first_of F } ∷ F → Leaves F j F' × (first_copy F' ≡ first_copy F)

-- a session that is settled, whether it moves or not
abbrev pub EndsLeaveOthers : Type 0
EndsLeaveOthers = (F F' : Worlds) (j : WorldId) (G : Worlds) (verdict : Verdict) → IsSession F j G → Settles F j G F' verdict → Leaves F j F'

-- a session that is given up; what the first world holds stays
abbrev pub AbandonsLeaveOthers : Type 0
AbandonsLeaveOthers = (F F' : Worlds) (j : WorldId) (G : Worlds) → IsSession F j G → F' ≡ after_reset F j → Leaves F j F' × (first_copy F' ≡ first_copy F)

-- a write in the first world
abbrev pub WritesLeaveOthers : Type 0
WritesLeaveOthers = (F : Worlds) (p : WorldId) (s : Slot) (c : Option Value) → IsReached F → first_of F ≡ Some p → (i : WorldId) → IsChild F i → Returns F (after_write F p s c) i

-- a session returns to what it stands in, and over what others leave one after another
abbrev pub ReturnsCompose : Type 0
ReturnsCompose = ((F : Worlds) (i : WorldId) (G : Worlds) → IsSession F i G → Returns F F i) × ((F F' F'' : Worlds) (i : WorldId) → Returns F F' i → Returns F' F'' i → Returns F F'' i)

-- a session is on its owner's first world, whose number its own first world has: so sessions of two owners are on two worlds
abbrev pub NumbersByOwner : Type 0
NumbersByOwner = (F : Worlds) (i : WorldId) (G : Worlds) → IsSession F i G → (i.serial ≡ 0) × ((v : View) → first_of (full_of (world_at F i) G v) ≡ Some i)

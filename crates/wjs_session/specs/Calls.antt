-- What a call of a session leaves of the shared worlds and of the inner ones.
use Rattle.std.specs.Prelude.{◌≡◌, true, false, [], ◌∷◌}
use Rattle.wjs_base.specs.declared.ids.ObjId.{ObjId}
use Rattle.wjs_base.specs.declared.ids.WorldId.{WorldId}
use Rattle.wjs_base.specs.declared.values.Slot.{Slot}
use Rattle.wjs_store.specs.State.{has_world, is_touched}
use Rattle.wjs_store.specs.Meaning.{View, Worlds, PlainAct, PlainReply, Does}
use Rattle.wjs_session.specs.Session.{world_at, settled, full_of, passes, session}
use Rattle.wjs_session.specs.Kept.{IsSession}
use Rattle.wjs_session.specs.Along.{marked_by}
use Rattle.wjs_session.specs.Tells.{under}
use Rattle.wjs_session.specs.Grown.{Grows}

-- an action in the session's worlds was answered
pub record Answered (F : Worlds) (i : WorldId) (G : Worlds) (action : PlainAct) (answer : PlainReply) (F' G' : Worlds) : Type 0 where
  pub kept : IsSession F' i G'
  pub does : Does (session F i G [] false) action answer (session F' i G' ((action, answer) ∷ []) false)

-- something was brought inside, and the session's worlds stayed
pub record Brought (F : Worlds) (i : WorldId) (G F' G' : Worlds) : Type 0 where
  pub kept : IsSession F' i G'
  pub grows : Grows F i F'
  pub same : (v : View) → passes (world_at F' i) v ≡ true → full_of (world_at F' i) G' v ≡ full_of (world_at F i) G v
  -- what the shared world holds stayed
  pub holds : (world_at F' i).copy ≡ (world_at F i).copy
  pub there : (d : WorldId) → has_world G d ≡ true → has_world G' d ≡ true
  -- what was settled is settled
  pub settles : (s : Slot) → settled (world_at F i) G s ≡ true → settled (world_at F' i) G' s ≡ true

-- the session's world has the marks that an action makes, and no more
abbrev pub Marks : Worlds → WorldId → Worlds → PlainAct → Worlds → Type 0
Marks F i G action F' = (v : View) → passes (world_at F' i) v ≡ true → under (world_at F' i) v ≡ marked_by (full_of (world_at F i) G v) (under (world_at F i) v) action

-- all slots of an object are touched
abbrev pub AllTouched : Worlds → WorldId → ObjId → Type 0
AllTouched F i o = (s : Slot) → s.object ≡ o → is_touched (world_at F i) s ≡ true

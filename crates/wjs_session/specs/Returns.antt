-- A session that rests, while others use the shared store.
use Rattle.std.specs.Prelude.{◌≡◌, true, false, List}
use Rattle.std.specs.FinMap as map
use Rattle.wjs_base.specs.declared.ids.WorldId.{WorldId}
use Rattle.wjs_base.specs.declared.values.Slot.{Slot}
use Rattle.wjs_store.specs.State.{is_touched}
use Rattle.wjs_store.specs.Reached.{IsReached}
use Rattle.wjs_store.specs.Meaning.{Meaning, Worlds, PlainAct, PlainReply, unseen}
use Rattle.wjs_session.specs.Session.{world_at, full_of, passes, session}
use Rattle.wjs_session.specs.Kept.{IsChild, IsSession}

-- the world i stands in the shared worlds F' as it stood in F: its marks, and what it holds where it is touched
pub record Returns (F F' : Worlds) (i : WorldId) : Type 0 where
  pub reached : IsReached F'
  pub child : IsChild F' i
  pub marks : unseen (world_at F' i) ≡ unseen (world_at F i)
  pub holds : (s : Slot) → is_touched (world_at F i) s ≡ true → map.get (world_at F' i).copy s ≡ map.get (world_at F i).copy s

-- the session on F' means the same under each view as over all shared worlds from which it returns, and admits the same
pub record IsTheSame (F' : Worlds) (i : WorldId) (G : Worlds) (told : List (PlainAct × PlainReply)) (m : Meaning) : Type 0 where
  pub is : m ≡ session F' i G told false
  pub same : (F : Worlds) → Returns F F' i → (m.full ≡ (session F i G told false).full) × (m.admits ≡ (session F i G told false).admits)

abbrev pub RestChangesNothing : Type 0
RestChangesNothing = (F F' : Worlds) (i : WorldId) (G : Worlds) → IsSession F i G → Returns F F' i → IsSession F' i G × (full_of (world_at F' i) G ≡ full_of (world_at F i) G) × (passes (world_at F' i) ≡ passes (world_at F i))

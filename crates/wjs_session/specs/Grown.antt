-- What reads, writes and listings in a session's world leave of the shared worlds.
use Rattle.std.specs.Prelude.{◌≡◌, true}
use Rattle.wjs_base.specs.declared.ids.WorldId.{WorldId}
use Rattle.wjs_base.specs.declared.values.Slot.{Slot}
use Rattle.wjs_store.specs.State.{is_touched}
use Rattle.wjs_store.specs.Reached.{IsReached}
use Rattle.wjs_store.specs.Meaning.{View, Worlds}
use Rattle.wjs_session.specs.Session.{world_at, first_copy, passes, owned, around_of}
use Rattle.wjs_session.specs.Kept.{IsChild}

-- the marks of the world i have grown; its own view and the other worlds stayed
pub record Grows (F : Worlds) (i : WorldId) (F' : Worlds) : Type 0 where
  pub reached : IsReached F'
  pub child : IsChild F' i
  pub touches : (s : Slot) → is_touched (world_at F i) s ≡ true → is_touched (world_at F' i) s ≡ true
  pub narrows : (v : View) → passes (world_at F' i) v ≡ true → passes (world_at F i) v ≡ true
  pub own : owned (world_at F' i) (first_copy F') ≡ owned (world_at F i) (first_copy F)
  pub around : around_of F' i ≡ around_of F i

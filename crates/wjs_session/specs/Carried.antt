-- What a commit into the session's world writes in the shared store.
use Rattle.std.specs.Prelude.{◌≡◌, cond, ◌||◌}
use Rattle.std.specs.FinMap as map
use Rattle.wjs_base.specs.declared.ids.WorldId.{WorldId}
use Rattle.wjs_base.specs.declared.values.Slot.{Slot}
use Rattle.wjs_store.specs.State.{is_touched, content_at}
use Rattle.wjs_store.specs.Marked.{is_written}
use Rattle.wjs_store.specs.Meaning.{Worlds}
use Rattle.wjs_session.specs.Session.{world_at}
use Rattle.wjs_session.specs.Grown.{Grows}

-- in the world i of F, what the inner world w has written
pub record Carried (F : Worlds) (i : WorldId) (G : Worlds) (w : WorldId) (F' : Worlds) : Type 0 where
  pub grows : Grows F i F'
  pub copy : (s : Slot) → map.get (world_at F' i).copy s ≡ cond (is_written G w s) (content_at G w s) (map.get (world_at F i).copy s)
  pub touched : (s : Slot) → is_touched (world_at F' i) s ≡ (is_written G w s || is_touched (world_at F i) s)

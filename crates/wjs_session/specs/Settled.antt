-- The end of a session.
use Rattle.std.specs.Prelude.{◌≡◌, ◌↔◌, Bool, true}
use Rattle.std.specs.FinMap as map
use Rattle.wjs_base.specs.declared.ids.WorldId.{WorldId}
use Rattle.wjs_base.specs.declared.values.Slot.{Slot}
use Rattle.wjs_store.specs.State.{content_at, verdict_at, after_commit}
use Rattle.wjs_store.specs.Shown.{verdict_of}
use Rattle.wjs_store.specs.declared.store.Verdict.{Verdict}
use Rattle.wjs_store.specs.declared.store.Verdict.TheVariants.{Moved}
use Rattle.wjs_store.specs.Meaning.{Worlds}
use Rattle.wjs_session.specs.Session.{world_at, first_copy, full_of, passes, owned}

-- whether what the first world holds is a view that is admitted; where it is, it is the session's own
pub record Agrees (F : Worlds) (i : WorldId) (answer : Bool) : Type 0 where
  pub answers : answer ≡ passes (world_at F i) (first_copy F)
  pub view : answer ≡ true → owned (world_at F i) (first_copy F) ≡ first_copy F

-- the commit of the session's world is the machine's, and moves exactly where the session agrees; then the first world holds what the session's first world held
pub record Settles (F : Worlds) (i : WorldId) (G F' : Worlds) (verdict : Verdict) : Type 0 where
  pub worlds : F' ≡ after_commit F i
  pub answers : verdict_of verdict ≡ verdict_at F i
  pub moves : (verdict ≡ Moved) ↔ (passes (world_at F i) (first_copy F) ≡ true)
  pub holds : verdict ≡ Moved → (s : Slot) → map.get (first_copy F') s ≡ content_at (full_of (world_at F i) G (owned (world_at F i) (first_copy F))) i s

-- What an owner's turn leaves of what is shared, as the others see it.
use Rattle.std.specs.Prelude.{◌≡◌, ℕ, false, None, Some}
use Rattle.std.specs.FinMap as map
use Rattle.wjs_base.specs.declared.ids.ObjId.{ObjId}
use Rattle.wjs_base.specs.declared.ids.WorldId.{WorldId}
use Rattle.wjs_base.specs.Text.{Grows}
use Rattle.wjs_store.specs.State.{same_world}
use Rattle.wjs_store.specs.Shown.{first_of}
use Rattle.wjs_arena.specs.Entries.{Entry, Keeps}
use Rattle.wjs_session.specs.Kept.{IsChild}
use Rattle.wjs_session.specs.Returns.{Returns}
use Rattle.wjs_alone.specs.Alone.{world_of}
use Rattle.wjs_tries.specs.declared.common.Common.{Common}
use Rattle.wjs_session.specs.Stores.{worlds_in}

-- texts keep their numbers, objects stay, and those that are new are the owner's; each other child of the first world stands as it stood
pub record Passes (owner : ℕ) (old new : Common) : Type 0 where
  pub texts : Grows old.texts new.texts
  pub objects : Keeps old.arena new.arena
  pub made : (o : ObjId) (e : Entry) → map.get old.arena o ≡ None → map.get new.arena o ≡ Some e → o.owner ≡ owner
  pub units : new.units ≡ old.units
  pub first : first_of (worlds_in new.shared) ≡ first_of (worlds_in old.shared)
  pub returns : (i : WorldId) → same_world i (world_of owner) ≡ false → IsChild (worlds_in old.shared) i
      → Returns (worlds_in old.shared) (worlds_in new.shared) i

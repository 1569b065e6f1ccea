-- A try between its turns.
use Rattle.std.specs.Prelude.{◌≡◌, ℕ, ◌<◌, ◌≤◌, List, [], IsTrue}
use Rattle.wjs_base.specs.declared.ids.ObjId.{ObjId}
use Rattle.wjs_arena.specs.Entries.{has}
use Rattle.wjs_meaning.specs.Trees.{Tree}
use Rattle.wjs_model.specs.Soundness.{Sound}
use Rattle.wjs_session.specs.Stores.{worlds_in}
use Rattle.wjs_session.specs.Resumed.{Rests}
use Rattle.wjs_alone.specs.Alone.{world_of}
use Rattle.wjs_tries.specs.declared.common.Common.{Common}
use Rattle.wjs_tries.specs.declared.common.Rested.{Rested}
use Rattle.wjs_tries.specs.Meant.{itself, Listed, resting}
use Rattle.wjs_tries.specs.Trying.{IsTrying}

-- the objects that rest with it are its owner's, of whom none is shared
pub record Owns (common : Common) (rest : Rested) : Type 0 where
  pub owned : (o : ObjId) → IsTrue (has rest.objects o) → o.owner ≡ rest.owner
  pub absent : (o : ObjId) → IsTrue (has common.arena o) → ¬ (o.owner ≡ rest.owner)

-- its session rests over the shared worlds as they stand, and were it resumed there with none kept apart it would be sound, and its part alone
pub record IsResting (trees : List Tree) (tree budget drawn : ℕ) (common : Common) (rest : Rested) : Type 0 where
  pub stands : Rests (worlds_in common.shared) rest.resting
  pub number : rest.resting.world ≡ world_of rest.owner
  pub some : 1 ≤ rest.owner
  pub owner : rest.owner ≤ drawn
  pub left : 0 < rest.left
  pub owns : Owns common rest
  pub none : Listed
  pub none_is : none.items ≡ []
  pub sound : Sound itself (resting none common rest)
  pub taken : ℕ
  pub trying : IsTrying trees tree budget taken (resting none common rest)

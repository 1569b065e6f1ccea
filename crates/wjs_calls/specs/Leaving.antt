-- Deeds in a row, of which some are still to be done.
use Rattle.std.specs.Prelude.{Result, OnOk}
use Rattle.wjs_base.specs.declared.ids.OutOfMemory.{OutOfMemory}
use Rattle.wjs_base.specs.Text.{Table}
use Rattle.wjs_store.specs.Meaning.{Meaning}
use Rattle.wjs_meaning.specs.Deeds.{Act}
use Rattle.wjs_model.specs.declared.config.Config.{Config}
use Rattle.wjs_frames.specs.Following.{Follows}

module _ {S : Type 0} (meaning : S → Meaning) where
  -- of all deeds these are left: what is followed of them is followed of all
  pub record Leaves (all rest : Table → Act → Act) (old cur : Config S) : Type 0 where
    pub by : (act : Act) (later : Config S) (r : Result (Unit {0}) OutOfMemory) → OnOk r (Follows meaning (rest later.heap.texts act) cur later) → OnOk r (Follows meaning (all later.heap.texts act) old later)

-- Deeds of which others are left.
use Rattle.std.specs.Prelude.{Result, OnOk}
use Rattle.wjs_base.specs.declared.ids.OutOfMemory.{OutOfMemory}
use Rattle.wjs_base.specs.Text.{Table}
use Rattle.wjs_store.specs.Meaning.{Meaning}
use Rattle.wjs_meaning.specs.Deeds.{Act}
use Rattle.wjs_model.specs.declared.config.Config.{Config}
use Rattle.wjs_frames.specs.Following.{Follows}

module _ {S : Type 0} (meaning : S → Meaning) where
  -- what is followed of those that are left is followed of all
  pub record Proceeds (all rest : Table → Act) (old mid : Config S) : Type 0 where
    pub by : (later : Config S) (r : Result (Unit {0}) OutOfMemory) → OnOk r (Follows meaning (rest later.heap.texts) mid later)
        → OnOk r (Follows meaning (all later.heap.texts) old later)

-- Nested deeds: a frame waits for what is done above it.
use Rattle.std.specs.Prelude.{Result, OnOk}
use Rattle.wjs_base.specs.declared.ids.OutOfMemory.{OutOfMemory}
use Rattle.wjs_base.specs.Text.{Table}
use Rattle.wjs_store.specs.Meaning.{Meaning}
use Rattle.wjs_meaning.specs.Deeds.{Act, Completion, Sub}
use Rattle.wjs_model.specs.declared.config.Config.{Config}
use Rattle.wjs_frames.specs.Following.{Follows}

module _ {S : Type 0} (meaning : S → Meaning) where
  -- what is followed of deeds above the middle one's frames is followed of them, nested, with what comes after them, above the old one's
  pub record Nests (go : Table → Completion → Act) (old mid : Config S) : Type 0 where
    pub by : (act : Act) (later : Config S) (r : Result (Unit {0}) OutOfMemory) → OnOk r (Follows meaning act mid later)
        → OnOk r (Follows meaning (Sub act (go later.heap.texts)) old later)

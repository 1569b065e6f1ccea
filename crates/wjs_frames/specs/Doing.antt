-- Deeds that were done, before what follows them.
use Rattle.std.specs.Prelude.{Result, OnOk}
use Rattle.wjs_base.specs.declared.ids.OutOfMemory.{OutOfMemory}
use Rattle.wjs_base.specs.Text.{Table}
use Rattle.wjs_store.specs.Meaning.{Meaning}
use Rattle.wjs_by_content.specs.Values.{Value}
use Rattle.wjs_meaning.specs.Deeds.{Act, Ret, Throws}
use Rattle.wjs_model.specs.declared.config.Config.{Config}
use Rattle.wjs_frames.specs.Following.{Follows}

module _ {S : Type 0} (meaning : S → Meaning) where
  -- what is followed of what comes after their answer is followed of the deeds with what comes after them
  pub record Does {A : Type 0} (deeds : Table → (A → Act) → Act) (answer : Table → A) (old mid : Config S) : Type 0 where
    pub by : (go : A → Act) (later : Config S) (r : Result (Unit {0}) OutOfMemory) → OnOk r (Follows meaning (go (answer later.heap.texts)) mid later)
        → OnOk r (Follows meaning (deeds later.heap.texts go) old later)

  -- the deeds threw: what is followed of the throw is followed of the deeds, whatever comes after them
  pub record Fails {A : Type 0} (deeds : Table → (A → Act) → Act) (error : Table → Value) (old mid : Config S) : Type 0 where
    pub by : (go : A → Act) (later : Config S) (r : Result (Unit {0}) OutOfMemory)
        → OnOk r (Follows meaning (Ret (Throws (error later.heap.texts))) mid later) → OnOk r (Follows meaning (deeds later.heap.texts go) old later)

  -- the same of deeds that give no answer, but go on
  pub record DoesFirst (deeds : Table → Act → Act) (old mid : Config S) : Type 0 where
    pub by : (act : Act) (later : Config S) (r : Result (Unit {0}) OutOfMemory) → OnOk r (Follows meaning act mid later)
        → OnOk r (Follows meaning (deeds later.heap.texts act) old later)

  pub record FailsFirst (deeds : Table → Act → Act) (error : Table → Value) (old mid : Config S) : Type 0 where
    pub by : (act : Act) (later : Config S) (r : Result (Unit {0}) OutOfMemory) → OnOk r (Follows meaning (Ret (Throws (error later.heap.texts))) mid later)
        → OnOk r (Follows meaning (deeds later.heap.texts act) old later)

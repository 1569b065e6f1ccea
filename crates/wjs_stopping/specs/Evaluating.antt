-- What an evaluation came to: all of the deeds are done, or the rest is left in frames that stopped.
use Rattle.std.specs.Prelude.{◌≡◌, List, [], Option, None, Some, All, Result, Ok, Err, OnOk, map as each}
use Rattle.wjs_base.specs.declared.ids.OutOfMemory.{OutOfMemory}
use Rattle.wjs_base.specs.Text.{Table}
use Rattle.wjs_by_content.specs.Tables.{value_in}
use Rattle.wjs_store.specs.Meaning.{Meaning}
use Rattle.wjs_meaning.specs.Deeds.{Env, Goal, Completion, Act, Ret, Normal, Throws, Eval, Sub}
use Rattle.wjs_model.specs.declared.config.Config.{Config}
use Rattle.wjs_model.specs.declared.frame.Phase.{Phase}
use Rattle.wjs_model.specs.declared.frame.Activation.{Activation as Frame}
use Rattle.wjs_model.specs.Begun.{with_phase}
use Rattle.wjs_model.specs.Contents.{frame_in}
use Rattle.wjs_model.specs.Configurations.{run_in}
use Rattle.wjs_model.specs.Soundness.{IsStacked, HasValue}
use Rattle.wjs_frames.specs.Following.{Follows}
use Rattle.wjs_stopping.specs.declared.ends.Broken.{Broken}
use Rattle.wjs_stopping.specs.declared.ends.Broken.TheVariants as ends
use Rattle.wjs_stopping.specs.Stopping.{stopped_then}

-- all but where memory ran out
abbrev pub InMemory : {A : Type 0} → Result A Broken → Type 0 → Type 0
InMemory (Ok v) T = T
InMemory (Err (ends.Throws e)) T = T
InMemory (Err ends.Stopped) T = T
InMemory (Err ends.OutOfMemory) T = Unit {0}

-- memory didn't run out
abbrev pub HasMemory : {A : Type 0} → Result A Broken → Type 0
HasMemory (Ok v) = Unit {0}
HasMemory (Err (ends.Throws e)) = Unit {0}
HasMemory (Err ends.Stopped) = Unit {0}
HasMemory (Err ends.OutOfMemory) = ⊥

module _ {S : Type 0} (meaning : S → Meaning) where
  -- what is followed of what is left, before what comes after it, is followed of the deeds before that
  pub record Leaves (deeds rest : Table → (Completion → Act) → Act) (old mid : Config S) : Type 0 where
    pub by : (go : Completion → Act) (later : Config S) (r : Result (Unit {0}) OutOfMemory) → OnOk r (Follows meaning (rest later.heap.texts go) mid later)
        → OnOk r (Follows meaning (deeds later.heap.texts go) old later)

  -- what frames that stopped have still to do
  abbrev pub stops_in : Config S → List Frame → Frame → Table → (Completion → Act) → Act
  stops_in c waits top t go = stopped_then (run_in meaning t c) (each (frame_in t) waits) (frame_in t top) go

  abbrev pub rest_in : Config S → List Frame → Option (Frame × Phase) → Table → (Completion → Act) → Act
  rest_in c waits None t go = Ret Normal
  rest_in c waits (Some top) t go = stops_in c waits (with_phase top) t go

  -- what is left of deeds that broke off, and of deeds that came to this
  abbrev pub broken_in : Config S → Broken → List Frame → Option (Frame × Phase) → Table → (Completion → Act) → Act
  broken_in c (ends.Throws e) waits top t go = go (Throws (value_in t e))
  broken_in c ends.Stopped waits top t go = rest_in c waits top t go
  broken_in c ends.OutOfMemory waits top t go = Ret Normal

  abbrev pub outcome_in : {A : Type 0} → Config S → (Table → A → Completion) → Result A Broken → List Frame → Option (Frame × Phase) → Table → (Completion → Act) → Act
  outcome_in c said (Ok v) waits top t go = go (said t v)
  outcome_in c said (Err end) waits top t go = broken_in c end waits top t go

  -- the deeds came to this
  abbrev pub Evaluates : {A : Type 0} → (Table → (Completion → Act) → Act) → (Table → A → Completion) → Result A Broken → List Frame → Option (Frame × Phase) → Config S → Config S → Type 0
  Evaluates deeds said done waits top old new = InMemory done (Leaves deeds (outcome_in new said done waits top) old new)

  -- the deeds of a part, and then of a line with its completion
  abbrev pub part_then : Goal → (Table → Env) → (Table → Completion → Act) → Table → (Completion → Act) → Act
  part_then goal env next t go = Eval goal (env t) (λ c. Sub (next t c) go)

  -- ---- what they name is there

  -- frames that stopped could stand on the others
  abbrev pub HasStops : Config S → List Frame → Option (Frame × Phase) → Type 0
  HasStops c waits None = ⊥
  HasStops c waits (Some top) = All (IsStacked meaning c) waits × IsStacked meaning c (with_phase top)

  abbrev pub HasBroken : Config S → Broken → List Frame → Option (Frame × Phase) → Type 0
  HasBroken c (ends.Throws e) waits top = HasValue c e × (waits ≡ [])
  HasBroken c ends.Stopped waits top = HasStops c waits top
  HasBroken c ends.OutOfMemory waits top = Unit {0}

  -- none stopped where there is a value
  abbrev pub HasOutcome : {A : Type 0} → (Config S → A → Type 0) → Config S → Result A Broken → List Frame → Option (Frame × Phase) → Type 0
  HasOutcome has c (Ok v) waits top = has c v × (waits ≡ [])
  HasOutcome has c (Err end) waits top = HasBroken c end waits top

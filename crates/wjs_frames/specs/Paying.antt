-- A goal that is entered at once, with its step.
use Rattle.std.specs.Prelude.{◌≡◌, ℕ, suc, Result, OnOk}
use Rattle.wjs_base.specs.declared.ids.OutOfMemory.{OutOfMemory}
use Rattle.wjs_store.specs.Meaning.{Meaning}
use Rattle.wjs_meaning.specs.Deeds.{St, Env, Goal, Completion, Act, Eval, Sub, interp}
use Rattle.wjs_meaning.specs.Programs.{eval, entry}
use Rattle.wjs_model.specs.declared.config.Config.{Config}
use Rattle.wjs_frames.specs.Following.{Follows}

module _ {S : Type 0} (meaning : S → Meaning) where
  -- where a step is left: what is followed, with one less, of deeds that come to what the goal's entry does and what comes after it, is followed of the goal
  abbrev pub StepPaid : Type 0
  StepPaid = (goal : Goal) (env : Env) (go : Completion → Act) (act : Act) (old new : Config S) (left : ℕ) (r : Result (Unit {0}) OutOfMemory) → old.left ≡ suc left → ((st : St) (n : ℕ) → interp eval (Sub (entry goal env) go) st n ≡ interp eval act st n) → OnOk r (Follows meaning act (record old { left = left }) new) → OnOk r (Follows meaning (Eval goal env go) old new)

-- Deeds of which others are left, and deeds that were done.
use Rattle.std.specs.Prelude.{ℕ, Result, OnOk}
use Rattle.wjs_base.specs.declared.ids.OutOfMemory.{OutOfMemory}
use Rattle.wjs_base.specs.Text.{Table}
use Rattle.wjs_store.specs.Meaning.{Meaning}
use Rattle.wjs_meaning.specs.Deeds.{Env, Goal, Completion, Act, Eval, Sub}
use Rattle.wjs_model.specs.declared.config.Config.{Config}
use Rattle.wjs_model.specs.declared.frame.Activation.{Activation as Frame}
use Rattle.wjs_model.specs.declared.frame.Completion.{Completion as NumberedCompletion}
use Rattle.wjs_model.specs.Contents.{completion_in}
use Rattle.wjs_frames.specs.Doing.{Does}
use Rattle.wjs_frames.specs.Following.{Follows}
use Rattle.wjs_frames.specs.Parts.{env_in}
use Rattle.wjs_effects.specs.Effects.{Rest}

module _ {S : Type 0} (meaning : S → Meaning) where
  -- where a frame is run: what is followed of what is left, with so many steps, is followed of a goal with so many before, and all else is as it was
  pub record GoalLeaves (goal : Goal) (x : Rest) (c : Config S) (f : Frame) (before after : ℕ) : Type 0 where
    pub by : (go : Completion → Act) (later : Config S) (r : Result (Unit {0}) OutOfMemory)
        → OnOk r (Follows meaning (x later.heap.texts (env_in meaning c later.heap.texts f) go) (record c { left = after }) later)
        → OnOk r (Follows meaning (Eval goal (env_in meaning c later.heap.texts f) go) (record c { left = before }) later)

  -- and so of deeds of their own
  pub record ActLeaves (act : Table → Env → Act) (x : Rest) (c : Config S) (f : Frame) (before after : ℕ) : Type 0 where
    pub by : (go : Completion → Act) (later : Config S) (r : Result (Unit {0}) OutOfMemory)
        → OnOk r (Follows meaning (x later.heap.texts (env_in meaning c later.heap.texts f) go) (record c { left = after }) later)
        → OnOk r (Follows meaning (Sub (act later.heap.texts (env_in meaning c later.heap.texts f)) go) (record c { left = before }) later)

  -- where a frame is run: what was left, with so many steps, was done, and this is the completion
  abbrev pub Ends : Rest → NumberedCompletion → Config S → Frame → ℕ → Config S → Type 0
  Ends x e old f left new = Does meaning (λ t. x t (env_in meaning old t f)) (λ t. completion_in t e) (record old { left = left }) new

  -- and so deeds of their own, and a goal
  abbrev pub ActEnds : (Table → Env → Act) → NumberedCompletion → Config S → Frame → ℕ → Config S → Type 0
  ActEnds act = Ends (λ t env go. Sub (act t env) go)

  abbrev pub GoalEnds : Goal → NumberedCompletion → Config S → Frame → ℕ → Config S → Type 0
  GoalEnds goal = Ends (λ t env go. Eval goal env go)

-- Deeds that come to a value at once.
use Rattle.std.specs.Prelude.{ℕ}
use Rattle.wjs_base.specs.declared.values.Value.{Value}
use Rattle.wjs_base.specs.Text.{Table, Grows}
use Rattle.wjs_store.specs.Meaning.{Meaning}
use Rattle.wjs_by_content.specs.Tables.{value_in}
use Rattle.wjs_by_content.specs.Values.{Value as Content}
use Rattle.wjs_meaning.specs.Deeds.{Env, Goal, Gives, Act, Eval, Sub, give}
use Rattle.wjs_model.specs.declared.config.Config.{Config}
use Rattle.wjs_model.specs.declared.frame.Activation.{Activation as Frame}
use Rattle.wjs_frames.specs.Doing.{Does}
use Rattle.wjs_frames.specs.Parts.{env_in}
use Rattle.wjs_frames.specs.Shortening.{Shortens}

module _ {S : Type 0} (meaning : S → Meaning) where
  -- a goal, where a frame is run, gives a value, told by content: so many steps were left before, and so many after, and all else is as it was
  abbrev pub GoalYields : Goal → (Table → Content) → Config S → Frame → ℕ → ℕ → Type 0
  GoalYields goal v c f before after = Does meaning (λ t go. Eval goal (env_in meaning c t f) go) (λ t. Gives (v t)) (record c { left = before }) (record c { left = after })

  -- and so do deeds of their own
  abbrev pub Yields : (Table → Env → Act) → (Table → Content) → Config S → Frame → ℕ → ℕ → Type 0
  Yields act v c f before after = Does meaning (λ t go. Sub (act t (env_in meaning c t f)) go) (λ t. Gives (v t)) (record c { left = before }) (record c { left = after })

  -- a value that is known by number
  abbrev pub GoalComes : Goal → Value → Config S → Frame → ℕ → ℕ → Type 0
  GoalComes goal v c f before after = GoalYields goal (λ t. value_in t v) c f before after

  abbrev pub Comes : (Table → Env → Act) → Value → Config S → Frame → ℕ → ℕ → Type 0
  Comes act v c f before after = Yields act (λ t. value_in t v) c f before after

-- wherever they are run, and under every table that has grown, the deeds end with the value
abbrev pub YieldsWith : {S : Type 0} → (Table → Env → Act) → (Table → Content) → Config S → Type 0
YieldsWith act v c = (t : Table) → Grows c.heap.texts t → (env : Env) → Shortens (act t env) (give (v t))

abbrev pub EndsWith : {S : Type 0} → (Table → Env → Act) → Value → Config S → Type 0
EndsWith act v c = YieldsWith act (λ t. value_in t v) c

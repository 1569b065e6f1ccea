-- Turns one after another, up to a number of steps. What is said of what is left to do holds under whatever stands outside.
use Rattle.std.specs.Prelude.{◌≡◌, ℕ, ◌+◌, ◌<◌, ◌≤◌}
use Rattle.wjs_store.specs.Meaning.{Meaning}
use Rattle.wjs_meaning.specs.Programs.{StepsSpent}
use Rattle.wjs_model.specs.declared.config.Config.{Config}
use Rattle.wjs_model.specs.declared.config.State.TheVariants as states
use Rattle.wjs_model.specs.Configurations.{rest, state_in, Stays, RestIs, StaysKnown}
use Rattle.wjs_model.specs.Outside.{Outside}
use Rattle.wjs_model.specs.Soundness.{Sound}

-- the same, but it goes on
abbrev pub going : {S : Type 0} → Config S → Config S
going c = record c { state = states.Running }

module _ {S : Type 0} (meaning : S → Meaning) where
  -- a step is due, before which nothing is done
  abbrev pub IsDue : Config S → Type 0
  IsDue c = (v : Outside) → rest meaning c.heap.texts v c 0 ≡ (StepsSpent, state_in meaning c.heap.texts v c)

  -- why a walk of at most so many steps is over, having taken some of them
  pub data Stops (steps taken : ℕ) (old new : Config S) : Type 0 where
    -- the run has ended by itself
    ended : ¬ (new.state ≡ states.Running) → ¬ (new.state ≡ states.StepsSpent) → RestIs meaning old new (λ n. taken + n) → Stops steps taken old new
    -- it took them all, one more is due, and some are left: the run goes on with them
    paused : new.state ≡ states.Running → taken ≡ steps → 0 < new.left → IsDue new → RestIs meaning old new (λ n. taken + n) → Stops steps taken old new
    -- one more is due, and none is left: the run has ended for want of steps, and would go on so if there were some
    spent : new.state ≡ states.StepsSpent → new.left ≡ 0 → IsDue (going new) → RestIs meaning old (going new) (λ n. taken + n) → Stops steps taken old new

  -- so many steps were taken, of at most so many
  pub record Walks (steps taken : ℕ) (old new : Config S) : Type 0 where
    pub stays : Stays meaning old new
    pub sound : Sound meaning new
    pub left : old.left ≡ taken + new.left
    pub most : taken ≤ steps
    pub knows : StaysKnown meaning old new
    pub stops : Stops steps taken old new

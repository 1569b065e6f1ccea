-- Turns one after another until none can be taken, as the inner functions of a walk promise each other.
use Rattle.std.specs.Prelude.{◌≡◌, ℕ, ◌+◌, ◌<◌}
use Rattle.wjs_store.specs.Meaning.{Meaning}
use Rattle.wjs_model.specs.declared.config.Config.{Config}
use Rattle.wjs_model.specs.declared.config.State.{State}
use Rattle.wjs_model.specs.declared.config.State.TheVariants as states
use Rattle.wjs_model.specs.Configurations.{Stays, RestIs, StaysKnown, Stopped}
use Rattle.wjs_model.specs.Soundness.{Sound}
use Rattle.wjs_machine.specs.Runs.{weight}

-- the state where more steps are given: a run that ended for want of them goes on
abbrev pub again : State → State
again states.StepsSpent = states.Running
again states.Running = states.Running
again states.Done = states.Done
again (states.Threw v) = states.Threw v

module _ {S : Type 0} (meaning : S → Meaning) where
  -- so many steps were taken: with some more, what was left to do is what is left with those
  pub record Goes (taken : ℕ) (old new : Config S) : Type 0 where
    pub stays : Stays meaning old new
    pub sound : Sound meaning new
    pub left : old.left ≡ taken + new.left
    pub kept : RestIs meaning old new (λ n. taken + n)
    pub knows : StaysKnown meaning old new

  -- up to here, or up to a step that was due where none was left
  pub data Way (taken : ℕ) (old new : Config S) : Type 0 where
    goes : Goes taken old new → ¬ (new.state ≡ states.StepsSpent) → Way taken old new
    stops : (last : Config S) → Goes taken old last → last.state ≡ states.Running → Stopped meaning last new → Sound meaning new → Way taken old new

  -- some steps were taken
  pub record Went (old new : Config S) : Type 0 where
    pub taken : ℕ
    pub way : Way taken old new

  -- at least one, or the run has ended
  pub record WentToStep (old new : Config S) : Type 0 where
    pub went : Went old new
    pub less : weight new < weight old

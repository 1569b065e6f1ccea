-- What is taken off a configuration.
use Rattle.std.specs.Prelude.{◌≡◌, Option, None, Some, Result, OnOk}
use Rattle.wjs_base.specs.declared.ids.OutOfMemory.{OutOfMemory}
use Rattle.wjs_base.specs.Text.{Table}
use Rattle.wjs_store.specs.Meaning.{Meaning}
use Rattle.wjs_meaning.specs.Deeds.{Env, Act, Normal}
use Rattle.wjs_model.specs.declared.config.Config.{Config}
use Rattle.wjs_model.specs.declared.frame.Activation.{Activation as Frame}
use Rattle.wjs_model.specs.declared.frame.Phase.{Phase}
use Rattle.wjs_model.specs.declared.frame.Phase.TheVariants as phases
use Rattle.wjs_model.specs.Begun.{with_phase}
use Rattle.wjs_model.specs.Frames.{last}
use Rattle.wjs_model.specs.Contents.{completion_in, operand_in}
use Rattle.wjs_model.specs.Operands.{with_operand}
use Rattle.wjs_model.specs.Configurations.{Turned}
use Rattle.wjs_model.specs.Soundness.{HasStart, HasPoint, HasCompletion, HasOperand, Sound}
use Rattle.wjs_frames.specs.Parts.{begins_at, then_at}
use Rattle.wjs_frames.specs.Handling.{Runs, GoesOn}

module _ {S : Type 0} (meaning : S → Meaning) where
  -- a whole turn, which leaves a sound configuration
  pub record Turns (old new : Config S) : Type 0 where
    pub turned : Turned meaning old new
    pub sound : Sound meaning new

  -- the frame on top, which had this phase, is off; what follows of its line above the others is a turn of the old one
  pub record TakesOff (f : Frame) (phase : Phase) (line : Table → Env → Act) (old mid : Config S) : Type 0 where
    pub taken : last old.frames ≡ Some (with_phase (f, phase))
    pub runs : Runs meaning mid f
    pub by : (later : Config S) (r : Result (Unit {0}) OutOfMemory) → GoesOn meaning f mid later r line → OnOk r (Turns old later)

  -- and so for a frame with a phase, which says what its line is
  abbrev pub TakesPhase : Config S → Frame → Phase → Config S → Type 0
  TakesPhase old f (phases.Due start) new = TakesOff f (phases.Due start) (begins_at meaning new f start) old new × HasStart new start
  TakesPhase old f (phases.Ready start) new = TakesOff f (phases.Ready start) (begins_at meaning new f start) old new × HasStart new start
  TakesPhase old f (phases.Entering point o) new = TakesOff f (phases.Entering point o) (λ t env. with_operand (operand_in t o) env (then_at meaning new f point t env)) old new × (HasPoint new f point × HasOperand new o)
  TakesPhase old f (phases.Waiting point) new = TakesOff f (phases.Waiting point) (λ t env. then_at meaning new f point t env Normal) old new × HasPoint new f point
  TakesPhase old f (phases.Given point e) new = TakesOff f (phases.Given point e) (λ t env. then_at meaning new f point t env (completion_in t e)) old new × (HasPoint new f point × HasCompletion new e)

  -- the turn is over, or a frame is off and goes on as its phase says
  abbrev pub Takes : Config S → Option (Frame × Phase) → Config S → Type 0
  Takes old None new = Turns old new
  Takes old (Some top) new = TakesPhase old top.0 top.1 new

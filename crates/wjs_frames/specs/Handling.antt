-- What each handler of a frame asks, and what it answers.
use Rattle.std.specs.Prelude.{◌≡◌, Result, OnOk}
use Rattle.wjs_base.specs.declared.ids.OutOfMemory.{OutOfMemory}
use Rattle.wjs_base.specs.Text.{Table}
use Rattle.wjs_tree.specs.declared.node.Node.{Node}
use Rattle.wjs_store.specs.Meaning.{Meaning}
use Rattle.wjs_meaning.specs.Deeds.{Env, Act}
use Rattle.wjs_model.specs.declared.config.Config.{Config}
use Rattle.wjs_model.specs.declared.config.State.TheVariants as states
use Rattle.wjs_model.specs.declared.point.Point.{Point}
use Rattle.wjs_model.specs.declared.point.Start.{Start}
use Rattle.wjs_model.specs.declared.frame.Completion.{Completion}
use Rattle.wjs_model.specs.declared.frame.Activation.{Activation as Frame}
use Rattle.wjs_model.specs.Contents.{completion_in}
use Rattle.wjs_model.specs.Soundness.{IsThere, Base}
use Rattle.wjs_frames.specs.Parts.{env_in, node_now, begins_at, then_at}
use Rattle.wjs_frames.specs.Following.{Follows}

module _ {S : Type 0} (meaning : S → Meaning) where
  -- the run goes on, and what the configuration names is there
  pub record IsRunning (c : Config S) : Type 0 where
    pub state : c.state ≡ states.Running
    pub base : Base meaning c

  -- and what the frame names, which was taken off
  pub record Runs (c : Config S) (f : Frame) : Type 0 where
    pub running : IsRunning c
    pub there : IsThere meaning c f

  -- the frame runs this node
  abbrev pub IsAt : Config S → Frame → Node → Type 0
  IsAt c f n = node_now meaning c f ≡ n

  -- these deeds, under the new texts and where the frame is run, are what the new configuration goes on with, and it is sound; or memory ran out
  abbrev pub GoesOn : Frame → Config S → Config S → Result (Unit {0}) OutOfMemory → (Table → Env → Act) → Type 0
  GoesOn f old new result act = let t = new.heap.texts in OnOk result (Follows meaning (act t (env_in meaning old t f)) old new)

  -- it goes on with what the frame begins with
  abbrev pub Begins : Frame → Start → Config S → Config S → Result (Unit {0}) OutOfMemory → Type 0
  Begins f start old new result = GoesOn f old new result (begins_at meaning old f start)

  -- or with what the frame does at a point with a completion
  abbrev pub Resumes : Frame → Point → Completion → Config S → Config S → Result (Unit {0}) OutOfMemory → Type 0
  Resumes f point e old new result = GoesOn f old new result (λ t env. then_at meaning old f point t env (completion_in t e))

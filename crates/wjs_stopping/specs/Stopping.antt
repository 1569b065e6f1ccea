-- What frames have still to do that an evaluation left where it stopped.
use Rattle.std.specs.Prelude.{◌≡◌, ℕ, suc, ◌+◌, ◌≤◌, List, [], ◌∷◌, ◌++◌, map as each}
use Rattle.wjs_meaning.specs.Deeds.{St, Completion, Act, Ret, Eval, Sub, AtExpr, AtTarget, AtStmt, Again}
use Rattle.wjs_meaning.specs.Programs.{Done, run_next}
use Rattle.wjs_model.specs.declared.point.Start.TheVariants as starts
use Rattle.wjs_model.specs.Contents.{Frame, Moment, Due, Run, env_of}
use Rattle.wjs_base.specs.Text.{Table}
use Rattle.wjs_store.specs.Meaning.{Meaning}
use Rattle.wjs_model.specs.declared.config.Config.{Config}
use Rattle.wjs_model.specs.declared.config.State.TheVariants as states
use Rattle.wjs_model.specs.declared.frame.Activation.{Activation as NumberedFrame}
use Rattle.wjs_model.specs.Contents.{frame_in}
use Rattle.wjs_model.specs.Configurations.{run_in}
use Rattle.wjs_frames.specs.Keeping.{Keeps}
use Rattle.wjs_model.specs.Rest.{act_at, act_after, rest_over, rest_of, turns_over, turns_of}

-- what the frame on top does, and then what comes after it: one that is due at a part is the part's goal
abbrev pub top_then : Run → Frame → Moment → (Completion → Act) → Act
top_then run f (Due starts.Expr) go = Eval (AtExpr f.node) (env_of run f) go
top_then run f (Due starts.Target) go = Eval (AtTarget f.node) (env_of run f) go
top_then run f (Due starts.Stmt) go = Eval (AtStmt f.node) (env_of run f) go
top_then run f (Due starts.Again) go = Eval (Again f.node) (env_of run f) go
top_then run f moment go = Sub (act_at run f moment) go

-- frames that wait, the outermost first, below one on top: each goes on with what those behind it end with
abbrev pub stopped_then : Run → List Frame → Frame → (Completion → Act) → Act
stopped_then run [] top go = top_then run top top.moment go
stopped_then run (f ∷ fs) top go = stopped_then run fs top (λ c. Sub (act_after run f c) go)

-- ---- laws

abbrev pub FramesDoWhatStopped : Type 0
FramesDoWhatStopped = (run : Run) (below waits : List Frame) (top : Frame) (st : St) (n : ℕ)
    → rest_of run ((below ++ waits) ++ top ∷ []) st n ≡ run_next (rest_over run (stopped_then run waits top Ret) below st n) (λ st' n'. (Done, st'))

abbrev pub FramesTakeNoMoreTurns : Type 0
FramesTakeNoMoreTurns = (run : Run) (below waits : List Frame) (top : Frame) (st : St)
    → turns_of run ((below ++ waits) ++ top ∷ []) st + 1 ≤ suc (turns_over run (stopped_then run waits top Ret) below st)

-- frames that stopped, put on the others: their deeds are what the configuration goes on with
abbrev pub StoppedAreKept : {S : Type 0} → (S → Meaning) → Type 0
StoppedAreKept {S} meaning = (t : Table) (old : Config S) (waits : List NumberedFrame) (top : NumberedFrame) (frames : List NumberedFrame) → old.state ≡ states.Running
    → frames ≡ (old.frames ++ waits) ++ top ∷ [] → Keeps meaning t 1 (stopped_then (run_in meaning t old) (each (frame_in t) waits) (frame_in t top) Ret) old (record old { frames = frames })

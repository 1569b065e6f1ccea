-- What turns one after another come to, under the store's own view.
use Rattle.std.specs.Prelude.{◌≡◌, ℕ, suc, ◌<◌, List, [], length, unwrap_or}
use Rattle.wjs_store.specs.Meaning.{Meaning, worlds}
use Rattle.wjs_io.specs.Streams.{Stream, Got, GotPrefix, Stops}
use Rattle.wjs_by_content.specs.Tables.{value_in, arena_in}
use Rattle.wjs_by_content.specs.Worlds.{worlds_in, told_by}
use Rattle.wjs_meaning.specs.Deeds.{St}
use Rattle.wjs_meaning.specs.Programs.{Ending, Done, Threw, StepsSpent}
use Rattle.wjs_model.specs.declared.config.Config.{Config}
use Rattle.wjs_model.specs.declared.config.State.{State}
use Rattle.wjs_model.specs.declared.config.State.TheVariants as states
use Rattle.wjs_model.specs.Configurations.{rest, Stays, Turned}
use Rattle.wjs_model.specs.Soundness.{HasValue, Sound}
use Rattle.wjs_frames.specs.Reaching.{own_view, Falls}
use Rattle.wjs_model.specs.declared.halt.Halt.{Halt}
use Rattle.wjs_model.specs.declared.halt.Halt.TheVariants as halts
use Rattle.wjs_model.specs.declared.halt.Ending.{Ending as Outcome}
use Rattle.wjs_model.specs.declared.halt.Ending.TheVariants as outcomes
use Rattle.wjs_machine.specs.Flushing.{after_output, GoesOut}

-- how a run ended that goes on no more
abbrev pub ending_of : State → Outcome
ending_of (states.Threw v) = outcomes.Threw v
ending_of states.StepsSpent = outcomes.StepsSpent
ending_of _ = outcomes.Done

-- how many steps a run can still take, and one more while it goes on
abbrev pub weight_by : State → ℕ → ℕ
weight_by states.Running left = suc left
weight_by _ left = 0

abbrev pub weight : {S : Type 0} → Config S → ℕ
weight c = weight_by c.state c.left

module _ {S : Type 0} (meaning : S → Meaning) where
  -- what is left to do of a configuration, with the steps that are left: its output, its ending and the final state, in which the actions done are those that the store tells
  abbrev pub run_of : Config S → Ending × St
  run_of c = rest meaning c.heap.texts (own_view meaning c) c c.left

  -- all the output still to come
  abbrev pub output_of : Config S → List ℕ
  output_of c = ((run_of c).1).out

  -- a turn was taken, which holds under whatever stands outside and with each number of steps; then full pieces went out, and nothing else changed. Under the store's own view, with the steps that were left, what was left to do is what is left, after that output
  pub record Advances (s : Stream) (old new : Config S) : Type 0 where
    pub between : Config S
    pub turned : Turned meaning old between
    pub gone : List ℕ
    pub got : Got s gone
    pub out : GoesOut gone between new
    pub run : run_of old ≡ after_output gone (run_of new)
    pub falls : Falls meaning old new
    pub stays : Stays meaning old new
    pub sound : Sound meaning new
    pub few : length new.pending.items < 4096

  -- the sink failed in the midst of the output, or memory ran out before any was written
  abbrev pub Halts : Stream → Config S → Halt → Type 0
  Halts s old halts.SinkFailed = Stops s (output_of old)
  Halts s old halts.OutOfMemory = Got s []

  -- turns were taken: what was left to do is what is left, after the output that went out
  pub record Reaches (s : Stream) (old new : Config S) : Type 0 where
    pub gone : List ℕ
    pub got : Got s gone
    pub run : run_of old ≡ after_output gone (run_of new)
    pub stays : Stays meaning old new
    pub sound : Sound meaning new

  -- a step was among them, or the run has ended
  pub record ReachesStep (s : Stream) (old new : Config S) : Type 0 where
    pub reaches : Reaches s old new
    pub less : weight new < weight old

  -- the turns ended before the run did, with a front of the output written
  abbrev pub HaltsAfter : Stream → Config S → Halt → Type 0
  HaltsAfter s old halts.SinkFailed = Stops s (output_of old)
  HaltsAfter s old halts.OutOfMemory = GotPrefix s (output_of old)

  -- the run ended so, in the configuration's state, and all its output was written; the actions that the store tells now, where it tells any, are those of the run; what every turn keeps is kept
  pub record EndsAs (s : Stream) (old new : Config S) (ending : Ending) : Type 0 where
    pub got : Got s (output_of old)
    pub ends : (run_of old).0 ≡ ending
    pub worlds : ((run_of old).1).full ≡ worlds_in new.heap.texts (worlds (meaning new.heap.store))
    pub arena : ((run_of old).1).arena ≡ arena_in new.heap.texts new.heap.arena
    pub done : ((run_of old).1).done ≡ unwrap_or (told_by new.heap.texts (meaning new.heap.store).told) []
    pub stays : Stays meaning old new
    pub sound : Sound meaning new

  -- how a run ended, and what of its output was written
  abbrev pub RunsTo : Stream → Config S → Config S → Outcome → Type 0
  RunsTo s old new outcomes.Done = EndsAs s old new Done
  RunsTo s old new (outcomes.Threw v) = EndsAs s old new (Threw (value_in new.heap.texts v)) × HasValue new v
  RunsTo s old new outcomes.StepsSpent = EndsAs s old new StepsSpent
  RunsTo s old new outcomes.SinkFailed = Stops s (output_of old)
  RunsTo s old new outcomes.OutOfMemory = GotPrefix s (output_of old)

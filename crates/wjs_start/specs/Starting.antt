-- A run before its first step.
use Rattle.std.specs.Prelude.{◌≡◌, ℕ, List, [], ◌∷◌, Option, None, Some, IsTrue, is_some, unwrap_or}
use Rattle.std.specs.Option.{option_map}
use Rattle.wjs_base.specs.declared.values.Value.TheVariants as values
use Rattle.wjs_base.specs.Text.{Table, Grows}
use Rattle.wjs_base.specs.declared.ids.NodeId.{NodeId}
use Rattle.wjs_store.specs.Meaning.{Meaning, View}
use Rattle.wjs_by_content.specs.Carried.{tell}
use Rattle.wjs_by_content.specs.Worlds.{told_by}
use Rattle.wjs_store.specs.State.{first_world}
use Rattle.wjs_meaning.specs.Builtins.{global_object}
use Rattle.wjs_meaning.specs.Programs.{machine}
use Rattle.wjs_meaning.specs.Start.{start, properties}
use Rattle.wjs_model.specs.declared.config.Config.{Config}
use Rattle.wjs_model.specs.declared.config.State.TheVariants as states
use Rattle.wjs_model.specs.declared.point.Start.TheVariants as starts
use Rattle.wjs_model.specs.declared.point.CallPoint.TheVariants as call
use Rattle.wjs_model.specs.declared.point.Point.TheVariants as points
use Rattle.wjs_model.specs.declared.frame.Activation.{Activation as Frame}
use Rattle.wjs_model.specs.declared.frame.Phase.{Phase}
use Rattle.wjs_model.specs.declared.frame.Phase.TheVariants as phases
use Rattle.wjs_model.specs.declared.loaded.LoadedProgram.{LoadedProgram as Program}
use Rattle.wjs_model.specs.Outside.{alone}
use Rattle.wjs_model.specs.Configurations.{run_in, frames_in, state_in, rest, seen, after_done}
use Rattle.wjs_model.specs.Laws.{run_of, trees_of, script_names, first_frames}
use Rattle.wjs_model.specs.Units.{unit_in}
use Rattle.wjs_start.specs.First.{writes_told}

abbrev pub body_of : Program → NodeId
body_of u = u.program.body

abbrev pub frame_at : ℕ → NodeId → Phase → Frame
frame_at tree body phase = record { tree = tree; node = body; phase = phase; scope = global_object; this = values.Object global_object; world = first_world; held = [] }

-- a program begins, or waits for the one before it
abbrev pub begins : Phase
begins = phases.Due starts.Program

abbrev pub waits : Phase
waits = phases.Waiting (points.Call call.NextProgram)

-- the frames of the programs with these bodies
abbrev pub frames_of : Option NodeId → NodeId → List Frame
frames_of None script = frame_at 0 script begins ∷ []
frames_of (Some library) script = frame_at 1 script waits ∷ frame_at 0 library begins ∷ []

-- the programs of a run
abbrev pub units_of : Option Program → Program → List Program
units_of None script = script ∷ []
units_of (Some library) script = library ∷ script ∷ []

-- in the configuration's own texts, and under each view that is admitted with any later table, it is the start of the machine's run of these programs
pub record Starts {S : Type 0} (meaning : S → Meaning) (texts : Table) (before : Meaning) (library : Option Program) (script : Program) (budget : ℕ) (c : Config S) : Type 0 where
  pub left : c.left ≡ budget
  pub running : c.state ≡ states.Running
  -- it runs in the first world, and makes what owner 0 makes
  pub world : c.world ≡ first_world
  pub owner : c.owner ≡ 0
  pub units : c.units.items ≡ units_of library script
  pub run : let t = c.heap.texts in run_in meaning t c ≡ run_of (trees_of (option_map (unit_in t) library) (unit_in t script))
  pub frames : let t = c.heap.texts in frames_in meaning t c ≡ first_frames (option_map (unit_in t) library) (unit_in t script)
  -- the state is the meaning's; done are the writes of the first slots, where the store tells its actions
  pub state : let t = c.heap.texts in (u : Table) → Grows t u → (v : View) → IsTrue ((meaning c.heap.store).admits v) → state_in meaning t (alone v u) c ≡ record (start (script_names (option_map (unit_in t) library) (unit_in t script))) { done = unwrap_or (told_by u (meaning c.heap.store).told) [] }
  pub told : (u : Table) → Grows c.heap.texts u → (v : View) → IsTrue ((meaning c.heap.store).admits v) → told_by u (meaning c.heap.store).told ≡ tell (writes_told properties) (told_by u before.told)
  -- what is left is the machine's run; its actions, where the store tells them, come behind those writes
  pub run_is : let t = c.heap.texts in (u : Table) → Grows t u → (v : View) → IsTrue ((meaning c.heap.store).admits v) → (n : ℕ) → rest meaning t (alone v u) c n ≡ seen (is_some before.told) (after_done (writes_told properties) (machine (option_map (unit_in t) library) (unit_in t script) n))
  -- texts keep their numbers, and the store is as it was beside
  pub grows : Grows texts c.heap.texts
  pub narrows : (v : View) → IsTrue ((meaning c.heap.store).admits v) → IsTrue (before.admits v)
  pub own : (meaning c.heap.store).own ≡ before.own
  pub around : (meaning c.heap.store).around ≡ before.around
  pub spent : (meaning c.heap.store).spent ≡ before.spent

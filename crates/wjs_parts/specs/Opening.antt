-- A play before its first part.
use Rattle.std.specs.Prelude.{◌≡◌, ℕ, List, [], ◌∷◌, Option, None, Some, IsTrue, is_some, unwrap_or, map as each}
use Rattle.std.specs.Option.{option_map}
use Rattle.wjs_base.specs.Text.{Table, Grows}
use Rattle.wjs_store.specs.Meaning.{Meaning, View}
use Rattle.wjs_by_content.specs.Carried.{tell}
use Rattle.wjs_by_content.specs.Worlds.{told_by}
use Rattle.wjs_store.specs.State.{first_world}
use Rattle.wjs_meaning.specs.Builtins.{global_object}
use Rattle.wjs_meaning.specs.Start.{start, properties}
use Rattle.wjs_model.specs.declared.config.Config.{Config}
use Rattle.wjs_model.specs.declared.config.State.{State}
use Rattle.wjs_model.specs.declared.config.State.TheVariants as states
use Rattle.wjs_model.specs.declared.frame.Activation.{Activation as Frame}
use Rattle.wjs_model.specs.declared.loaded.LoadedProgram.{LoadedProgram as Program}
use Rattle.wjs_model.specs.Configurations.{state_in, rest, seen, after_done}
use Rattle.wjs_model.specs.Outside.{alone}
use Rattle.wjs_model.specs.Units.{unit_in}
use Rattle.wjs_start.specs.First.{writes_told}
use Rattle.wjs_start.specs.Starting.{body_of, begins, frame_at}
use Rattle.wjs_alone.specs.Opening.{part_names, opening}

-- the programs of a play
abbrev pub units_of : Option Program → List Program → List Program
units_of None parts = parts
units_of (Some library) parts = library ∷ parts

-- the library's body is due; without a library there is nothing to do
abbrev pub frames_of : Option Program → List Frame
frames_of None = []
frames_of (Some library) = frame_at 0 (body_of library) begins ∷ []

abbrev pub state_of : Option Program → State
state_of None = states.Done
state_of (Some library) = states.Running

-- under each view that is admitted, with any later table, the configuration is what there is before the first part of these programs, where a new store was as it was before
pub record StartsParts {S : Type 0} (meaning : S → Meaning) (texts : Table) (before : Meaning) (library : Option Program) (parts : List Program) (budget : ℕ) (c : Config S) : Type 0 where
  pub left : c.left ≡ budget
  pub state : c.state ≡ state_of library
  pub frames : c.frames ≡ frames_of library
  pub world : c.world ≡ first_world
  pub owner : c.owner ≡ 0
  pub global : c.global ≡ global_object
  pub apart : c.apart.items ≡ []
  pub units : c.units.items ≡ units_of library parts
  -- the state is the meaning's; done are the writes of the first slots, where the store tells its actions
  pub state_is : let t = c.heap.texts in (u : Table) → Grows t u → (v : View) → IsTrue ((meaning c.heap.store).admits v) → state_in meaning t (alone v u) c ≡ record (start (part_names (each (unit_in t) parts))) { done = unwrap_or (told_by u (meaning c.heap.store).told) [] }
  pub told : (u : Table) → Grows c.heap.texts u → (v : View) → IsTrue ((meaning c.heap.store).admits v) → told_by u (meaning c.heap.store).told ≡ tell (writes_told properties) (told_by u before.told)
  -- what is left is the library's run; its actions, where the store tells them, come behind those writes
  pub run_is : let t = c.heap.texts in (u : Table) → Grows t u → (v : View) → IsTrue ((meaning c.heap.store).admits v) → (n : ℕ) → rest meaning t (alone v u) c n ≡ seen (is_some before.told) (after_done (writes_told properties) (opening (option_map (unit_in t) library) (each (unit_in t) parts) n))
  -- texts keep their numbers, and the store is as it was beside
  pub grows : Grows texts c.heap.texts
  pub narrows : (v : View) → IsTrue ((meaning c.heap.store).admits v) → IsTrue (before.admits v)
  pub own : (meaning c.heap.store).own ≡ before.own
  pub around : (meaning c.heap.store).around ≡ before.around
  pub spent : (meaning c.heap.store).spent ≡ before.spent

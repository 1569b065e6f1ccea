-- A part is entered: its body is due in the world of a configuration that has nothing left to do.
use Rattle.std.specs.Prelude.{◌≡◌, ℕ, [], map as each}
use Rattle.wjs_base.specs.declared.values.Value.TheVariants as values
use Rattle.wjs_base.specs.Text.{Table}
use Rattle.wjs_base.specs.declared.ids.NodeId.{NodeId}
use Rattle.wjs_store.specs.Meaning.{Meaning}
use Rattle.wjs_by_content.specs.Objects.{created}
use Rattle.wjs_by_content.specs.Tables.{arena_in}
use Rattle.wjs_meaning.specs.WorldValues.{world_object_of}
use Rattle.wjs_model.specs.declared.config.Config.{Config}
use Rattle.wjs_model.specs.declared.config.State.TheVariants as states
use Rattle.wjs_model.specs.declared.point.Start.TheVariants as starts
use Rattle.wjs_model.specs.declared.frame.Activation.{Activation as Frame}
use Rattle.wjs_model.specs.declared.frame.Phase.TheVariants as phases
use Rattle.wjs_model.specs.Configurations.{rest, seen, tells, state_in, Stays}
use Rattle.wjs_model.specs.Outside.{Outside}
use Rattle.wjs_model.specs.Soundness.{Base, Sound}
use Rattle.wjs_model.specs.Standing.{IsShown}
use Rattle.wjs_model.specs.Units.{unit_in}
use Rattle.wjs_alone.specs.Alone.{part_run}

module _ {S : Type 0} (meaning : S → Meaning) where
  -- one object more is there, which stands for the configuration's world
  pub record ShowsWorld (old new : Config S) : Type 0 where
    pub same : new ≡ record old { heap = new.heap }
    pub stays : Stays meaning old new
    pub base : Base meaning new
    pub store : meaning new.heap.store ≡ meaning old.heap.store
    pub texts : new.heap.texts ≡ old.heap.texts
    pub objects : (t : Table) → arena_in t new.heap.arena ≡ created (arena_in t old.heap.arena) old.owner (world_object_of old.world)
    pub shown : IsShown new.heap.arena old.world

  -- the part of a number with so many steps: the World object was made, and nothing was done on the store. What is left to do is the run of the part's body, with whatever stands outside
  pub record Enters (part budget : ℕ) (old new : Config S) : Type 0 where
    pub stays : Stays meaning old new
    pub sound : Sound meaning new
    pub running : new.state ≡ states.Running
    pub left : new.left ≡ budget
    pub pending : new.pending.items ≡ old.pending.items
    pub store : meaning new.heap.store ≡ meaning old.heap.store
    pub texts : new.heap.texts ≡ old.heap.texts
    pub objects : (t : Table) → arena_in t new.heap.arena ≡ created (arena_in t old.heap.arena) old.owner (world_object_of old.world)
    pub run : (t : Table) (v : Outside) (n : ℕ) → rest meaning t v new n ≡ seen (tells meaning new) (part_run (each (unit_in t) new.units.items) part new.world new.global new.owner (state_in meaning t v new) n)

-- the frame of a program's body, with its step due, in the configuration's world and on its global object
abbrev pub body_frame : {S : Type 0} → Config S → ℕ → NodeId → Frame
body_frame c tree body = record { tree = tree; node = body; phase = phases.Due starts.Program; scope = c.global; this = values.Object c.global; world = c.world; held = [] }

-- A try: what it has done and what it has still to do are its part alone, from whatever the first world may hold that is admitted.
use Rattle.std.specs.Prelude.{◌≡◌, ℕ, ◌+◌, List, map as each}
use Rattle.wjs_by_content.specs.Tables.{value_in, arena_in}
use Rattle.wjs_meaning.specs.Builtins.{global_object}
use Rattle.wjs_meaning.specs.Trees.{Tree}
use Rattle.wjs_meaning.specs.Programs.{Ending, Done, Threw, StepsSpent}
use Rattle.wjs_store.specs.Meaning.{Meaning}
use Rattle.wjs_base.specs.Text.{Table}
use Rattle.wjs_model.specs.declared.config.Config.{Config}
use Rattle.wjs_model.specs.declared.config.State.{State}
use Rattle.wjs_model.specs.declared.config.State.TheVariants as states
use Rattle.wjs_model.specs.Outside.{Outside, Admits, Knows, beside}
use Rattle.wjs_model.specs.Configurations.{rest}
use Rattle.wjs_model.specs.Units.{unit_in}
use Rattle.wjs_alone.specs.Alone.{world_of, alone}
use Rattle.wjs_tries.specs.Meant.{itself}
use Rattle.wjs_tries.specs.Views.{held_in, KnowsView}

-- by the trees of the play, and the number of the part's
module _ (trees : List Tree) (tree : ℕ) where
  -- after so many steps, with some more: the part alone, in the world of the configuration's owner, from what a view holds that is admitted
  -- still, and with the objects that are there and further ones
  abbrev pub GoesAlone : ℕ → Config Meaning → Type 0
  GoesAlone taken c = (v : Outside) → Admits itself c v → KnowsView v.texts v.view → (n : ℕ)
      → alone trees tree c.owner (held_in v.texts v.view) (beside (arena_in c.heap.texts c.heap.arena) v.more) (taken + n) ≡ rest itself c.heap.texts v c n

  -- a table that knows the view knows the worlds under it
  abbrev pub KnowsAll : Config Meaning → Type 0
  KnowsAll c = (v : Outside) → Admits itself c v → KnowsView v.texts v.view → Knows itself c v

  -- a configuration of a try, which has taken so many steps of its budget
  pub record IsTrying (budget taken : ℕ) (c : Config Meaning) : Type 0 where
    pub budget_is : taken + c.left ≡ budget
    pub trees_are : each (unit_in c.heap.texts) c.units.items ≡ trees
    pub global : c.global ≡ global_object
    pub world : c.world ≡ world_of c.owner
    pub knows : KnowsAll c
    pub alone : GoesAlone taken c

-- how a configuration has ended
abbrev pub ending_in : Table → State → Ending
ending_in t (states.Threw v) = Threw (value_in t v)
ending_in t states.StepsSpent = StepsSpent
ending_in t states.Done = Done
ending_in t states.Running = Done

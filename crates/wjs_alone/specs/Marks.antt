-- The marks of a part's world under a first one, by the actions of its run alone.
use Rattle.std.specs.Prelude.{ℕ, Bool, false, List, [], ◌∷◌, map as each, is_none}
use Rattle.wjs_store.specs.State.{World, fault_in, child_of, first_world}
use Rattle.wjs_session.specs.Along.{along, own_of}
use Rattle.wjs_by_content.specs.Names.{content}
use Rattle.wjs_by_content.specs.Plans.{Told}
use Rattle.wjs_alone.specs.Alone.{Copy, world_of, holding}

-- the owner's world under a first world that holds this, without marks
abbrev pub child : ℕ → Copy → World content
child owner copy = child_of (holding first_world copy) (world_of owner) false

-- and after the actions of its run from there
abbrev pub marked : ℕ → Copy → List Told → World content
marked owner copy done = (along (each (λ e. e.0) done) (holding (world_of owner) copy ∷ []) (child owner copy)).1

-- what it takes the first world to hold, where that holds this: its recorded reads as they were read, and no slot of a listed object that it has neither read nor written
abbrev pub own_view : World content → Copy → Copy
own_view x copy = own_of x copy

-- whether the check of a commit into a first world that holds this passes
abbrev pub agrees : World content → Copy → Bool
agrees x copy = is_none (fault_in x (holding first_world copy))

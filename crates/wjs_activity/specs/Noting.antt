-- What is noted of a turn.
use Rattle.std.specs.Prelude.{◌≡◌, ℕ, ◌+◌, false, true, List, [], ◌∷◌, ◌++◌, set, All, Option, None, Some, slice_get}
use Rattle.wjs_activity.specs.declared.activities.Activity.{Activity}
use Rattle.wjs_tries.specs.declared.common.Rested.{Rested}
use Rattle.wjs_activity.specs.declared.ends.Ended.{Ended}
use Rattle.wjs_tries.specs.declared.turns.Came.{Came}
use Rattle.wjs_tries.specs.declared.turns.Came.TheVariants as came

-- no try has begun
abbrev pub AllNew : List Activity → Type 0
AllNew list = All (λ a. a ≡ record { dropped = 0; running = None; ended = false }) list

-- a try that rests is kept, a dropped one is counted, and an end is put last, with what it prints
abbrev pub Notes : ℕ → ℕ → Came → Activity → List Ended → Activity → List Ended → List ℕ → Type 0
Notes number owner (came.Rests rest) old ends new ends' output = (new ≡ record old { running = Some rest }) × (ends' ≡ ends) × (output ≡ [])
Notes number owner came.Drops old ends new ends' output = (new ≡ record old { dropped = old.dropped + 1 }) × (ends' ≡ ends) × (output ≡ [])
Notes number owner (came.Ends outcome out) old ends new ends' output = (new ≡ record old { ended = true })
    × (ends' ≡ ends ++ record { activity = number; owner = owner; outcome = outcome; tries = old.dropped + 1 } ∷ []) × (output ≡ out.items)

-- the try that rests was taken out of the activity at a place
pub record Takes (place : ℕ) (old new : List Activity) (running : Option Rested) : Type 0 where
  pub was : Activity
  pub there : slice_get old place ≡ Some was
  pub is : new ≡ set old place (record was { running = None })
  pub value : running ≡ was.running

-- what a turn came to is noted of the activity at a place; activities count from 1
pub record NotesAt (place owner : ℕ) (came : Came) (old : List Activity) (ends : List Ended) (new : List Activity) (ends' : List Ended)
    (output : List ℕ) : Type 0 where
  pub was : Activity
  pub there : slice_get old place ≡ Some was
  pub now : Activity
  pub is : new ≡ set old place now
  pub notes : Notes (place + 1) owner came was ends now ends' output

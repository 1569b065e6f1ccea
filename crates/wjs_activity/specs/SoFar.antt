-- A play between turns: the ends so far stand in serial order, and each activity that has not ended rests, or will begin anew.
use Rattle.std.specs.Prelude.{◌≡◌, ℕ, ◌+◌, ◌≤◌, ◌==◌, Bool, true, false, List, [], ◌∷◌, length, map as each, count_by, All, Option, None, Some, IfSome}
use Rattle.std.specs.Prelude.{slice_get}
use Rattle.wjs_by_content.specs.Objects.{Arena}
use Rattle.wjs_by_content.specs.Tables.{arena_in}
use Rattle.wjs_meaning.specs.Trees.{Tree}
use Rattle.wjs_model.specs.Units.{unit_in}
use Rattle.wjs_session.specs.Stores.{worlds_in}
use Rattle.wjs_alone.specs.Alone.{Copy, copy_after, objects_after}
use Rattle.wjs_alone.specs.Opening.{trees_of, tree_number}
use Rattle.wjs_alone.specs.Serial.{Run, End, runs_of, outcomes_of, Holds, run_at, outcomes_by, copy_by, ObjectsGrow}
use Rattle.wjs_activity.specs.Unnamed.{NamesNone}
use Rattle.wjs_tries.specs.declared.common.Rested.{Rested}
use Rattle.wjs_activity.specs.declared.ends.Ended.{Ended}
use Rattle.wjs_activity.specs.declared.activities.Activity.{Activity}
use Rattle.wjs_activity.specs.declared.activities.Play.{Play}
use Rattle.wjs_tries.specs.Common.{IsCommon}
use Rattle.wjs_activity.specs.Listing.{KeepsApart}
use Rattle.wjs_tries.specs.Resting.{IsResting}
use Rattle.wjs_tries.specs.Turning.{Tells, first_in}

-- an end is told as it is
pub record TellsEnd (told : Ended) (e : End) : Type 0 where
  pub activity : told.activity ≡ e.run.activity
  pub owner : told.owner ≡ e.run.owner
  pub tries : told.tries ≡ e.tries
  pub outcome : Tells told.outcome e.outcome

-- all are, in their order
abbrev pub TellsEnds : List Ended → List End → Type 0
TellsEnds [] [] = Unit {0}
TellsEnds (x ∷ xs) (e ∷ es) = TellsEnd x e × TellsEnds xs es
TellsEnds _ _ = ⊥

-- how often an activity has ended, and an owner's try was an activity's last
abbrev pub times_ended : ℕ → List End → ℕ
times_ended activity ends = count_by (λ e. e.run.activity == activity) ends

abbrev pub times_owned : ℕ → List End → ℕ
times_owned owner ends = count_by (λ e. e.run.owner == owner) ends

-- by the library's tree, the parts' and the budget of each try
module _ (library : Option Tree) (parts : List Tree) (budget : ℕ) where
  -- what the last of some runs left that begin with a copy and some objects: before the first these
  abbrev pub left_by : Copy → Arena → List Run → Arena
  left_by m a [] = a
  left_by m a (r ∷ rs) = left_by (copy_after r.owner m (run_at library parts budget m r)) (objects_after r.objects (run_at library parts budget m r)) rs

-- two tries that rest are of two owners
abbrev pub Differ : Play → Type 0
Differ p = (i j : ℕ) (a b : Activity) (r s : Rested) → slice_get p.activities.items i ≡ Some a → slice_get p.activities.items j ≡ Some b → a.running ≡ Some r
    → b.running ≡ Some s → r.owner ≡ s.owner → i ≡ j

-- by the library's tree, the parts' and the budget of each try, what the first world held and the objects that were there before the first turn
module _ (library : Option Tree) (parts : List Tree) (budget : ℕ) (copy : Copy) (arena : Arena) where
  -- the ends so far, where the first world holds this now and these objects are there
  pub record SoFar (now : Copy) (objects : Arena) (ends : List End) : Type 0 where
    pub grow : ObjectsGrow library parts budget copy arena (runs_of ends)
    pub left : Holds (left_by library parts budget copy arena (runs_of ends)) objects
    pub outcomes : outcomes_of ends ≡ outcomes_by library parts budget copy (runs_of ends)
    pub holds : copy_by library parts budget copy (runs_of ends) ≡ now
    pub tries : All (λ e. (1 ≤ e.tries) × (e.tries ≤ 4)) ends
    pub once : (k : ℕ) → times_ended k ends ≤ 1
    pub owners : (q : ℕ) → times_owned q ends ≤ 1
    pub none_first : times_owned 0 ends ≡ 0
    pub numbers : All (λ e. (1 ≤ e.run.activity) × (e.run.activity ≤ length parts)) ends

  -- an activity that goes on: it has not ended, and a try of it that rests is its part alone, of an owner that no end has
  pub record GoesOn (p : Play) (ends : List End) (activity : ℕ) (a : Activity) : Type 0 where
    pub none : times_ended activity ends ≡ 0
    pub few : a.dropped ≤ 3
    pub rests : IfSome a.running (λ r. IsResting (trees_of library parts) (tree_number library activity) budget p.drawn p.common r
        × (times_owned r.owner ends ≡ 0))

  abbrev pub StandsBy : Bool → Play → List End → ℕ → Activity → Type 0
  StandsBy true p ends activity a = (times_ended activity ends ≡ 1) × (a.running ≡ None)
  StandsBy false p ends activity a = GoesOn p ends activity a

  pub record IsPlay (p : Play) (ends : List End) : Type 0 where
    pub common : IsCommon p.common.texts p.common.arena p.common.units.items (worlds_in p.common.shared) p.drawn
    pub works : p.common.shared.spent ≡ false
    pub trees_are : each (unit_in p.common.texts) p.common.units.items ≡ trees_of library parts
    pub count : length p.activities.items ≡ length parts
    pub few : length parts ≤ 1000
    pub activities : (i : ℕ) (a : Activity) → slice_get p.activities.items i ≡ Some a → StandsBy a.ended p ends (i + 1) a
    pub differ : Differ p
    pub told : TellsEnds p.ends ends
    -- owners of ends were drawn
    pub drawn : All (λ e. e.run.owner ≤ p.drawn) ends
    pub so_far : SoFar (first_in p.common) (arena_in p.common.texts p.common.arena) ends
    -- tries that rest are kept apart, and were where one has ended
    pub apart : KeepsApart p
    pub named : NamesNone library parts budget copy (runs_of ends)

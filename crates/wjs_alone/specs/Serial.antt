-- Ends one after another: each part is run alone from what the ends before it left.
use Rattle.std.specs.Prelude.{◌≡◌, ℕ, zero, suc, ◌+◌, ◌≤◌, ◌==◌, cond, List, [], ◌∷◌, ◌++◌, map as each, All, count_by, length, codes, Option, None, Some}
use Rattle.std.specs.Fmt.{decimal}
use Rattle.std.specs.FinMap as map
use Rattle.wjs_base.specs.declared.ids.ObjId.{ObjId}
use Rattle.wjs_base.specs.declared.ids.WorldId.{WorldId}
use Rattle.wjs_base.specs.Unicode.{utf8_of}
use Rattle.wjs_by_content.specs.Objects.{Arena, Entry}
use Rattle.wjs_store.specs.State.{first_world}
use Rattle.wjs_meaning.specs.Trees.{Tree}
use Rattle.wjs_meaning.specs.Deeds.{St}
use Rattle.wjs_meaning.specs.Programs.{Ending}
use Rattle.wjs_alone.specs.Alone.{Copy, copy_in, alone, Outcome, Committed, Threw, Spent, outcome_of, copy_after, objects_after, printed}
use Rattle.wjs_alone.specs.Opening.{trees_of, tree_number, opening}

-- the run that an activity ended with: whose it was, and the objects of the play behind its end
pub record Run : Type 0 where
  pub activity : ℕ
  pub owner : ℕ
  pub objects : Arena

-- how it ended, and the number of its tries
pub record End : Type 0 where
  pub run : Run
  pub outcome : Outcome
  pub tries : ℕ

abbrev pub runs_of : List End → List Run
runs_of ends = each (λ e. e.run) ends

abbrev pub outcomes_of : List End → List Outcome
outcomes_of ends = each (λ e. e.outcome) ends

abbrev pub tries_of : List End → List ℕ
tries_of ends = each (λ e. e.tries) ends

-- ---- the bytes

abbrev pub outcome_text : Outcome → List ℕ
outcome_text Committed = codes " committed"
outcome_text (Threw text) = codes " threw " ++ utf8_of text
outcome_text Spent = codes " spent"

abbrev pub line_of : End → List ℕ
line_of e = codes "activity " ++ decimal e.run.activity ++ outcome_text e.outcome ++ codes " tries " ++ decimal e.tries ++ 10 ∷ []

-- the line of an activity
abbrev pub line_at : List End → ℕ → List ℕ
line_at [] activity = []
line_at (e ∷ ends) activity = cond (e.run.activity == activity) (line_of e) (line_at ends activity)

-- the lines of so many activities, from one on
abbrev pub lines_from : ℕ → ℕ → List End → List ℕ
lines_from zero activity ends = []
lines_from (suc more) activity ends = line_at ends activity ++ lines_from more (activity + 1) ends

-- ---- one after another

-- each object of the first is there in the second as it was
abbrev pub Holds : Arena → Arena → Type 0
Holds old new = (o : ObjId) (e : Entry) → map.get old o ≡ Some e → map.get new o ≡ Some e

-- the world that an object stands for has the object's owner
abbrev pub WorldsOwn : Arena → Type 0
WorldsOwn arena = (o : ObjId) (e : Entry) (w : WorldId) → map.get arena o ≡ Some e → e.object.world ≡ Some w → w.owner ≡ o.owner

-- so it is with the objects of the second that aren't in the first
abbrev pub NewOwn : Arena → Arena → Type 0
NewOwn old new = (o : ObjId) (e : Entry) (w : WorldId) → map.get old o ≡ None → map.get new o ≡ Some e → e.object.world ≡ Some w → w.owner ≡ o.owner

-- by the library's tree, the parts' and the budget of each
module _ (library : Option Tree) (parts : List Tree) (budget : ℕ) where
  -- the activity's part alone, from what the first world holds
  abbrev pub run_at : Copy → Run → Ending × St
  run_at copy r = alone (trees_of library parts) (tree_number library r.activity) r.owner copy r.objects budget

  -- what the runs come to, what they print, and what the first world holds at last
  abbrev pub outcomes_by : Copy → List Run → List Outcome
  outcomes_by copy [] = []
  outcomes_by copy (r ∷ rs) = outcome_of r.owner (run_at copy r) ∷ outcomes_by (copy_after r.owner copy (run_at copy r)) rs

  abbrev pub printed_by : Copy → List Run → List ℕ
  printed_by copy [] = []
  printed_by copy (r ∷ rs) = printed (run_at copy r) ++ printed_by (copy_after r.owner copy (run_at copy r)) rs

  abbrev pub copy_by : Copy → List Run → Copy
  copy_by copy [] = copy
  copy_by copy (r ∷ rs) = copy_by (copy_after r.owner copy (run_at copy r)) rs

  -- the objects of each run hold those that were there, and those that the run before it left where that is committed; none that comes beside them stands for the world of another owner
  abbrev pub ObjectsGrow : Copy → Arena → List Run → Type 0
  ObjectsGrow copy arena [] = Unit {0}
  ObjectsGrow copy arena (r ∷ rs) = Holds arena r.objects × NewOwn arena r.objects × ObjectsGrow (copy_after r.owner copy (run_at copy r)) (objects_after r.objects (run_at copy r)) rs

  -- from what the first world held and the objects that were there: the ends are those of the parts, each run alone in this order
  pub record IsSerial (copy : Copy) (arena : Arena) (ends : List End) : Type 0 where
    -- each activity has one end, and there is no other
    pub each_once : (k : ℕ) → 1 ≤ k → k ≤ length parts → count_by (λ e. e.run.activity == k) ends ≡ 1
    pub no_other : All (λ e. (1 ≤ e.run.activity) × (e.run.activity ≤ length parts)) ends
    -- their owners differ, and none is 0, the library's
    pub owners : (q : ℕ) → count_by (λ e. e.run.owner == q) ends ≤ cond (q == 0) 0 1
    pub tries : All (λ e. (1 ≤ e.tries) × (e.tries ≤ 4)) ends
    pub objects : ObjectsGrow copy arena (runs_of ends)
    pub outcomes : outcomes_of ends ≡ outcomes_by copy (runs_of ends)

  -- what is due then: the output of those that are committed, and a line for each activity, ascending
  abbrev pub out_of : Copy → List End → List ℕ
  out_of copy ends = printed_by copy (runs_of ends) ++ lines_from (length parts) 1 ends

  -- ---- behind the library

  -- what its end leaves in the first world, and the objects that are there then
  abbrev pub first_held : Copy
  first_held = copy_in ((opening library parts budget).1).full first_world

  abbrev pub first_objects : Arena
  first_objects = ((opening library parts budget).1).arena

  -- ends in serial order from there, and what is due for them
  abbrev pub Serial : List End → Type 0
  Serial ends = IsSerial first_held first_objects ends

  abbrev pub due : List End → List ℕ
  due ends = out_of first_held ends

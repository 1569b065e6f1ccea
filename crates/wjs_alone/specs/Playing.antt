-- A play: parts that run by turns, each try in a world of its own under one first world.
use Rattle.std.specs.Prelude.{ℕ, zero, suc, ◌+◌, ◌*◌, min, max, ◌==◌, nat_lt, Bool, true, false, not, cond, List, [], ◌∷◌, ◌++◌, map as each, filter, fold, length, Option, None, Some, unwrap_or}
use Rattle.std.specs.Option.{option_map_or}
use Rattle.wjs_store.specs.State.{World, first_world}
use Rattle.wjs_by_content.specs.Names.{content}
use Rattle.wjs_by_content.specs.Objects.{Arena}
use Rattle.wjs_meaning.specs.Trees.{Tree}
use Rattle.wjs_meaning.specs.Deeds.{St}
use Rattle.wjs_meaning.specs.Programs.{Ending, Done, Threw as ThrewValue, StepsSpent}
use Rattle.wjs_alone.specs.Alone.{Copy, copy_in, alone, outcome_of, copy_after, objects_after, printed}
use Rattle.wjs_alone.specs.Opening.{trees_of, tree_number, opening}
use Rattle.wjs_alone.specs.Serial.{End, lines_from}
use Rattle.wjs_alone.specs.Marks.{child, marked, own_view, agrees}

-- a try that runs: its owner, the steps that it has taken, and its world under the first one
pub record Try : Type 0 where
  pub owner : ℕ
  pub taken : ℕ
  pub outer : World content

-- an activity that has not ended: how many of its tries were dropped, and the one that runs
pub record Activity : Type 0 where
  pub number : ℕ
  pub dropped : ℕ
  pub running : Option Try

-- what the first world holds, the objects that what was committed left, how many owners were drawn, the activities that have not ended, the ends so far in their order, and what was printed
pub record Play : Type 0 where
  pub copy : Copy
  pub objects : Arena
  pub owners : ℕ
  pub activities : List Activity
  pub ends : List End
  pub out : List ℕ

-- a turn of an activity, of so many steps
pub record PlayTurn : Type 0 where
  pub activity : ℕ
  pub steps : ℕ

-- ---- activities by number

abbrev pub activity_in : List Activity → ℕ → Option Activity
activity_in [] k = None
activity_in (a ∷ more) k = cond (a.number == k) (Some a) (activity_in more k)

-- it goes on so
abbrev pub goes_on : Activity → Play → Play
goes_on a s = record s { activities = each (λ b. cond (b.number == a.number) a b) s.activities }

abbrev pub end_of : Activity → ℕ → Arena → Ending × St → End
end_of a owner objects r = record { run = record { activity = a.number; owner = owner; objects = objects_after objects r }; outcome = outcome_of owner r; tries = a.dropped + 1 }

-- it has ended with this run: what is committed is in the first world from now on, and its objects are there
abbrev pub ends_with : Activity → ℕ → Ending × St → Play → Play
ends_with a owner r s = record s {
  copy = copy_after owner s.copy r;
  objects = objects_after s.objects r;
  activities = filter (λ b. not (b.number == a.number)) s.activities;
  ends = s.ends ++ end_of a owner s.objects r ∷ [];
  out = s.out ++ printed r;
}

-- a try of an owner, which has done nothing
abbrev pub new_try : ℕ → Copy → Try
new_try owner copy = record { owner = owner; taken = 0; outer = child owner copy }

-- the try that runs, or a new one of the next owner
abbrev pub try_of : Activity → Play → Try
try_of a s = unwrap_or a.running (new_try (s.owners + 1) s.copy)

-- it rests, having taken so many steps
abbrev pub rests_with : Activity → ℕ → ℕ → World content → Activity
rests_with a owner taken outer = record a { running = Some (record { owner = owner; taken = taken; outer = outer }) }

-- its try is dropped
abbrev pub drops : Activity → Activity
drops a = record a { dropped = a.dropped + 1; running = None }

abbrev pub turn_for : ℕ → Activity → PlayTurn
turn_for steps a = record { activity = a.number; steps = steps }

-- the activities of parts, the first of them having this number
abbrev pub activities_from : ℕ → List Tree → List Activity
activities_from k [] = []
activities_from k (part ∷ parts) = record { number = k; dropped = 0; running = None } ∷ activities_from (k + 1) parts

-- by the library's tree, the parts' and the budget of each try
module _ (library : Option Tree) (parts : List Tree) (budget : ℕ) where
  -- ---- a turn

  -- so many steps of a run were not enough, and there are more
  abbrev pub is_resting : ℕ → Ending → Bool
  is_resting taken StepsSpent = nat_lt taken budget
  is_resting taken Done = false
  is_resting taken (ThrewValue v) = false

  -- what follows a turn of a try of activity a, after which it has taken so many steps and done this run, with these marks of its world: it rests, or its reads hold and it ends, or it is dropped
  abbrev pub after_turn : (Activity → Play → Play) → Activity → ℕ → ℕ → Ending × St → World content → Play → Play
  after_turn dropped a owner taken r outer s = elim (is_resting taken r.0) [
    | true ↦ goes_on (rests_with a owner taken outer) s
    | false ↦ elim (agrees outer s.copy) [
      | true ↦ ends_with a owner r s
      | false ↦ dropped (drops a) s
    ]
  ]

  -- the run of a turn is that of the part alone, from what the try takes the first world to hold and with the play's objects; its marks are those of the run's actions. What it makes is the try's own until it is committed
  abbrev pub turn_by_run : (Activity → Play → Play) → Activity → ℕ → ℕ → Copy → Ending × St → Play → Play
  turn_by_run dropped a owner taken copy r s = after_turn dropped a owner taken r (marked owner copy (r.1).done) (record s { owners = max s.owners owner })

  abbrev pub turn_from : (Activity → Play → Play) → Activity → ℕ → ℕ → Copy → Play → Play
  turn_from dropped a owner taken copy s = turn_by_run dropped a owner taken copy (alone (trees_of library parts) (tree_number library a.number) owner copy s.objects taken) s

  -- a turn of at most so many steps of an activity's try
  abbrev pub turn_of_try : (Activity → Play → Play) → ℕ → Activity → Try → Play → Play
  turn_of_try dropped steps a t s = turn_from dropped a t.owner (min budget (t.taken + steps)) (own_view t.outer s.copy) s

  -- behind the third dropped try the next one begins at once, and goes on to its end
  abbrev pub next_try : Activity → Play → Play
  next_try a s = elim (a.dropped == 3) [ true ↦ turn_of_try goes_on budget a (try_of a s) s | false ↦ goes_on a s ]

  -- an activity that has ended, or a number of none, takes no turn
  abbrev pub turn : Play → PlayTurn → Play
  turn s t = option_map_or (λ a. turn_of_try next_try t.steps a (try_of a s) s) (activity_in s.activities t.activity) s

  -- ---- all turns

  -- a turn of so many steps for each activity that has not ended, ascending
  abbrev pub round : ℕ → Play → Play
  round steps s = fold turn s (each (turn_for steps) s.activities)

  -- rounds until all have ended, at most so many
  abbrev pub rounds : ℕ → ℕ → Play → Play
  rounds zero steps s = s
  rounds (suc more) steps s = elim (length s.activities == 0) [ true ↦ s | false ↦ rounds more steps (round steps s) ]

  -- behind the library, whose throw counts as its end and whose output is none
  abbrev pub opened : St → Play
  opened st = record { copy = copy_in st.full first_world; objects = st.arena; owners = 0; activities = activities_from 1 parts; ends = []; out = [] }

  -- the turns of the schedule come first. Where each turn has a step at least, three tries of an activity take at most three times as many turns as the budget
  -- has steps, and the fourth is over at once
  abbrev pub played : List PlayTurn → ℕ → St → Play
  played schedule steps st = rounds (3 * budget + 1) steps (fold turn (opened st) schedule)

  -- none where the library needs more steps than there are
  abbrev pub play_behind : List PlayTurn → ℕ → Ending → St → Option Play
  play_behind schedule steps StepsSpent st = None
  play_behind schedule steps Done st = Some (played schedule steps st)
  play_behind schedule steps (ThrewValue v) st = Some (played schedule steps st)

  abbrev pub play_of : List PlayTurn → ℕ → Ending × St → Option Play
  play_of schedule steps r = play_behind schedule steps r.0 r.1

  -- the play of a schedule, with so many steps a turn behind it
  abbrev pub play : List PlayTurn → ℕ → Option Play
  play schedule steps = play_of schedule steps (opening library parts budget)

  -- its bytes: what was printed, and a line for each activity
  abbrev pub bytes_of : Play → List ℕ
  bytes_of s = s.out ++ lines_from (length parts) 1 s.ends

-- A part of a play alone: what its body does in one world, from what that world holds and the objects that are there.
use Rattle.std.specs.Prelude.{ℕ, ◌==◌, false, not, List, [], ◌∷◌, None}
use Rattle.std.specs.Option.{option_map_or}
use Rattle.std.specs.FinMap as map
use Rattle.std.specs.FinMap.{FinMap}
use Rattle.wjs_base.specs.declared.ids.ObjId.{ObjId}
use Rattle.wjs_base.specs.declared.ids.WorldId.{WorldId}
use Rattle.wjs_store.specs.State.{World, State, find_world}
use Rattle.wjs_by_content.specs.Values.{Text, Value}
use Rattle.wjs_by_content.specs.Names.{slot_cmp, content}
use Rattle.wjs_by_content.specs.Objects.{Arena, created}
use Rattle.wjs_meaning.specs.Builtins.{global_object}
use Rattle.wjs_meaning.specs.Trees.{Tree}
use Rattle.wjs_meaning.specs.Deeds.{St, AtProgram}
use Rattle.wjs_meaning.specs.WorldValues.{world_object_of}
use Rattle.wjs_meaning.specs.Programs.{eval, Ending, Done, Threw as ThrewValue, StepsSpent, env_of_program, run_next, shown_in}

-- ---- before its first step

-- what a world holds: its present slots
abbrev pub Copy : Type 0
Copy = FinMap slot_cmp Value

-- the first world of an owner
abbrev pub world_of : ℕ → WorldId
world_of owner = record { owner = owner; serial = 0 }

-- a world that holds this, without parent and without marks
abbrev pub holding : WorldId → Copy → World content
holding i copy = record { id = i; parent = None; strict = false; copy = copy; first = map.empty; written = map.empty; closed = map.empty }

-- the objects but those of an owner
abbrev pub without : ℕ → Arena → Arena
without owner arena = map.retain_keys arena (λ o. not (o.owner == owner))

-- the owner's world alone; the objects of others, and then the World object of that world
abbrev pub before : ℕ → Copy → Arena → St
before owner copy arena = record { full = holding (world_of owner) copy ∷ []; arena = created (without owner arena) owner (world_object_of (world_of owner)); out = []; done = [] }

-- ---- its run

-- the body of a tree in a world and on a global object, by an owner, from a state with so many steps
abbrev pub part_run : List Tree → ℕ → WorldId → ObjId → ℕ → St → ℕ → Ending × St
part_run trees tree world global owner st n = run_next (eval AtProgram (env_of_program trees tree world global owner) st n) (λ st' n'. (Done, st'))

-- the part whose tree has this number, alone in the first world of an owner, on the first global object
abbrev pub alone : List Tree → ℕ → ℕ → Copy → Arena → ℕ → Ending × St
alone trees tree owner copy arena budget = part_run trees tree (world_of owner) global_object owner (before owner copy arena) budget

-- ---- what it comes to

-- its end is committed, it threw a value with this text, or the steps were not enough
pub data Outcome : Type 0 where
  Committed : Outcome
  Threw : Text → Outcome
  Spent : Outcome

-- the text is that of a thrown value in the owner's world, as the run left it
abbrev pub outcome_by : ℕ → Ending → St → Outcome
outcome_by owner Done st = Committed
outcome_by owner (ThrewValue v) st = Threw (shown_in (world_of owner) global_object owner v st)
outcome_by owner StepsSpent st = Spent

abbrev pub outcome_of : ℕ → Ending × St → Outcome
outcome_of owner r = outcome_by owner r.0 r.1

-- what the world of a number holds
abbrev pub copy_in : State content → WorldId → Copy
copy_in F i = option_map_or (λ (x : World content). x.copy) (find_world F i) map.empty

-- what there is after a part that began with this: what the run left where it is committed, and else the same
abbrev pub copy_by : ℕ → Copy → Ending → St → Copy
copy_by owner copy Done st = copy_in st.full (world_of owner)
copy_by owner copy ending st = copy

abbrev pub copy_after : ℕ → Copy → Ending × St → Copy
copy_after owner copy r = copy_by owner copy r.0 r.1

-- the objects that are there then: those that the run left where it is committed, and else those that there were
abbrev pub objects_by : Arena → Ending → St → Arena
objects_by objects Done st = st.arena
objects_by objects ending st = objects

abbrev pub objects_after : Arena → Ending × St → Arena
objects_after objects r = objects_by objects r.0 r.1

-- what it prints counts where it is committed
abbrev pub printed_by : Ending → St → List ℕ
printed_by Done st = st.out
printed_by ending st = []

abbrev pub printed : Ending × St → List ℕ
printed r = printed_by r.0 r.1

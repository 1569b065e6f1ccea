-- What a turn makes of a try is what the definition of plays says of it.
use Rattle.std.specs.Prelude.{◌≡◌, ℕ, ◌+◌, min, nat_lt, Bool, true, false, List}
use Rattle.wjs_base.specs.Text.{Table, Grows}
use Rattle.wjs_arena.specs.Entries.{others_of}
use Rattle.wjs_store.specs.Naming.{plain}
use Rattle.wjs_store.specs.Meaning.{Meaning, unseen}
use Rattle.wjs_store.specs.State.{World}
use Rattle.wjs_by_content.specs.Names.{content}
use Rattle.wjs_by_content.specs.Renamed.{Knows}
use Rattle.wjs_by_content.specs.Tables.{arena_in}
use Rattle.wjs_by_content.specs.Telling.{names_of}
use Rattle.wjs_meaning.specs.Trees.{Tree}
use Rattle.wjs_meaning.specs.Deeds.{St}
use Rattle.wjs_meaning.specs.Programs.{Ending, Done, Threw, StepsSpent}
use Rattle.wjs_model.specs.declared.config.Config.{Config}
use Rattle.wjs_session.specs.declared.session.Session.{Session}
use Rattle.wjs_session.specs.Session.{world_at, first_copy, passes}
use Rattle.wjs_session.specs.Stores.{worlds_in}
use Rattle.wjs_session.specs.Resumed.{resumed}
use Rattle.wjs_alone.specs.Alone.{Copy, alone}
use Rattle.wjs_alone.specs.Marks.{marked, agrees}
use Rattle.wjs_alone.specs.Named.{world_in}
use Rattle.wjs_tries.specs.declared.common.Common.{Common}
use Rattle.wjs_tries.specs.declared.common.Rested.{Rested}
use Rattle.wjs_tries.specs.declared.outcome.Outcome.TheVariants as told
use Rattle.wjs_tries.specs.declared.turns.Came.{Came}
use Rattle.wjs_tries.specs.declared.turns.Came.TheVariants as came
use Rattle.wjs_tries.specs.Turning.{objects_left}
use Rattle.wjs_tries.specs.Views.{held_in, KnowsView}

-- so many steps were not enough, and the budget has more
abbrev pub goes_on_after : ℕ → ℕ → Ending → Bool
goes_on_after budget taken StepsSpent = nat_lt taken budget
goes_on_after budget taken Done = false
goes_on_after budget taken (Threw v) = false

-- a world of the definition has the marks of the shared world x, by a table
pub record HasMarks (t : Table) (x : World plain) (outer : World content) : Type 0 where
  pub first : outer.first ≡ (world_in t x).first
  pub written : outer.written ≡ (world_in t x).written
  pub closed : outer.closed ≡ x.closed

-- the texts name the marks of a try that rests, and what it takes the first world to hold
pub record KnowsRest (common : Common) (rest : Rested) : Type 0 where
  pub marks : Knows (names_of common.texts) (unseen (world_at (worlds_in common.shared) rest.resting.world))
  pub own : KnowsView common.texts (resumed (worlds_in common.shared) rest.resting).own

-- a try that has ended comes to its activity's end where its reads hold, and is dropped where they don't
abbrev pub CameByCheck : Config Session → Came → Type 0
CameByCheck c (came.Rests rest) = ⊥
CameByCheck c (came.Ends outcome output) = passes (world_at (worlds_in c.heap.store.shared) c.heap.store.world) (first_copy (worlds_in c.heap.store.shared))
    ≡ true
CameByCheck c came.Drops = passes (world_at (worlds_in c.heap.store.shared) c.heap.store.world) (first_copy (worlds_in c.heap.store.shared)) ≡ false

-- behind it texts may have been made, and no object; the try's own are there where it is committed; and it came to its end by the check of its reads
pub record EndsBy (c : Config Session) (common : Common) (came : Came) : Type 0 where
  pub texts : Grows c.heap.texts common.texts
  pub arena_is : common.arena ≡ objects_left c came
  pub by_check : CameByCheck c came

-- where it is not committed the objects are the others' still
abbrev pub KeepsObjects : Config Session → Common → Came → Type 0
KeepsObjects old common (came.Ends told.Committed output) = Unit {0}
KeepsObjects old common _ = common.arena ≡ others_of old.heap.arena old.owner

-- what the first world held at a turn's begin, by a table
abbrev pub base_of : Table → Config Session → Copy
base_of t old = held_in t (first_copy (worlds_in old.heap.store.shared))

module _ (meaning : Session → Meaning) (trees : List Tree) (tree : ℕ) where
  -- the part alone, from what a try took the first world to hold and with the others' objects that were there at its turn's begin, by a later table
  abbrev pub run_of : Table → Config Session → ℕ → Ending × St
  run_of t old n = alone trees tree old.owner (held_in t (meaning old.heap.store).own) (arena_in t (others_of old.heap.arena old.owner)) n

  -- the marks of its world, by the run's actions
  abbrev pub marks_of : Table → Config Session → ℕ → World content
  marks_of t old n = marked old.owner (held_in t (meaning old.heap.store).own) ((run_of t old n).1).done

  module _ (budget : ℕ) where
    -- with so many steps in all it rests, or has ended and agrees, and so took the first world to hold what it held, or is dropped
    abbrev pub CameAs : Config Session → ℕ → Common → Came → Type 0
    CameAs old n common (came.Rests rest) = (goes_on_after budget n (run_of common.texts old n).0 ≡ true) × (n + rest.left ≡ budget)
        × HasMarks common.texts (world_at (worlds_in common.shared) rest.resting.world) (marks_of common.texts old n) × KnowsRest common rest
    CameAs old n common (came.Ends outcome output) = (goes_on_after budget n (run_of common.texts old n).0 ≡ false)
        × (agrees (marks_of common.texts old n) (base_of common.texts old) ≡ true)
        × ((meaning old.heap.store).own ≡ first_copy (worlds_in old.heap.store.shared))
    CameAs old n common came.Drops = (goes_on_after budget n (run_of common.texts old n).0 ≡ false)
        × (agrees (marks_of common.texts old n) (base_of common.texts old) ≡ false)

    -- a turn of at most so many steps, of a try that had taken some
    pub record IsExact (taken steps : ℕ) (old : Config Session) (common : Common) (c : Came) : Type 0 where
      pub objects : KeepsObjects old common c
      pub came : CameAs old (min budget (taken + steps)) common c

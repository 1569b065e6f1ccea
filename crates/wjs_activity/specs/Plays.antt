-- What a play comes to.
use Rattle.std.specs.Prelude.{◌≡◌, ℕ, ◌≤◌, ◌⊎◌, false, List, [], length, map as each, All, Option, None, Some, Result, Ok, Err}
use Rattle.wjs_base.specs.Text.{IsTable}
use Rattle.wjs_io.specs.Streams.{Stream, Got, GotPrefix, Stops}
use Rattle.wjs_store.specs.Meaning.{Meaning}
use Rattle.wjs_by_content.specs.Tables.{arena_in}
use Rattle.wjs_heap.specs.declared.heap.Heap.{Heap}
use Rattle.wjs_model.specs.declared.halt.Halt.{Halt}
use Rattle.wjs_model.specs.declared.halt.Halt.TheVariants as halts
use Rattle.wjs_meaning.specs.Trees.{Tree}
use Rattle.wjs_meaning.specs.Programs.{StepsSpent}
use Rattle.wjs_model.specs.declared.config.Config.{Config}
use Rattle.wjs_model.specs.declared.config.State.TheVariants as states
use Rattle.wjs_model.specs.Units.{unit_in}
use Rattle.wjs_parts.specs.Walking.{Walks}
use Rattle.wjs_overlay.specs.declared.overlay.Overlay.{Overlay}
use Rattle.wjs_session.specs.Session.{first_copy}
use Rattle.wjs_session.specs.Stores.{worlds_in}
use Rattle.wjs_alone.specs.Opening.{opening, trees_of}
use Rattle.wjs_alone.specs.Serial.{End, Holds, runs_of, copy_by, lines_from, first_held, first_objects, Serial, due}
use Rattle.wjs_activity.specs.Unnamed.{NamesNone}
use Rattle.wjs_alone.specs.Playing as defined
use Rattle.wjs_alone.specs.Playing.{play, bytes_of}
use Rattle.wjs_activity.specs.declared.ends.Ended.{Ended}
use Rattle.wjs_activity.specs.declared.ends.PlayTurn.{PlayTurn}
use Rattle.wjs_activity.specs.declared.activities.Play.{Play}
use Rattle.wjs_activity.specs.declared.activities.Rules.{Rules}
use Rattle.wjs_activity.specs.declared.whole.PlayEnd.{PlayEnd}
use Rattle.wjs_activity.specs.declared.whole.PlayEnd.TheVariants as endings
use Rattle.wjs_tries.specs.Views.{held_in, KnowsView}
use Rattle.wjs_tries.specs.Common.{IsCommon}
use Rattle.wjs_tries.specs.Hiding.{no_owner}
use Rattle.wjs_activity.specs.Noting.{AllNew}
use Rattle.wjs_activity.specs.SoFar.{TellsEnds, left_by, IsPlay}
use Rattle.wjs_activity.specs.Exactly.{IsExactly}
use Rattle.wjs_activity.specs.Rounds.{first_number, by_all}

-- a turn of a schedule, as the definition has it
abbrev pub turn_in : PlayTurn → defined.PlayTurn
turn_in t = record { activity = t.activity; steps = t.steps }

-- by the library's tree, the parts' and the budget of each try, the turns of the schedule, and the steps of a turn behind them
module _ (library : Option Tree) (parts : List Tree) (budget : ℕ) (schedule : List defined.PlayTurn) (turn : ℕ) where
  -- what was written, told and left is the definition's play; and in the order of its ends each activity ran alone, which is what is printed and left
  pub record HasPlayed (s : Stream) (told : List Ended) (heap : Heap Overlay) : Type 0 where
    pub played : defined.Play
    pub is : play library parts budget schedule turn ≡ Some played
    pub tells : TellsEnds told played.ends
    pub got : Got s (bytes_of library parts budget played)
    pub holds : held_in heap.texts (first_copy (worlds_in heap.store)) ≡ played.copy
    pub objects : arena_in heap.texts heap.arena ≡ played.objects
    pub serial : Serial library parts budget played.ends
    -- just before the end of each the first world named none of its objects
    pub named : NamesNone library parts budget (first_held library parts budget) (runs_of played.ends)
    pub prints : due library parts budget played.ends ≡ bytes_of library parts budget played
    pub leaves : copy_by library parts budget (first_held library parts budget) (runs_of played.ends) ≡ played.copy
    pub further : Holds (left_by library parts budget (first_held library parts budget) (first_objects library parts budget)
        (runs_of played.ends)) played.objects
    -- the heap works, and its table knows what the first world holds
    pub works : heap.store.spent ≡ false
    pub table : IsTable heap.texts
    pub knows : KnowsView heap.texts (first_copy (worlds_in heap.store))

  -- the definition's play, of what is due for which this was written; and ends in serial order, of what is due for which it was written, too
  pub record WroteOf (Wrote : List ℕ → Type 0) : Type 0 where
    pub played : defined.Play
    pub is : play library parts budget schedule turn ≡ Some played
    pub wrote : Wrote (bytes_of library parts budget played)
    pub ends : List End
    pub serial : Serial library parts budget ends
    pub alone : Wrote (due library parts budget ends)

  -- the library alone needs more steps than there are: then nothing is written
  abbrev pub Plays : Stream → PlayEnd → Type 0
  Plays s (endings.Done told heap) = HasPlayed s told heap
  Plays s endings.StepsSpent = (play library parts budget schedule turn ≡ None) × Got s []
  Plays s endings.SinkFailed = WroteOf (Stops s)
  Plays s endings.OutOfMemory = Got s [] ⊎ WroteOf (GotPrefix s)

  -- a play up to a halt
  abbrev pub PlaysOut : Stream → Result PlayEnd Halt → Type 0
  PlaysOut s (Ok end) = Plays s end
  PlaysOut s (Err halts.SinkFailed) = WroteOf (Stops s)
  PlaysOut s (Err halts.OutOfMemory) = Got s [] ⊎ WroteOf (GotPrefix s)

  -- a play stands where the definition's begins
  pub record BeginsAs (p : Play) : Type 0 where
    pub is : IsPlay library parts budget (first_held library parts budget) (first_objects library parts budget) p []
    pub there : defined.Play
    pub exactly : IsExactly budget p [] there
    pub out : there.out ≡ []
    pub plays : play library parts budget schedule turn ≡ Some (by_all budget schedule turn library parts there)

-- the library has run to its end, or has spent the budget: that is the opening of the programs by content. What activities share then is
-- known, and it is owner 0's
pub record IsOpened (library : Option Tree) (parts : List Tree) (budget : ℕ) (c : Config Overlay) : Type 0 where
  pub works : c.heap.store.spent ≡ false
  pub trees_are : each (unit_in c.heap.texts) c.units.items ≡ trees_of library parts
  pub common : IsCommon c.heap.texts c.heap.arena c.units.items (worlds_in c.heap.store) 0
  pub spends : c.state ≡ states.StepsSpent → (opening library parts budget).0 ≡ StepsSpent
  pub opens : ¬ (c.state ≡ states.StepsSpent) → ¬ ((opening library parts budget).0 ≡ StepsSpent)
  pub holds : held_in c.heap.texts (first_copy (worlds_in c.heap.store)) ≡ first_held library parts budget
  pub objects : arena_in c.heap.texts c.heap.arena ≡ first_objects library parts budget

-- turns up to the library's end were taken, where there was a library
pub record RanLibrary (meaning : Overlay → Meaning) (budget : ℕ) (old new : Config Overlay) : Type 0 where
  pub none : ¬ (old.state ≡ states.Running) → new ≡ old
  pub some : old.state ≡ states.Running → (taken : ℕ) × Walks meaning budget taken old new

-- a play of so many activities can be begun from a configuration
pub record CanBegin (rules : Rules) (count : ℕ) (c : Config Overlay) : Type 0 where
  pub library : Option Tree
  pub parts : List Tree
  pub some : 1 ≤ rules.budget
  pub first : rules.first ≡ first_number library
  pub count_is : count ≡ length parts
  pub few : length parts ≤ 1000
  pub is : IsOpened library parts rules.budget c

-- a play over what a configuration leaves, of so many activities that have not begun
pub record BegunFrom (c : Config Overlay) (count : ℕ) (p : Play) : Type 0 where
  pub texts : p.common.texts ≡ c.heap.texts
  pub arena_is : p.common.arena ≡ c.heap.arena
  pub units : p.common.units ≡ c.units
  pub shared : p.common.shared ≡ c.heap.store
  pub count_is : length p.activities.items ≡ count
  pub activities : AllNew p.activities.items
  pub apart : (length p.common.apart.items ≡ count) × All (λ u. u ≡ no_owner) p.common.apart.items
  pub ends : p.ends ≡ []
  pub drawn : p.drawn ≡ 0

-- the lines were written, or the sink failed before they were, or memory ran out before any was
abbrev pub ClosesAs : Stream → Play → Result PlayEnd Halt → Type 0
ClosesAs s p (Ok (endings.Done told heap)) = (told ≡ p.ends) × (heap ≡ record { texts = p.common.texts; arena = p.common.arena; store = p.common.shared })
    × ((es : List End) → TellsEnds p.ends es → Got s (lines_from (length p.activities.items) 1 es))
ClosesAs s p (Ok end) = ⊥
ClosesAs s p (Err halts.SinkFailed) = (es : List End) → TellsEnds p.ends es → Stops s (lines_from (length p.activities.items) 1 es)
ClosesAs s p (Err halts.OutOfMemory) = Got s []

-- these bytes were written and the play's ends and its heap given, or the sink failed before
abbrev pub WritesLast : Stream → Play → List ℕ → Result PlayEnd Halt → Type 0
WritesLast s p bytes (Ok (endings.Done told heap)) = (told ≡ p.ends)
    × (heap ≡ record { texts = p.common.texts; arena = p.common.arena; store = p.common.shared }) × Got s bytes
WritesLast s p bytes (Ok end) = ⊥
WritesLast s p bytes (Err halts.SinkFailed) = Stops s bytes
WritesLast s p bytes (Err halts.OutOfMemory) = ⊥

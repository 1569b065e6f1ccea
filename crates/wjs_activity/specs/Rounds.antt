-- What turns of a play leave, and what is written for them.
use Rattle.std.specs.Prelude.{◌≡◌, ℕ, ◌+◌, ◌*◌, ◌-◌, ◌<◌, ◌≤◌, ◌⊎◌, Bool, true, false, not, ◌&&◌, ◌==◌, List, [], ◌++◌, length, set, fold, map as each, Option}
use Rattle.std.specs.Prelude.{None, Some, slice_get}
use Rattle.std.specs.List.{sum}
use Rattle.wjs_io.specs.Streams.{Stream, Got, GotPrefix, Stops}
use Rattle.wjs_by_content.specs.Objects.{Arena}
use Rattle.wjs_meaning.specs.Trees.{Tree}
use Rattle.wjs_model.specs.declared.halt.Halt.{Halt}
use Rattle.wjs_model.specs.declared.halt.Halt.TheVariants as halts
use Rattle.wjs_alone.specs.Alone.{Copy}
use Rattle.wjs_alone.specs.Serial.{End, runs_of, printed_by}
use Rattle.wjs_alone.specs.Playing as defined
use Rattle.wjs_alone.specs.Playing.{activity_in, try_of, turn_of_try, turn, round, rounds}
use Rattle.wjs_alone.specs.Fronts.{Fronts}
use Rattle.wjs_tries.specs.declared.common.Rested.{Rested}
use Rattle.wjs_activity.specs.declared.activities.Activity.{Activity}
use Rattle.wjs_activity.specs.declared.activities.Play.{Play}
use Rattle.wjs_activity.specs.declared.activities.Rules.{Rules}
use Rattle.wjs_activity.specs.SoFar.{SoFar, IsPlay}
use Rattle.wjs_activity.specs.Exactly.{IsExactly, TurnIs}

-- the number of the first part among the programs: the library stands before it
abbrev pub first_number : Option Tree → ℕ
first_number None = 0
first_number (Some library) = 1

-- ---- that turns come to an end

-- how many steps the try of an activity can still take, and one more where none has begun
abbrev pub steps_left : ℕ → Option Rested → ℕ
steps_left budget None = budget + 1
steps_left budget (Some rest) = rest.left

-- each turn of an activity takes some of this
abbrev pub fuel_by : ℕ → ℕ → Option Rested → Bool → ℕ
fuel_by budget dropped running true = 0
fuel_by budget dropped running false = (3 - dropped) * (budget + 2) + steps_left budget running + 1

abbrev pub fuel_of : ℕ → Activity → ℕ
fuel_of budget a = fuel_by budget a.dropped a.running a.ended

abbrev pub fuel : ℕ → Play → ℕ
fuel budget p = sum (each (fuel_of budget) p.activities.items)

-- how many steps the try of an activity can take still
abbrev pub left_of : ℕ → Option Rested → ℕ
left_of budget None = budget
left_of budget (Some rest) = rest.left

-- its turns are no more than this, until three tries are over
abbrev pub turns_left : ℕ → Activity → ℕ
turns_left budget a = (2 - a.dropped) * budget + left_of budget a.running

-- so many rounds are enough for all that go on, and one is left over
abbrev pub Within : ℕ → ℕ → List Activity → Type 0
Within budget k activities = (i : ℕ) (a : Activity) → slice_get activities i ≡ Some a → a.ended ≡ false → turns_left budget a < k

-- where it goes on it did, and fewer of its turns are left
abbrev pub Sooner : ℕ → Activity → Activity → Type 0
Sooner budget a now = now.ended ≡ false → now.dropped < 3 → (a.ended ≡ false) × (turns_left budget now < turns_left budget a)

-- so it is with all of them
pub record AllSooner (budget : ℕ) (old new : Play) : Type 0 where
  pub long : length new.activities.items ≡ length old.activities.items
  pub sooner : (i : ℕ) (a now : Activity) → slice_get old.activities.items i ≡ Some a → slice_get new.activities.items i ≡ Some now → Sooner budget a now

-- ---- tries

-- of no activity that goes on were three tries dropped: the fourth is its last
abbrev pub Settled : List Activity → Type 0
Settled activities = (i : ℕ) (a : Activity) → slice_get activities i ≡ Some a → a.ended ≡ false → a.dropped < 3

-- it has ended, or it goes on, which it doesn't where three tries had been dropped; where three are now, none rests
abbrev pub After : Activity → Activity → Type 0
After a now = (now.ended ≡ true) ⊎ ((now.ended ≡ false) × (a.dropped < 3) × ((now.dropped < 3) ⊎ ((now.dropped ≡ 3) × (now.running ≡ None))))

-- its fourth try is due
abbrev pub last_is_due : Activity → Bool
last_is_due a = not a.ended && (a.dropped == 3)

-- a turn may be taken of an activity: it goes on, and where three tries were dropped the fourth begins, and has all steps
abbrev pub MayTurn : ℕ → ℕ → Activity → Type 0
MayTurn budget steps a = (a.ended ≡ false) × ((a.dropped < 3) ⊎ ((a.running ≡ None) × (budget ≤ steps)))

-- the activity at a place has changed, which took some of the fuel
pub record Changes (budget place : ℕ) (old new : Play) : Type 0 where
  pub now : Activity
  pub is : new.activities.items ≡ set old.activities.items place now
  pub less : fuel budget new < fuel budget old
  pub after : (a : Activity) → slice_get old.activities.items place ≡ Some a → After a now
  pub sooner : (a : Activity) → slice_get old.activities.items place ≡ Some a → Sooner budget a now

-- a turn of the activity at a place, where it goes on: the others are as they were, and some of the fuel was taken
pub record TurnAt (budget place : ℕ) (old new : Play) : Type 0 where
  pub others : (i : ℕ) → ¬ (i ≡ place) → slice_get new.activities.items i ≡ slice_get old.activities.items i
  pub long : length new.activities.items ≡ length old.activities.items
  pub never_more : fuel budget new ≤ fuel budget old
  pub less : (a : Activity) → slice_get old.activities.items place ≡ Some a → a.ended ≡ false → fuel budget new < fuel budget old
  pub sooner : (a now : Activity) → slice_get old.activities.items place ≡ Some a → slice_get new.activities.items place ≡ Some now → Sooner budget a now

-- ---- what the definition makes of a play, by the library's tree and the parts'

-- the turn of the activity at a place; they count from 1
abbrev pub at_place : ℕ → ℕ → defined.PlayTurn
at_place place steps = record { activity = place + 1; steps = steps }

abbrev pub by_turn : ℕ → defined.PlayTurn → Option Tree → List Tree → defined.Play → defined.Play
by_turn budget t library parts d = turn library parts budget d t

abbrev pub by_turns : ℕ → List defined.PlayTurn → Option Tree → List Tree → defined.Play → defined.Play
by_turns budget schedule library parts d = fold (turn library parts budget) d schedule

abbrev pub by_round : ℕ → ℕ → Option Tree → List Tree → defined.Play → defined.Play
by_round budget steps library parts d = round library parts budget steps d

abbrev pub by_rounds : ℕ → ℕ → Option Tree → List Tree → defined.Play → defined.Play
by_rounds budget steps library parts d = rounds library parts budget (3 * budget + 1) steps d

abbrev pub by_all : ℕ → List defined.PlayTurn → ℕ → Option Tree → List Tree → defined.Play → defined.Play
by_all budget schedule steps library parts d = by_rounds budget steps library parts (by_turns budget schedule library parts d)

-- it becomes this
abbrev pub Is : (Option Tree → List Tree → defined.Play → defined.Play) → Option Tree → List Tree → defined.Play → defined.Play → Type 0
Is step library parts d now = step library parts d ≡ now

-- the definition's play has become one as By says: the code's behind these ends, and this was printed
pub record Becomes (By : Option Tree → List Tree → defined.Play → defined.Play → Type 0) (library : Option Tree) (parts : List Tree) (budget : ℕ) (new : Play)
    (d : defined.Play) (ends : List End) (gone : List ℕ) : Type 0 where
  pub now : defined.Play
  pub by : By library parts d now
  pub is : IsExactly budget new ends now
  pub out : now.out ≡ d.out ++ gone

-- what follows a dropped try keeps what was printed
abbrev pub KeepsFronts : (defined.Activity → defined.Play → defined.Play) → Type 0
KeepsFronts go = (front : List ℕ) (a : defined.Activity) (d : defined.Play) → Fronts front d → Fronts front (go a d)

-- a turn of the activity at a place prints this first, whatever follows a try that is dropped
abbrev pub TurnPrints : Option Tree → List Tree → ℕ → ℕ → ℕ → defined.Play → List ℕ → Type 0
TurnPrints library parts budget place steps d gone = (was : defined.Activity) → activity_in d.activities (place + 1) ≡ Some was
    → (go : defined.Activity → defined.Play → defined.Play) → KeepsFronts go
    → Fronts (d.out ++ gone) (turn_of_try library parts budget go steps was (try_of was d) d)

-- where the fourth try of the activity at a place was due it had its turn, with all steps; and else the play is as it was
pub record LastIs (library : Option Tree) (parts : List Tree) (budget place : ℕ) (old new : Play) (d : defined.Play) (ends : List End)
    (gone : List ℕ) : Type 0 where
  pub due : (a : Activity) → slice_get old.activities.items place ≡ Some a → last_is_due a ≡ true → TurnIs library parts budget budget place d new ends gone
  pub not_due : (a : Activity) → slice_get old.activities.items place ≡ Some a → last_is_due a ≡ false → IsExactly budget new ends d × (gone ≡ [])

-- ---- what is known

-- the play goes on by these rules
pub record IsGoing (rules : Rules) (p : Play) : Type 0 where
  pub library : Option Tree
  pub parts : List Tree
  pub copy : Copy
  pub arena : Arena
  pub ends : List End
  pub some : 1 ≤ rules.budget
  pub first : rules.first ≡ first_number library
  pub is : IsPlay library parts rules.budget copy arena p ends

module _ (library : Option Tree) (parts : List Tree) (budget : ℕ) (copy : Copy) (arena : Arena) where
  -- some ends came behind these, and this is printed for them
  pub record Further (ends more : List End) (gone : List ℕ) : Type 0 where
    pub is : printed_by library parts budget copy (runs_of (ends ++ more)) ≡ printed_by library parts budget copy (runs_of ends) ++ gone

  -- a turn was taken, for whose end, if it came to one, this is printed
  pub record Made (ends : List End) (new : Play) (output : List ℕ) : Type 0 where
    pub more : List End
    pub further : Further ends more output
    pub is : IsPlay library parts budget copy arena new (ends ++ more)

  -- turns were taken, and what is printed for the ends that came was written; the definition's play has become what Exact says
  pub record ComesTo (Exact : defined.Play → List End → List ℕ → Type 0) (s : Stream) (old : Play) (ends : List End) (new : Play) : Type 0 where
    pub more : List End
    pub gone : List ℕ
    pub further : Further ends more gone
    pub got : Got s gone
    pub is : IsPlay library parts budget copy arena new (ends ++ more)
    pub exact : (d : defined.Play) → IsExactly budget old ends d → Exact d (ends ++ more) gone

  -- turns were stopped: the ends stand in serial order, and a front of what is printed for them was written, which is one of what the definition's play prints
  pub record ComesToHalt (Exact : defined.Play → List ℕ → Type 0) (Wrote : List ℕ → Type 0) (old : Play) (ends : List End) : Type 0 where
    pub more : List End
    pub gone : List ℕ
    pub further : Further ends more gone
    pub wrote : Wrote gone
    pub now : Copy
    pub objects : Arena
    pub so_far : SoFar library parts budget copy arena now objects (ends ++ more)
    pub exact : (d : defined.Play) → IsExactly budget old ends d → Exact d gone

-- the sink failed before all was written, or memory ran out
abbrev pub WroteBy : Stream → Halt → List ℕ → Type 0
WroteBy s halts.SinkFailed gone = Stops s gone
WroteBy s halts.OutOfMemory gone = GotPrefix s gone

module _ (rules : Rules) (s : Stream) where
  abbrev pub TurnsBy : (Option Tree → List Tree → defined.Play → List End → List ℕ → Type 0) → Play → Play → Type 0
  TurnsBy Exact old new = (library : Option Tree) (parts : List Tree) (copy : Copy) (arena : Arena) (ends : List End) → rules.first ≡ first_number library
      → IsPlay library parts rules.budget copy arena old ends → ComesTo library parts rules.budget copy arena (Exact library parts) s old ends new

  abbrev pub HaltsBy : (Option Tree → List Tree → defined.Play → List ℕ → Type 0) → Play → Halt → Type 0
  HaltsBy Exact old halt = (library : Option Tree) (parts : List Tree) (copy : Copy) (arena : Arena) (ends : List End) → rules.first ≡ first_number library
      → IsPlay library parts rules.budget copy arena old ends
      → ComesToHalt library parts rules.budget copy arena (Exact library parts) (WroteBy s halt) old ends

  -- turns were taken, by which the definition's play becomes what By says
  abbrev pub TurnsTo : (Option Tree → List Tree → defined.Play → defined.Play → Type 0) → Play → Play → Type 0
  TurnsTo By old new = TurnsBy (λ library parts. Becomes By library parts rules.budget new) old new

  -- they were stopped: what was written is a front of what the definition's play prints that comes of them
  abbrev pub HaltsIn : (Option Tree → List Tree → defined.Play → defined.Play) → Play → Halt → Type 0
  HaltsIn step old halt = HaltsBy (λ library parts d gone. Fronts (d.out ++ gone) (step library parts d)) old halt

  -- one turn of the activity at a place took some of its fuel, and the others are as they were
  pub record OneTurn (place steps : ℕ) (old new : Play) : Type 0 where
    pub turns : TurnsBy (λ library parts d ends gone. TurnIs library parts rules.budget steps place d new ends gone) old new
    pub changes : Changes rules.budget place old new

  -- it was stopped
  abbrev pub HaltsAt : ℕ → ℕ → Play → Halt → Type 0
  HaltsAt place steps old halt = HaltsBy (λ library parts. TurnPrints library parts rules.budget place steps) old halt

  -- the fourth try of the activity at a place was begun, and came to its end, where it was due
  pub record LastTurn (place : ℕ) (old new : Play) : Type 0 where
    pub turns : TurnsBy (λ library parts. LastIs library parts rules.budget place old new) old new
    pub none : (a : Activity) → slice_get old.activities.items place ≡ Some a → last_is_due a ≡ false → new ≡ old
    pub one : (a : Activity) → slice_get old.activities.items place ≡ Some a → last_is_due a ≡ true → Changes rules.budget place old new

  -- it was due, and was stopped
  pub record LastHalts (place : ℕ) (old : Play) (halt : Halt) : Type 0 where
    pub due : (a : Activity) → slice_get old.activities.items place ≡ Some a → last_is_due a ≡ true
    pub halts : HaltsAt place rules.budget old halt

-- a turn of so many steps of the activity at a place was taken, for whose end, if it came to one, this is printed; it is the turn of the definition
pub record MadeExactly (library : Option Tree) (parts : List Tree) (budget : ℕ) (copy : Copy) (arena : Arena) (place steps : ℕ) (old : Play) (ends : List End)
    (new : Play) (output : List ℕ) : Type 0 where
  pub made : Made library parts budget copy arena ends new output
  pub exact : (s : defined.Play) → IsExactly budget old ends s → TurnIs library parts budget steps place s new (ends ++ made.more) output

-- a turn of the activity at a place was taken; this is printed for it, and is not written yet
pub record TurnMade (rules : Rules) (place steps : ℕ) (old new : Play) (output : List ℕ) : Type 0 where
  pub made : (library : Option Tree) (parts : List Tree) (copy : Copy) (arena : Arena) (ends : List End) → rules.first ≡ first_number library
      → IsPlay library parts rules.budget copy arena old ends → MadeExactly library parts rules.budget copy arena place steps old ends new output
  pub changes : Changes rules.budget place old new

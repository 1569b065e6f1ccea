-- A play of the code is one of the definition.
use Rattle.std.specs.Prelude.{◌≡◌, ℕ, ◌+◌, ◌⊎◌, true, false, List, [], ◌∷◌, ◌++◌, Option, None, Some, slice_get}
use Rattle.wjs_by_content.specs.Tables.{arena_in}
use Rattle.wjs_meaning.specs.Trees.{Tree}
use Rattle.wjs_session.specs.Session.{world_at}
use Rattle.wjs_session.specs.Stores.{worlds_in}
use Rattle.wjs_alone.specs.Serial.{End}
use Rattle.wjs_alone.specs.Playing as defined
use Rattle.wjs_alone.specs.Playing.{activity_in, goes_on, try_of, turn_of_try}
use Rattle.wjs_tries.specs.declared.common.Common.{Common}
use Rattle.wjs_tries.specs.declared.common.Rested.{Rested}
use Rattle.wjs_activity.specs.declared.activities.Activity.{Activity}
use Rattle.wjs_activity.specs.declared.activities.Play.{Play}
use Rattle.wjs_tries.specs.Turning.{first_in}
use Rattle.wjs_tries.specs.Exact.{HasMarks, KnowsRest}

-- a try that rests is the definition's: its owner, its steps, and its marks
pub record IsTry (budget : ℕ) (common : Common) (rest : Rested) (t : defined.Try) : Type 0 where
  pub owner : t.owner ≡ rest.owner
  pub steps : t.taken + rest.left ≡ budget
  pub marks : HasMarks common.texts (world_at (worlds_in common.shared) rest.resting.world) t.outer
  pub known : KnowsRest common rest

abbrev pub IsRunning : ℕ → Common → Option Rested → Option defined.Try → Type 0
IsRunning budget common None None = Unit {0}
IsRunning budget common (Some rest) (Some t) = IsTry budget common rest t
IsRunning budget common _ _ = ⊥

-- an activity that has not ended
pub record IsActivity (budget : ℕ) (common : Common) (k : ℕ) (a : Activity) (b : defined.Activity) : Type 0 where
  pub number : b.number ≡ k
  pub dropped : b.dropped ≡ a.dropped
  pub running : IsRunning budget common a.running b.running

-- the activity with this number among all; they count from 1
abbrev pub IsAt : List Activity → ℕ → Activity → Type 0
IsAt items k a = (i : ℕ) × (k ≡ i + 1) × (slice_get items i ≡ Some a)

abbrev pub Stands : ℕ → Common → List Activity → ℕ → Activity → defined.Activity → Type 0
Stands budget common items k a b = IsActivity budget common k a b × IsAt items k a

-- the activities that have not ended are those of the definition, in their order; the first of them all has this number
pub data Shows (R : ℕ → Activity → defined.Activity → Type 0) : ℕ → List Activity → List defined.Activity → Type 0 where
  none : (k : ℕ) → Shows R k [] []
  past : (k : ℕ) (a : Activity) (items : List Activity) (shown : List defined.Activity) → a.ended ≡ true → Shows R (k + 1) items shown
      → Shows R k (a ∷ items) shown
  on : (k : ℕ) (a : Activity) (items : List Activity) (b : defined.Activity) (shown : List defined.Activity) → a.ended ≡ false → R k a b
      → Shows R (k + 1) items shown → Shows R k (a ∷ items) (b ∷ shown)

-- what the first world holds, the objects that are shared, the owners that were drawn, the ends, and the activities
pub record IsExactly (budget : ℕ) (p : Play) (ends : List End) (s : defined.Play) : Type 0 where
  pub copy : s.copy ≡ first_in p.common
  pub objects : s.objects ≡ arena_in p.common.texts p.common.arena
  pub owners : s.owners ≡ p.drawn
  pub ends_are : s.ends ≡ ends
  pub activities : Shows (Stands budget p.common p.activities.items) 1 p.activities.items s.activities

-- by the library's tree, the parts' and the budget of each try
module _ (library : Option Tree) (parts : List Tree) (budget : ℕ) where
  -- a turn of so many steps of the activity at a place makes this of a play, whatever follows a try that is dropped: it rests, or the activity has ended
  pub record Makes (steps place : ℕ) (b : defined.Activity) (s : defined.Play) (new : Play) (now : defined.Play) : Type 0 where
    pub turn : (go : defined.Activity → defined.Play → defined.Play) → turn_of_try library parts budget go steps b (try_of b s) s ≡ now
    pub at : (x : Activity) → slice_get new.activities.items place ≡ Some x → (x.ended ≡ true) ⊎ ¬ (x.running ≡ None)

  -- it drops the try: what follows is asked of the activity without it, and of the play with its owner drawn
  pub record Leaves (steps place : ℕ) (b : defined.Activity) (s : defined.Play) (new : Play) (now : defined.Play) : Type 0 where
    pub left : defined.Activity
    pub made : defined.Play
    pub number : left.number ≡ b.number
    pub now_is : now ≡ goes_on left made
    pub turn : (go : defined.Activity → defined.Play → defined.Play) → turn_of_try library parts budget go steps b (try_of b s) s ≡ go left made
    pub at : (x : Activity) → slice_get new.activities.items place ≡ Some x → (x.ended ≡ false) × (left.dropped ≡ x.dropped)

  -- a turn of the activity at a place is the definition's: behind it there are these ends, and this was printed for it
  pub record TurnIs (steps place : ℕ) (s : defined.Play) (new : Play) (ends : List End) (output : List ℕ) : Type 0 where
    pub was : defined.Activity
    pub there : activity_in s.activities (place + 1) ≡ Some was
    pub now : defined.Play
    pub is : IsExactly budget new ends now
    pub turn : Makes steps place was s new now ⊎ Leaves steps place was s new now
    pub out : now.out ≡ s.out ++ output

-- What a turn of a try comes to.
use Rattle.std.specs.Prelude.{◌≡◌, ℕ, ◌<◌, ◌≤◌, true, false, List, [], set, map as each, IsTrue}
use Rattle.wjs_base.specs.Text.{Grows}
use Rattle.wjs_base.specs.Unicode.{utf8_of}
use Rattle.wjs_arena.specs.Entries.{Objects, others_of}
use Rattle.wjs_store.specs.Meaning.{Meaning}
use Rattle.wjs_by_content.specs.Tables.{arena_in}
use Rattle.wjs_meaning.specs.Trees.{Tree}
use Rattle.wjs_meaning.specs.Builtins.{global_object}
use Rattle.wjs_model.specs.declared.config.Config.{Config}
use Rattle.wjs_model.specs.declared.config.State.TheVariants as states
use Rattle.wjs_model.specs.Apart.{is_apart}
use Rattle.wjs_model.specs.Soundness.{Sound}
use Rattle.wjs_model.specs.Outside.{Outside, Admits, beside}
use Rattle.wjs_model.specs.Configurations.{state_in}
use Rattle.wjs_model.specs.Units.{unit_in}
use Rattle.wjs_layers.specs.Reset.{after_reset}
use Rattle.wjs_session.specs.declared.session.Session.{Session}
use Rattle.wjs_session.specs.Stores.{worlds_in}
use Rattle.wjs_session.specs.Session.{world_at, first_copy, passes}
use Rattle.wjs_alone.specs.Alone.{Copy, world_of, alone, Outcome, Committed, Threw, Spent, outcome_of, copy_after, objects_after, printed}
use Rattle.wjs_tries.specs.declared.common.Common.{Common}
use Rattle.wjs_tries.specs.declared.common.Rested.{Rested}
use Rattle.wjs_tries.specs.declared.outcome.Outcome.{Outcome as Told}
use Rattle.wjs_tries.specs.declared.outcome.Outcome.TheVariants as told
use Rattle.wjs_tries.specs.declared.turns.Came.{Came}
use Rattle.wjs_tries.specs.declared.turns.Came.TheVariants as came
use Rattle.wjs_tries.specs.Hiding.{IsHidden, Unaware}
use Rattle.wjs_tries.specs.Meant.{meant, Listed, resting}
use Rattle.wjs_tries.specs.Views.{held_in, KnowsView}
use Rattle.wjs_tries.specs.Trying.{KnowsAll, IsTrying, ending_in}
use Rattle.wjs_tries.specs.Common.{IsCommon}
use Rattle.wjs_tries.specs.Passing.{Passes}
use Rattle.wjs_tries.specs.Resting.{IsResting}

-- what a configuration shares with others: of its objects those that aren't its owner's
abbrev pub common_of : Config Session → Common
common_of c = record { texts = c.heap.texts; arena = others_of c.heap.arena c.owner; units = c.units; shared = c.heap.store.shared; apart = c.apart }

-- what the first world holds, by content
abbrev pub first_in : Common → Copy
first_in common = held_in common.texts (first_copy (worlds_in common.shared))

-- an outcome is told as it is; a thrown value's text in UTF-8
abbrev pub Tells : Told → Outcome → Type 0
Tells told.Committed Committed = Unit {0}
Tells (told.Threw shown) (Threw text) = shown ≡ utf8_of text
Tells told.Spent Spent = Unit {0}
Tells _ _ = ⊥

-- by what sessions mean, the trees of the play, the number of the part's, the budget of each try, and how many owners were drawn
module _ (meaning : Session → Meaning) (trees : List Tree) (tree budget drawn : ℕ) where
  -- a try that is its part alone, over all that is shared
  pub record IsLive (c : Config Session) : Type 0 where
    pub sound : Sound meaning c
    pub taken : ℕ
    pub trying : IsTrying trees tree budget taken (meant meaning c)
    pub number : c.heap.store.world ≡ world_of c.owner
    pub some : 1 ≤ c.owner
    pub owner : c.owner ≤ drawn
    pub none : Listed
    pub none_is : none.items ≡ []
    pub common : IsCommon c.heap.texts c.heap.arena c.units.items (worlds_in c.heap.store.shared) drawn
    -- and so it is without its own objects
    pub shared : IsCommon c.heap.texts (others_of c.heap.arena c.owner) c.units.items (worlds_in c.heap.store.shared) drawn

  -- the try has ended, and its reads hold: it is its part's run alone, from what the first world held and with the objects that are there;
  -- what is printed and what the first world holds now are that run's
  pub record EndsAlone (owner : ℕ) (before : Copy) (common : Common) (outcome : Told) (output : List ℕ) : Type 0 where
    pub tells : Tells outcome (outcome_of owner (alone trees tree owner before (arena_in common.texts common.arena) budget))
    pub prints : output ≡ printed (alone trees tree owner before (arena_in common.texts common.arena) budget)
    pub leaves : first_in common ≡ copy_after owner before (alone trees tree owner before (arena_in common.texts common.arena) budget)
    pub objects : objects_after (arena_in common.texts common.arena) (alone trees tree owner before (arena_in common.texts common.arena) budget)
        ≡ arena_in common.texts common.arena

  -- it rests, or has ended, or its reads hold no more and nothing of it is kept
  abbrev pub CameTo : ℕ → Copy → Common → Came → Type 0
  CameTo owner before common (came.Rests rest) = (rest.owner ≡ owner) × IsResting trees tree budget drawn common rest × (first_in common ≡ before)
  CameTo owner before common (came.Ends outcome output) = EndsAlone owner before common outcome output.items
  CameTo owner before common came.Drops = first_in common ≡ before

  -- after a turn of a try
  pub record IsTurned (old : Config Session) (common : Common) (c : Came) : Type 0 where
    pub leaves : Passes old.owner (common_of old) common
    pub works : common.shared.spent ≡ false
    pub is_common : IsCommon common.texts common.arena common.units.items (worlds_in common.shared) drawn
    pub came : CameTo old.owner (held_in common.texts (first_copy (worlds_in old.heap.store.shared))) common c

  -- a try that goes on no more: its part alone with the whole budget, from what is admitted still, ends as it did and leaves what there is
  pub record IsOver (c : Config Session) : Type 0 where
    pub sound : Sound meaning c
    pub over : ¬ (c.state ≡ states.Running)
    pub trees_are : each (unit_in c.heap.texts) c.units.items ≡ trees
    pub global : c.global ≡ global_object
    pub world : c.world ≡ world_of c.owner
    pub knows : KnowsAll trees tree (meant meaning c)
    pub alone : (v : Outside) → Admits meaning c v → KnowsView v.texts v.view
        → alone trees tree c.owner (held_in v.texts v.view) (beside (arena_in c.heap.texts c.heap.arena) v.more) budget
        ≡ (ending_in c.heap.texts c.state, state_in meaning c.heap.texts v c)
    pub number : c.heap.store.world ≡ world_of c.owner
    pub some : 1 ≤ c.owner
    pub owner : c.owner ≤ drawn
    pub common : IsCommon c.heap.texts c.heap.arena c.units.items (worlds_in c.heap.store.shared) drawn
    pub shared : IsCommon c.heap.texts (others_of c.heap.arena c.owner) c.units.items (worlds_in c.heap.store.shared) drawn

-- what is shared is that of the configuration
pub record Shares (c : Config Session) (common : Common) : Type 0 where
  pub texts : common.texts ≡ c.heap.texts
  pub arena_is : common.arena ≡ others_of c.heap.arena c.owner
  pub units : common.units ≡ c.units
  pub worlds : worlds_in common.shared ≡ worlds_in c.heap.store.shared
  pub works : common.shared.spent ≡ false

-- nothing of its try is left but the texts that it made: its world was given up, and its objects are gone
pub record GivesUp (c : Config Session) (common : Common) : Type 0 where
  pub texts : common.texts ≡ c.heap.texts
  pub arena_is : common.arena ≡ others_of c.heap.arena c.owner
  pub units : common.units ≡ c.units
  pub worlds : worlds_in common.shared ≡ after_reset (worlds_in c.heap.store.shared) c.heap.store.world
  pub works : common.shared.spent ≡ false

-- ---- who names whom

-- nothing names an object of the owner but its own objects, where a try is taken out for its turn
abbrev pub HiddenIn : Config Session → ℕ → Type 0
HiddenIn c u = IsHidden (common_of c) u

-- of each listed owner of which nothing was named
abbrev pub OfHidden : Config Session → (ℕ → Type 0) → Type 0
OfHidden c P = (u : ℕ) → IsTrue (is_apart c.apart.items u) → HiddenIn c u → P u

-- the list of a try that goes on no more is as it was, and nothing is named still of those that are listed
pub record EndsApart (c : Config Session) (common : Common) : Type 0 where
  pub list : common.apart ≡ c.apart
  pub hidden : OfHidden c (IsHidden common)

-- a try of the activity at a place that rests is listed, and left the first world as it was; it is unaware of the others
abbrev pub ListsRest : ℕ → Config Session → Common → Came → Type 0
ListsRest place c common (came.Rests rest) = (common.apart.items ≡ set c.apart.items place c.owner)
    × (first_copy (worlds_in common.shared) ≡ first_copy (worlds_in c.heap.store.shared)) × OfHidden c (Unaware common rest)
ListsRest place c common _ = common.apart ≡ c.apart

-- after a turn of a try of the activity at a place
pub record TurnsApart (place : ℕ) (c : Config Session) (common : Common) (k : Came) : Type 0 where
  pub hidden : OfHidden c (IsHidden common)
  pub lists : ListsRest place c common k

-- a try rests
abbrev pub IsRest : Came → Type 0
IsRest (came.Rests rest) = Unit {0}
IsRest _ = ⊥

-- where it rests fewer steps are left
abbrev pub HasLess : ℕ → Came → Type 0
HasLess left (came.Rests rest) = rest.left < left
HasLess left _ = Unit {0}

-- an activity has ended
abbrev pub IsEnd : Came → Type 0
IsEnd (came.Ends outcome output) = Unit {0}
IsEnd _ = ⊥

-- the objects that are there behind the end of a try: all where it is committed, and else those of others
abbrev pub objects_left : Config Session → Came → Objects
objects_left c (came.Ends told.Committed output) = c.heap.arena
objects_left c _ = others_of c.heap.arena c.owner

module _ (meaning : Session → Meaning) where
  -- what the first world holds is what the try's reads were
  abbrev pub AgreesNow : Config Session → Type 0
  AgreesNow c = passes (world_at (worlds_in c.heap.store.shared) c.heap.store.world) (first_copy (worlds_in c.heap.store.shared)) ≡ true

  -- the activity of a try that agrees has ended
  pub record IsAtEnd (c : Config Session) (common : Common) (came : Came) : Type 0 where
    pub ends : IsEnd came
    -- texts may have been made, and no object
    pub texts : Grows c.heap.texts common.texts
    pub arena_is : common.arena ≡ objects_left c came
    pub apart : AgreesNow c → EndsApart c common
    pub turned : (trees : List Tree) (tree budget drawn : ℕ) → IsOver meaning trees tree budget drawn c → AgreesNow c
        → IsTurned meaning trees tree budget drawn c common came

  -- a try of an owner has begun, with the whole budget: it is the part of a number, alone; what the first world holds stays, and the try takes it to hold that
  pub record Begun (owner part budget : ℕ) (common : Common) (c : Config Session) : Type 0 where
    pub leaves : Passes owner common (common_of c)
    pub others : others_of c.heap.arena c.owner ≡ common.arena
    pub owner_is : c.owner ≡ owner
    pub left : c.left ≡ budget
    pub holds : first_copy (worlds_in c.heap.store.shared) ≡ first_copy (worlds_in common.shared)
    pub own : (meaning c.heap.store).own ≡ first_copy (worlds_in c.heap.store.shared)
    pub live : IsLive meaning (each (unit_in c.heap.texts) c.units.items) part budget owner c
    -- the list is as it was, and nothing is named still of those of which nothing was
    pub apart : c.apart ≡ common.apart
    pub hides : (u : ℕ) → IsTrue (is_apart common.apart.items u) → IsHidden common u → HiddenIn c u

  -- a try goes on as it rested
  pub record GoesOnAs (common : Common) (rest : Rested) (c : Config Session) : Type 0 where
    pub same : meant meaning c ≡ resting c.apart common rest
    pub number : c.heap.store.world ≡ rest.resting.world
    pub shared : c.heap.store.shared ≡ common.shared
    pub others : others_of c.heap.arena c.owner ≡ common.arena

-- What names no object of one owner; and that what a run has not been shown stays out of its reach.
use Rattle.std.specs.Prelude.{◌≡◌, ℕ, List, [], ◌∷◌, Option, None, Some, All, IsTrue}
use Rattle.std.specs.FinMap as map
use Rattle.wjs_base.specs.declared.ids.ObjId.{ObjId}
use Rattle.wjs_base.specs.declared.ids.WorldId.{WorldId}
use Rattle.wjs_base.specs.declared.values.Slot.{Slot}
use Rattle.wjs_base.specs.declared.values.Value.{Value}
use Rattle.wjs_base.specs.declared.values.Value.TheVariants as values
use Rattle.wjs_store.specs.State.{content_at}
use Rattle.wjs_store.specs.Meaning.{Meaning, worlds}
use Rattle.wjs_by_content.specs.Renamed.{Holds}
use Rattle.wjs_arena.specs.declared.object.Object.{Object}
use Rattle.wjs_arena.specs.Entries.{Entry}
use Rattle.wjs_model.specs.declared.frame.Reference.{Reference}
use Rattle.wjs_model.specs.declared.frame.Reference.TheVariants as references
use Rattle.wjs_model.specs.declared.frame.Completion.{Completion}
use Rattle.wjs_model.specs.declared.frame.Completion.TheVariants as completions
use Rattle.wjs_model.specs.declared.operand.Operand.{Operand}
use Rattle.wjs_model.specs.declared.operand.Operand.TheVariants as operands
use Rattle.wjs_model.specs.declared.frame.Held.{Held}
use Rattle.wjs_model.specs.declared.frame.Held.TheVariants as holds
use Rattle.wjs_model.specs.declared.point.Start.{Start}
use Rattle.wjs_model.specs.declared.point.Start.TheVariants as starts
use Rattle.wjs_model.specs.declared.frame.Phase.{Phase}
use Rattle.wjs_model.specs.declared.frame.Phase.TheVariants as phases
use Rattle.wjs_model.specs.declared.frame.Activation.{Activation as Frame}
use Rattle.wjs_model.specs.declared.config.Config.{Config}
use Rattle.wjs_model.specs.declared.config.State.{State}
use Rattle.wjs_model.specs.declared.config.State.TheVariants as states
use Rattle.wjs_model.specs.Configurations.{Stays}
use Rattle.wjs_model.specs.Apart.{is_apart}
use Rattle.wjs_model.specs.Soundness.{HasWorld, Sound}

-- ---- what is named is another owner's

module _ (u : ℕ) where
  abbrev pub Other : ObjId → Type 0
  Other o = ¬ (o.owner ≡ u)

  abbrev pub OtherIf : Option ObjId → Type 0
  OtherIf None = Unit {0}
  OtherIf (Some o) = Other o

  abbrev pub OtherValue : Value → Type 0
  OtherValue (values.Object o) = Other o
  OtherValue v = Unit {0}

  abbrev pub OtherReference : Reference → Type 0
  OtherReference (references.Local scope name) = Other scope
  OtherReference (references.Global name) = Unit {0}
  OtherReference (references.Member base name) = OtherValue base

  abbrev pub OtherCompletion : Completion → Type 0
  OtherCompletion (completions.Gives v) = OtherValue v
  OtherCompletion (completions.Refers r) = OtherReference r
  OtherCompletion completions.Normal = Unit {0}
  OtherCompletion (completions.Breaks label) = Unit {0}
  OtherCompletion (completions.Continues label) = Unit {0}
  OtherCompletion (completions.Returns v) = OtherValue v
  OtherCompletion (completions.Throws v) = OtherValue v

  abbrev pub OtherItem : Held → Type 0
  OtherItem (holds.Value v) = OtherValue v
  OtherItem (holds.Reference r) = OtherReference r
  OtherItem (holds.Callee f this) = OtherValue f × OtherValue this
  OtherItem (holds.Elements o count) = Other o
  OtherItem (holds.Earlier e) = OtherCompletion e
  OtherItem (holds.Visit s) = Other s.object

  abbrev pub OtherItems : List Held → Type 0
  OtherItems [] = Unit {0}
  OtherItems (x ∷ xs) = OtherItem x × OtherItems xs

  abbrev pub OtherOperand : Operand → Type 0
  OtherOperand (operands.Value v) = OtherValue v
  OtherOperand (operands.Name place id) = Unit {0}
  OtherOperand (operands.Target place id) = Unit {0}

  abbrev pub OtherStart : Start → Type 0
  OtherStart (starts.Body f) = Other f
  OtherStart _ = Unit {0}

  abbrev pub OtherPhase : Phase → Type 0
  OtherPhase (phases.Due start) = OtherStart start
  OtherPhase (phases.Ready start) = OtherStart start
  OtherPhase (phases.Waiting point) = Unit {0}
  OtherPhase (phases.Given point e) = OtherCompletion e
  OtherPhase (phases.Entering point o) = OtherOperand o

  abbrev pub OtherState : State → Type 0
  OtherState (states.Threw v) = OtherValue v
  OtherState states.Running = Unit {0}
  OtherState states.Done = Unit {0}
  OtherState states.StepsSpent = Unit {0}

  -- by a frame
  pub record OtherFrame (f : Frame) : Type 0 where
    pub scope : Other f.scope
    pub this : OtherValue f.this
    pub held : OtherItems f.held
    pub phase : OtherPhase f.phase

  -- by an object
  pub record OtherNamed (x : Object) : Type 0 where
    pub prototype : OtherIf x.prototype
    pub scope : OtherIf x.scope
    pub primitive : OtherValue x.primitive
    pub fixed : Holds (λ e. OtherValue e.1) x.fixed

-- ---- what is kept apart

module _ {S : Type 0} (meaning : S → Meaning) where
  -- no object of the owner has a world of the store, and none is named by a present slot or its content under the store's own view, by a frame, by the state, by an object of another owner, or as the global object
  pub record KeptApart (c : Config S) (u : ℕ) : Type 0 where
    pub no_worlds : (o : ObjId) (e : Entry) (w : WorldId) → map.get c.heap.arena o ≡ Some e → o.owner ≡ u → e.object.world ≡ Some w → ¬ HasWorld meaning c w
    pub slots : (i : WorldId) (s : Slot) (v : Value) → content_at (worlds (meaning c.heap.store)) i s ≡ Some v → Other u s.object × OtherValue u v
    pub frames : All (OtherFrame u) c.frames
    pub state : OtherState u c.state
    pub objects : (o : ObjId) (e : Entry) → map.get c.heap.arena o ≡ Some e → Other u o → OtherNamed u e.object
    pub global : Other u c.global

  -- ---- laws

  -- owners other than 0 and the configuration's own, of which that holds, may be listed as kept apart
  abbrev pub MayBeKeptApart : Type 0
  MayBeKeptApart = (c new : Config S) → Sound meaning c → new ≡ record c { apart = new.apart } → ((u : ℕ) → IsTrue (is_apart new.apart.items u) → ¬ (u ≡ 0) × (¬ (u ≡ c.owner) × KeptApart c u)) → Sound meaning new

  -- it holds of a listed owner, wherever the objects of the other listed ones name none of it
  abbrev pub SoundKeepsApart : Type 0
  SoundKeepsApart = (c : Config S) (u : ℕ) → Sound meaning c → IsTrue (is_apart c.apart.items u) → ((o : ObjId) (e : Entry) → map.get c.heap.arena o ≡ Some e → IsTrue (is_apart c.apart.items o.owner) → Other u o → OtherNamed u e.object) → KeptApart c u

  -- and what holds of a listed owner holds after whatever keeps the configuration sound
  abbrev pub KeptApartStays : Type 0
  KeptApartStays = (old new : Config S) (u : ℕ) → Sound meaning old → Stays meaning old new → Sound meaning new → IsTrue (is_apart old.apart.items u) → KeptApart old u → KeptApart new u

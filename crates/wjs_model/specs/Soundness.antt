-- When a configuration is sound: everything that it names is there, and of no owner that is kept apart.
use Rattle.std.specs.Prelude.{◌≡◌, not, List, [], ◌∷◌, Option, None, Some, All, IsTrue}
use Rattle.std.specs.FinMap as map
use Rattle.wjs_base.specs.declared.ids.ObjId.{ObjId}
use Rattle.wjs_base.specs.declared.ids.TextId.{TextId}
use Rattle.wjs_base.specs.declared.ids.WorldId.{WorldId}
use Rattle.wjs_base.specs.declared.values.Name.{Name}
use Rattle.wjs_base.specs.declared.values.Slot.{Slot}
use Rattle.wjs_base.specs.declared.values.Value.{Value}
use Rattle.wjs_base.specs.declared.values.Value.TheVariants as values
use Rattle.wjs_base.specs.declared.values.Content.{Content}
use Rattle.wjs_base.specs.declared.values.Content.TheVariants as contents
use Rattle.wjs_base.specs.Spelling.{IsName}
use Rattle.wjs_base.specs.Text.{Has}
use Rattle.wjs_base.specs.declared.ids.NodeId.{NodeId}
use Rattle.wjs_store.specs.State.{has_world}
use Rattle.wjs_store.specs.Meaning.{Meaning, worlds}
use Rattle.wjs_arena.specs.Entries.{Entry, has}
use Rattle.wjs_by_content.specs.Worlds.{KnowsWorlds}
use Rattle.wjs_heap.specs.Heap.{IsHeap, KnowsTold}
use Rattle.wjs_heap.specs.Means.{parts}
use Rattle.wjs_meaning.specs.Builtins.{builtin}
use Rattle.wjs_meaning.specs.declared.builtin.Builtin.{Builtin}
use Rattle.wjs_model.specs.declared.frame.Reference.{Reference}
use Rattle.wjs_model.specs.declared.frame.Reference.TheVariants as references
use Rattle.wjs_model.specs.declared.frame.Completion.{Completion}
use Rattle.wjs_model.specs.declared.frame.Completion.TheVariants as completions
use Rattle.wjs_model.specs.declared.operand.Operand.{Operand}
use Rattle.wjs_model.specs.declared.operand.Operand.TheVariants as operands
use Rattle.wjs_model.specs.declared.frame.Held.{Held}
use Rattle.wjs_model.specs.declared.frame.Held.TheVariants as holds
use Rattle.wjs_model.specs.declared.point.Start.{Start}
use Rattle.wjs_model.specs.declared.point.Start.TheVariants as starts
use Rattle.wjs_model.specs.declared.point.Point.{Point}
use Rattle.wjs_model.specs.declared.frame.Phase.{Phase}
use Rattle.wjs_model.specs.declared.frame.Phase.TheVariants as phases
use Rattle.wjs_model.specs.declared.frame.Activation.{Activation as Frame}
use Rattle.wjs_model.specs.declared.config.Config.{Config}
use Rattle.wjs_model.specs.declared.config.State.{State}
use Rattle.wjs_model.specs.declared.config.State.TheVariants as states
use Rattle.wjs_model.specs.Texts.{KnowsUnit, PlacesUnit}
use Rattle.wjs_model.specs.Standing.{Stands, IfStands, PointStands, FrameStands, FunctionStands}
use Rattle.wjs_model.specs.Apart.{is_apart, IsNear, NearSlots, NamesNear}

-- ---- what is named is there

module _ {S : Type 0} (c : Config S) where
  -- of no owner that is kept apart
  abbrev pub HasObject : ObjId → Type 0
  HasObject o = IsTrue (has c.heap.arena o) × IsNear c.apart.items o

  abbrev pub HasName : Name → Type 0
  HasName name = IsName c.heap.texts name

  abbrev pub HasValue : Value → Type 0
  HasValue (values.Text id) = Has c.heap.texts id
  HasValue (values.Object o) = HasObject o
  HasValue v = Unit {0}

  abbrev pub HasContent : Content → Type 0
  HasContent contents.Absent = Unit {0}
  HasContent (contents.Present v) = HasValue v

  abbrev pub HasSlot : Slot → Type 0
  HasSlot s = HasObject s.object × HasName s.name

  -- where the frame is run the node stands
  abbrev pub StandsHere : Frame → NodeId → Type 0
  StandsHere f node = Stands c.units.items c.heap.arena f.tree node f.scope 0

  abbrev pub StandsIf : Frame → Option NodeId → Type 0
  StandsIf f node = IfStands c.units.items c.heap.arena f.tree f.node f.scope node

  abbrev pub HasLabel : Option TextId → Type 0
  HasLabel None = Unit {0}
  HasLabel (Some id) = Has c.heap.texts id

  abbrev pub HasReference : Reference → Type 0
  HasReference (references.Local scope name) = HasObject scope × HasName name
  HasReference (references.Global name) = HasName name
  HasReference (references.Member base name) = HasValue base × HasName name

  abbrev pub HasCompletion : Completion → Type 0
  HasCompletion (completions.Gives v) = HasValue v
  HasCompletion (completions.Refers r) = HasReference r
  HasCompletion completions.Normal = Unit {0}
  HasCompletion (completions.Breaks label) = HasLabel label
  HasCompletion (completions.Continues label) = HasLabel label
  HasCompletion (completions.Returns v) = HasValue v
  HasCompletion (completions.Throws v) = HasValue v

  abbrev pub HasItem : Held → Type 0
  HasItem (holds.Value v) = HasValue v
  HasItem (holds.Reference r) = HasReference r
  HasItem (holds.Callee f this) = HasValue f × HasValue this
  HasItem (holds.Elements o count) = HasObject o
  HasItem (holds.Earlier e) = HasCompletion e
  HasItem (holds.Visit s) = HasSlot s

  abbrev pub HasItems : List Held → Type 0
  HasItems [] = Unit {0}
  HasItems (x ∷ xs) = HasItem x × HasItems xs

  abbrev pub HasOperand : Operand → Type 0
  HasOperand (operands.Value v) = HasValue v
  HasOperand (operands.Name place id) = Has c.heap.texts id
  HasOperand (operands.Target place id) = Has c.heap.texts id

  -- what a frame begins with
  abbrev pub HasStart : Start → Type 0
  HasStart (starts.Body f) = HasObject f
  HasStart _ = Unit {0}

  -- after which part a frame goes on
  abbrev pub HasPoint : Frame → Point → Type 0
  HasPoint f point = PointStands c.units.items c.heap.arena f.tree f.node f.scope point

  abbrev pub HasPhase : Frame → Phase → Type 0
  HasPhase f (phases.Due start) = HasStart start
  HasPhase f (phases.Ready start) = HasStart start
  HasPhase f (phases.Waiting point) = HasPoint f point
  HasPhase f (phases.Given point e) = HasPoint f point × HasCompletion e
  HasPhase f (phases.Entering point o) = HasPoint f point × HasOperand o

  abbrev pub HasThrown : State → Type 0
  HasThrown (states.Threw v) = HasValue v
  HasThrown _ = Unit {0}

-- by what the store means
module _ {S : Type 0} (meaning : S → Meaning) where
  abbrev pub HasWorld : Config S → WorldId → Type 0
  HasWorld c w = IsTrue (has_world (worlds (meaning c.heap.store)) w)

  -- a frame's scope, `this` and world are there, with an object for the world, and so is what it holds; it stands at a node of its program
  pub record IsThere (c : Config S) (f : Frame) : Type 0 where
    pub scope : HasObject c f.scope
    pub this : HasValue c f.this
    pub world : HasWorld c f.world
    pub held : HasItems c f.held
    pub stands : FrameStands c.units.items c.heap.arena f

  -- among the configuration's frames, what it begins with or waits for is there, too
  pub record IsStacked (c : Config S) (f : Frame) : Type 0 where
    pub there : IsThere c f
    pub phase : HasPhase c f f.phase

  -- all but how it ended
  pub record Base (c : Config S) : Type 0 where
    -- its heap is one, its store works, and its global object and first world are there
    pub heap : IsHeap (parts meaning c.heap)
    pub works : IsTrue (not (meaning c.heap.store).spent)
    pub global : HasObject c c.global
    pub world : HasWorld c c.world
    -- the objects that were there before the first step are there
    pub builtins : (b : Builtin) → HasObject c (builtin b)
    -- the texts of its programs are there, and the places of their names are right
    pub units : All (KnowsUnit c.heap.texts) c.units.items
    pub places : All (PlacesUnit c.heap.texts) c.units.items
    -- its functions stand at nodes of its programs
    pub functions : (o : ObjId) (e : Entry) → map.get c.heap.arena o ≡ Some e → FunctionStands c.units.items c.heap.arena e.object.code e.object.scope
    -- each world of the store is its owner's, and so is the world that an object of it stands for; such a world is in the store
    pub worlds_own : (w : WorldId) → HasWorld c w → w.owner ≡ c.owner
    pub worlds_by : (o : ObjId) (e : Entry) (w : WorldId) → map.get c.heap.arena o ≡ Some e → e.object.world ≡ Some w → w.owner ≡ o.owner
    pub own_worlds : (o : ObjId) (e : Entry) (w : WorldId) → map.get c.heap.arena o ≡ Some e → e.object.world ≡ Some w → w.owner ≡ c.owner → HasWorld c w
    -- its own owner is not kept apart
    pub own : IsTrue (not (is_apart c.apart.items c.owner))
    -- the objects of the others name none of it, and neither do the present slots
    pub near_objects : (o : ObjId) (e : Entry) → map.get c.heap.arena o ≡ Some e → IsNear c.apart.items o → NamesNear c.apart.items e.object
    pub near_slots : NearSlots c.apart.items (worlds (meaning c.heap.store))
    pub frames : All (IsStacked c) c.frames
    -- the texts that marks name are there, and those that told actions and their answers name
    pub marks : KnowsWorlds c.heap.texts (worlds (meaning c.heap.store))
    pub told : KnowsTold c.heap.texts (meaning c.heap.store).told

  pub record Sound (c : Config S) : Type 0 where
    pub base : Base c
    pub thrown : HasThrown c c.state
    -- where it goes on there is a frame
    pub running : c.state ≡ states.Running → ¬ (c.frames ≡ [])

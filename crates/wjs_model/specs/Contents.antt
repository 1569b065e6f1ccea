-- What frames mean under a table of texts.
use Rattle.std.specs.Prelude.{ℕ, List, [], ◌∷◌, map as each}
use Rattle.std.specs.Option.{option_map}
use Rattle.wjs_base.specs.declared.ids.ObjId.{ObjId}
use Rattle.wjs_base.specs.declared.ids.WorldId.{WorldId}
use Rattle.wjs_base.specs.declared.values.Name.TheVariants as names
use Rattle.wjs_base.specs.declared.values.Slot.{Slot as NumberedSlot}
use Rattle.wjs_base.specs.declared.values.Value.{Value as NumberedValue}
use Rattle.wjs_base.specs.declared.values.Value.TheVariants as values
use Rattle.wjs_base.specs.Text.{Table}
use Rattle.wjs_by_content.specs.Values.{Text, Value, Undefined}
use Rattle.wjs_by_content.specs.Names.{Slot, index_name}
use Rattle.wjs_by_content.specs.Tables.{text_in, name_in, value_in, slot_in}
use Rattle.wjs_meaning.specs.Trees.{Tree, Place}
use Rattle.wjs_meaning.specs.Deeds.{Env, Reference, Local, Global, Member, Completion, Gives, Refers, Normal, Breaks, Continues, Returns, Throws}
use Rattle.wjs_model.specs.Frames.{earliest_first}
use Rattle.wjs_model.specs.declared.frame.Reference.{Reference as NumberedReference}
use Rattle.wjs_model.specs.declared.frame.Reference.TheVariants as references
use Rattle.wjs_model.specs.declared.frame.Completion.{Completion as NumberedCompletion}
use Rattle.wjs_model.specs.declared.frame.Completion.TheVariants as completions
use Rattle.wjs_model.specs.declared.frame.Held.{Held}
use Rattle.wjs_model.specs.declared.frame.Held.TheVariants as holds
use Rattle.wjs_model.specs.Units.{place_in}
use Rattle.wjs_model.specs.declared.operand.Operand.{Operand as NumberedOperand}
use Rattle.wjs_model.specs.declared.operand.Operand.TheVariants as operands
use Rattle.wjs_model.specs.declared.frame.Phase.{Phase}
use Rattle.wjs_model.specs.declared.frame.Phase.TheVariants as phases
use Rattle.wjs_model.specs.declared.point.Start.{Start}
use Rattle.wjs_model.specs.declared.point.Point.{Point}
use Rattle.wjs_model.specs.declared.frame.Activation.{Activation as NumberedFrame}

-- what a frame holds, by kind: the latest value, all values in the order in which they came, and the latest of each other kind
pub record Holding : Type 0 where
  pub value : Value
  pub values : List Value
  pub reference : Reference
  -- what is called, and its `this`
  pub callee : Value × Value
  -- the object whose elements are read, and how many
  pub elements : ObjId × ℕ
  -- what a `finally` may replace
  pub earlier : Completion
  -- what is still to visit, the next one first
  pub visits : List Slot

-- nothing is held
abbrev pub nothing : Holding
nothing = record { value = Undefined; values = []; reference = Member Undefined (index_name 0); callee = (Undefined, Undefined); elements = (record { owner = 0; serial = 0 }, 0); earlier = Normal; visits = [] }

-- a literal or `this`; a name at its place, for its value or as a target
pub data Operand : Type 0 where
  ValueOperand : Value → Operand
  NameOperand : Place → Text → Operand
  TargetOperand : Place → Text → Operand

-- when a frame goes on, and with what
pub data Moment : Type 0 where
  Due : Start → Moment
  Ready : Start → Moment
  Waiting : Point → Moment
  Given : Point → Completion → Moment
  Entering : Point → Operand → Moment

-- a node that is being run
pub record Frame : Type 0 where
  pub tree : ℕ
  pub node : ℕ
  pub moment : Moment
  pub scope : ObjId
  pub this : Value
  pub world : WorldId
  pub held : Holding

-- ---- what is held, the latest first

abbrev pub value_held : List Held → NumberedValue
value_held [] = values.Undefined
value_held (holds.Value v ∷ held) = v
value_held (_ ∷ held) = value_held held

-- the values, the latest first
abbrev pub values_held : List Held → List NumberedValue
values_held [] = []
values_held (holds.Value v ∷ held) = v ∷ values_held held
values_held (_ ∷ held) = values_held held

abbrev pub reference_held : List Held → NumberedReference
reference_held [] = references.Member values.Undefined (names.Index 0)
reference_held (holds.Reference r ∷ held) = r
reference_held (_ ∷ held) = reference_held held

abbrev pub callee_held : List Held → NumberedValue × NumberedValue
callee_held [] = (values.Undefined, values.Undefined)
callee_held (holds.Callee f this ∷ held) = (f, this)
callee_held (_ ∷ held) = callee_held held

abbrev pub elements_held : List Held → ObjId × ℕ
elements_held [] = (record { owner = 0; serial = 0 }, 0)
elements_held (holds.Elements o count ∷ held) = (o, count)
elements_held (_ ∷ held) = elements_held held

abbrev pub earlier_held : List Held → NumberedCompletion
earlier_held [] = completions.Normal
earlier_held (holds.Earlier c ∷ held) = c
earlier_held (_ ∷ held) = earlier_held held

abbrev pub visits_held : List Held → List NumberedSlot
visits_held [] = []
visits_held (holds.Visit s ∷ held) = s ∷ visits_held held
visits_held (_ ∷ held) = visits_held held

-- ---- under a table

module _ (texts : Table) where
  abbrev pub reference_in : NumberedReference → Reference
  reference_in (references.Local scope name) = Local scope (name_in texts name)
  reference_in (references.Global name) = Global (name_in texts name)
  reference_in (references.Member base name) = Member (value_in texts base) (name_in texts name)

  abbrev pub completion_in : NumberedCompletion → Completion
  completion_in (completions.Gives v) = Gives (value_in texts v)
  completion_in (completions.Refers r) = Refers (reference_in r)
  completion_in completions.Normal = Normal
  completion_in (completions.Breaks label) = Breaks (option_map (text_in texts) label)
  completion_in (completions.Continues label) = Continues (option_map (text_in texts) label)
  completion_in (completions.Returns v) = Returns (value_in texts v)
  completion_in (completions.Throws v) = Throws (value_in texts v)

  abbrev pub holding_in : List Held → Holding
  holding_in held = record {
    value = value_in texts (value_held held);
    values = earliest_first (each (value_in texts) (values_held held));
    reference = reference_in (reference_held held);
    callee = (value_in texts (callee_held held).0, value_in texts (callee_held held).1);
    elements = elements_held held;
    earlier = completion_in (earlier_held held);
    visits = each (slot_in texts) (visits_held held);
  }

  abbrev pub operand_in : NumberedOperand → Operand
  operand_in (operands.Value v) = ValueOperand (value_in texts v)
  operand_in (operands.Name place id) = NameOperand (place_in place) (text_in texts id)
  operand_in (operands.Target place id) = TargetOperand (place_in place) (text_in texts id)

  abbrev pub moment_in : Phase → Moment
  moment_in (phases.Due start) = Due start
  moment_in (phases.Ready start) = Ready start
  moment_in (phases.Waiting point) = Waiting point
  moment_in (phases.Given point c) = Given point (completion_in c)
  moment_in (phases.Entering point o) = Entering point (operand_in o)

  abbrev pub frame_in : NumberedFrame → Frame
  frame_in f = record {
    tree = f.tree;
    node = f.node.0;
    moment = moment_in f.phase;
    scope = f.scope;
    this = value_in texts f.this;
    world = f.world;
    held = holding_in f.held;
  }

-- ---- where a frame is run

-- the programs of a run, its global object, and who makes its objects
pub record Run : Type 0 where
  pub trees : List Tree
  pub global : ObjId
  pub owner : ℕ

abbrev pub env_of : Run → Frame → Env
env_of run f = record { trees = run.trees; tree = f.tree; scope = f.scope; this = f.this; world = f.world; global = run.global; owner = run.owner }

-- A configuration is as sound as the one of whose store only the meaning is left.
use Rattle.std.proofs.Common.{List, [], ◌∷◌, Option, None, Some}
use Rattle.std.proofs.lemmas.List.Elements.{All-weaker}
use Rattle.wjs_base.specs.declared.ids.ObjId.{ObjId}
use Rattle.wjs_base.specs.declared.ids.TextId.{TextId}
use Rattle.wjs_base.specs.declared.values.Name.{Name}
use Rattle.wjs_base.specs.declared.values.Value.{Value}
use Rattle.wjs_base.specs.declared.values.Value.TheVariants as values
use Rattle.wjs_base.specs.Text.{Has}
use Rattle.wjs_store.specs.Meaning.{Meaning}
use Rattle.wjs_model.specs.declared.config.Config.{Config}
use Rattle.wjs_model.specs.declared.config.State.{State}
use Rattle.wjs_model.specs.declared.config.State.TheVariants as states
use Rattle.wjs_model.specs.declared.frame.Activation.{Activation as Frame}
use Rattle.wjs_model.specs.declared.frame.Reference.{Reference}
use Rattle.wjs_model.specs.declared.frame.Reference.TheVariants as references
use Rattle.wjs_model.specs.declared.frame.Completion.{Completion}
use Rattle.wjs_model.specs.declared.frame.Completion.TheVariants as completions
use Rattle.wjs_model.specs.declared.frame.Held.{Held}
use Rattle.wjs_model.specs.declared.frame.Held.TheVariants as holds
use Rattle.wjs_model.specs.declared.point.Point.{Point}
use Rattle.wjs_model.specs.declared.point.Start.{Start}
use Rattle.wjs_model.specs.declared.point.Start.TheVariants as starts
use Rattle.wjs_model.specs.declared.frame.Phase.{Phase}
use Rattle.wjs_model.specs.declared.frame.Phase.TheVariants as phases
use Rattle.wjs_model.specs.declared.operand.Operand.{Operand}
use Rattle.wjs_model.specs.declared.operand.Operand.TheVariants as operands
use Rattle.wjs_model.specs.Soundness.{HasObject, HasName, HasValue, HasLabel, HasReference, HasCompletion, HasItem, HasItems, HasOperand, HasStart}
use Rattle.wjs_model.specs.Soundness.{HasPoint, HasPhase, HasThrown, IsStacked, Base, Sound}
use Rattle.wjs_tries.specs.Meant.{itself, meant}

-- ---- what is there in one is there in the other, where texts and objects are

module _ {S T : Type 0} (c : Config S) (d : Config T) (texts : (id : TextId) → Has c.heap.texts id → Has d.heap.texts id)
    (names : (n : Name) → HasName c n → HasName d n) (objects : (o : ObjId) → HasObject c o → HasObject d o) where
  value_across : (v : Value) → HasValue c v → HasValue d v
  value_across values.Undefined h = tt
  value_across values.Null h = tt
  value_across (values.Bool b) h = tt
  value_across (values.Number x) h = tt
  value_across (values.Text id) h = texts id h
  value_across (values.Object o) h = objects o h

  label_across : (l : Option TextId) → HasLabel c l → HasLabel d l
  label_across None h = tt
  label_across (Some id) h = texts id h

  reference_across : (r : Reference) → HasReference c r → HasReference d r
  reference_across (references.Local scope name) h = (objects scope h.0, names name h.1)
  reference_across (references.Global name) h = names name h
  reference_across (references.Member base name) h = (value_across base h.0, names name h.1)

  completion_across : (e : Completion) → HasCompletion c e → HasCompletion d e
  completion_across (completions.Gives v) h = value_across v h
  completion_across (completions.Refers r) h = reference_across r h
  completion_across completions.Normal h = tt
  completion_across (completions.Breaks l) h = label_across l h
  completion_across (completions.Continues l) h = label_across l h
  completion_across (completions.Returns v) h = value_across v h
  completion_across (completions.Throws v) h = value_across v h

  item_across : (i : Held) → HasItem c i → HasItem d i
  item_across (holds.Value v) h = value_across v h
  item_across (holds.Reference r) h = reference_across r h
  item_across (holds.Callee f this) h = (value_across f h.0, value_across this h.1)
  item_across (holds.Elements o count) h = objects o h
  item_across (holds.Earlier e) h = completion_across e h
  item_across (holds.Visit s) h = (objects s.object h.0, names s.name h.1)

  items_across : (is : List Held) → HasItems c is → HasItems d is
  items_across [] h = tt
  items_across (i ∷ is) h = (item_across i h.0, items_across is h.1)

  operand_across : (o : Operand) → HasOperand c o → HasOperand d o
  operand_across (operands.Value v) h = value_across v h
  operand_across (operands.Name place id) h = texts id h
  operand_across (operands.Target place id) h = texts id h

  start_across : (s : Start) → HasStart c s → HasStart d s
  start_across (starts.Body f) h = objects f h
  start_across s h = tt

  -- where what a point names is there, too
  phase_across : (f : Frame) → ((point : Point) → HasPoint c f point → HasPoint d f point) → (p : Phase) → HasPhase c f p → HasPhase d f p
  phase_across f points (phases.Due start) h = start_across start h
  phase_across f points (phases.Ready start) h = start_across start h
  phase_across f points (phases.Waiting point) h = points point h
  phase_across f points (phases.Given point e) h = (points point h.0, completion_across e h.1)
  phase_across f points (phases.Entering point o) h = (points point h.0, operand_across o h.1)

  thrown_across : (s : State) → HasThrown c s → HasThrown d s
  thrown_across (states.Threw v) h = value_across v h
  thrown_across states.Running h = tt
  thrown_across states.Done h = tt
  thrown_across states.StepsSpent h = tt

module _ {S : Type 0} (meaning : S → Meaning) (c : Config S) where
  there_to : (f : Frame) → IsStacked meaning c f → IsStacked itself (meant meaning c) f
  there_to f h = let d = meant meaning c in record {
    there = record {
      scope = h.there.scope;
      this = value_across c d (λ id k. k) (λ n k. k) (λ o k. k) f.this h.there.this;
      world = h.there.world;
      held = items_across c d (λ id k. k) (λ n k. k) (λ o k. k) f.held h.there.held;
      stands = h.there.stands;
    };
    phase = phase_across c d (λ id k. k) (λ n k. k) (λ o k. k) f (λ point k. k) f.phase h.phase;
  }

  there_from : (f : Frame) → IsStacked itself (meant meaning c) f → IsStacked meaning c f
  there_from f h = let d = meant meaning c in record {
    there = record {
      scope = h.there.scope;
      this = value_across d c (λ id k. k) (λ n k. k) (λ o k. k) f.this h.there.this;
      world = h.there.world;
      held = items_across d c (λ id k. k) (λ n k. k) (λ o k. k) f.held h.there.held;
      stands = h.there.stands;
    };
    phase = phase_across d c (λ id k. k) (λ n k. k) (λ o k. k) f (λ point k. k) f.phase h.phase;
  }

  base_to : Base meaning c → Base itself (meant meaning c)
  base_to b = record {
    heap = b.heap;
    works = b.works;
    global = b.global;
    world = b.world;
    builtins = b.builtins;
    units = b.units;
    places = b.places;
    functions = b.functions;
    worlds_own = b.worlds_own;
    worlds_by = b.worlds_by;
    own_worlds = b.own_worlds;
    own = b.own;
    near_objects = b.near_objects;
    near_slots = b.near_slots;
    frames = All-weaker (IsStacked meaning c) (IsStacked itself (meant meaning c)) there_to c.frames b.frames;
    marks = b.marks;
    told = b.told;
  }

  base_from : Base itself (meant meaning c) → Base meaning c
  base_from b = record {
    heap = b.heap;
    works = b.works;
    global = b.global;
    world = b.world;
    builtins = b.builtins;
    units = b.units;
    places = b.places;
    functions = b.functions;
    worlds_own = b.worlds_own;
    worlds_by = b.worlds_by;
    own_worlds = b.own_worlds;
    own = b.own;
    near_objects = b.near_objects;
    near_slots = b.near_slots;
    frames = All-weaker (IsStacked itself (meant meaning c)) (IsStacked meaning c) there_from c.frames b.frames;
    marks = b.marks;
    told = b.told;
  }

  pub sound_to : Sound meaning c → Sound itself (meant meaning c)
  sound_to s = record {
    base = base_to s.base;
    thrown = thrown_across c (meant meaning c) (λ id k. k) (λ n k. k) (λ o k. k) c.state s.thrown;
    running =
        s.running;
  }

  pub sound_from : Sound itself (meant meaning c) → Sound meaning c
  sound_from s = record {
    base = base_from s.base;
    thrown = thrown_across (meant meaning c) c (λ id k. k) (λ n k. k) (λ o k. k) c.state s.thrown;
    running =
        s.running;
  }

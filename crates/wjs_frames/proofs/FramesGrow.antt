-- Frames whose texts are there are the same under a table that has grown.
use Rattle.std.proofs.Common.{◌≡◌, List, [], ◌∷◌, refl, ap}
use Rattle.std.specs.Prelude.{map as each}
use Rattle.wjs_base.specs.declared.values.Name.{Name}
use Rattle.wjs_base.specs.declared.values.Name.TheVariants as names
use Rattle.wjs_base.specs.declared.values.Value.{Value}
use Rattle.wjs_base.specs.declared.values.Value.TheVariants as values
use Rattle.wjs_base.specs.Text.{Table, Grows}
use Rattle.wjs_store.specs.Meaning.{Meaning}
use Rattle.wjs_by_content.specs.Values.{Text, String}
use Rattle.wjs_by_content.specs.Names.{slot}
use Rattle.wjs_by_content.specs.Tables.{name_in, value_in, slot_in}
use Rattle.wjs_by_content.proofs.Growth.{text_stays}
use Rattle.wjs_meaning.specs.Deeds.{Local, Global, Member, Gives, Refers, Breaks, Continues, Returns, Throws}
use Rattle.wjs_model.specs.declared.config.Config.{Config}
use Rattle.wjs_model.specs.declared.frame.Reference.{Reference}
use Rattle.wjs_model.specs.declared.frame.Reference.TheVariants as references
use Rattle.wjs_model.specs.declared.frame.Completion.{Completion}
use Rattle.wjs_model.specs.declared.frame.Completion.TheVariants as completions
use Rattle.wjs_model.specs.declared.frame.Held.{Held}
use Rattle.wjs_model.specs.declared.frame.Held.TheVariants as holds
use Rattle.wjs_model.specs.Units.{place_in}
use Rattle.wjs_model.specs.declared.operand.Operand.{Operand}
use Rattle.wjs_model.specs.declared.operand.Operand.TheVariants as operands
use Rattle.wjs_model.specs.declared.frame.Phase.{Phase}
use Rattle.wjs_model.specs.declared.frame.Phase.TheVariants as phases
use Rattle.wjs_model.specs.declared.frame.Activation.{Activation as Frame}
use Rattle.wjs_model.specs.Frames.{earliest_first}
use Rattle.wjs_model.specs.Contents.{Given, Entering, ValueOperand, NameOperand, TargetOperand, operand_in, value_held, values_held, reference_held, callee_held, elements_held, earlier_held, visits_held, reference_in, completion_in, holding_in, moment_in, frame_in}
use Rattle.wjs_model.specs.Soundness.{HasName, HasValue, HasReference, HasCompletion, HasItems, HasOperand, HasPhase, IsStacked}
use Rattle.wjs_frames.proofs.NodesGrow.{label_grows}

module _ {S : Type 0} (c : Config S) (new : Table) (g : Grows c.heap.texts new) where
  name_grows : (n : Name) → HasName c n → name_in new n ≡ name_in c.heap.texts n
  name_grows (names.Index index) k = refl
  name_grows (names.Text id) k = text_stays c.heap.texts new g id k.0

  pub value_grows : (v : Value) → HasValue c v → value_in new v ≡ value_in c.heap.texts v
  value_grows values.Undefined k = refl
  value_grows values.Null k = refl
  value_grows (values.Bool b) k = refl
  value_grows (values.Number x) k = refl
  value_grows (values.Text id) k = ap String (text_stays c.heap.texts new g id k)
  value_grows (values.Object o) k = refl

  reference_grows : (r : Reference) → HasReference c r → reference_in new r ≡ reference_in c.heap.texts r
  reference_grows (references.Local scope name) k = ap (λ (n : Text). Local scope n) (name_grows name k.1)
  reference_grows (references.Global name) k = ap Global (name_grows name k)
  reference_grows (references.Member base name) k =
      let b = value_grows base k.0 in
      let n = name_grows name k.1 in
      λ i. Member (b i) (n i)

  completion_grows : (e : Completion) → HasCompletion c e → completion_in new e ≡ completion_in c.heap.texts e
  completion_grows (completions.Gives v) k = ap Gives (value_grows v k)
  completion_grows (completions.Refers r) k = ap Refers (reference_grows r k)
  completion_grows completions.Normal k = refl
  completion_grows (completions.Breaks label) k = ap Breaks (label_grows c.heap.texts new g label k)
  completion_grows (completions.Continues label) k = ap Continues (label_grows c.heap.texts new g label k)
  completion_grows (completions.Returns v) k = ap Returns (value_grows v k)
  completion_grows (completions.Throws v) k = ap Throws (value_grows v k)

  held_value_grows : (held : List Held) → HasItems c held → value_in new (value_held held) ≡ value_in c.heap.texts (value_held held)
  held_value_grows [] k = refl
  held_value_grows (holds.Value v ∷ held) k = value_grows v k.0
  held_value_grows (holds.Reference r ∷ held) k = held_value_grows held k.1
  held_value_grows (holds.Callee f this ∷ held) k = held_value_grows held k.1
  held_value_grows (holds.Elements o count ∷ held) k = held_value_grows held k.1
  held_value_grows (holds.Earlier e ∷ held) k = held_value_grows held k.1
  held_value_grows (holds.Visit s ∷ held) k = held_value_grows held k.1

  held_values_grow : (held : List Held) → HasItems c held → each (value_in new) (values_held held) ≡ each (value_in c.heap.texts) (values_held held)
  held_values_grow [] k = refl
  held_values_grow (holds.Value v ∷ held) k = let e = value_grows v k.0 in let more = held_values_grow held k.1 in λ i. e i ∷ more i
  held_values_grow (holds.Reference r ∷ held) k = held_values_grow held k.1
  held_values_grow (holds.Callee f this ∷ held) k = held_values_grow held k.1
  held_values_grow (holds.Elements o count ∷ held) k = held_values_grow held k.1
  held_values_grow (holds.Earlier e ∷ held) k = held_values_grow held k.1
  held_values_grow (holds.Visit s ∷ held) k = held_values_grow held k.1

  held_reference_grows : (held : List Held) → HasItems c held → reference_in new (reference_held held) ≡ reference_in c.heap.texts (reference_held held)
  held_reference_grows [] k = refl
  held_reference_grows (holds.Value v ∷ held) k = held_reference_grows held k.1
  held_reference_grows (holds.Reference r ∷ held) k = reference_grows r k.0
  held_reference_grows (holds.Callee f this ∷ held) k = held_reference_grows held k.1
  held_reference_grows (holds.Elements o count ∷ held) k = held_reference_grows held k.1
  held_reference_grows (holds.Earlier e ∷ held) k = held_reference_grows held k.1
  held_reference_grows (holds.Visit s ∷ held) k = held_reference_grows held k.1

  held_callee_grows : (held : List Held) → HasItems c held → value_in new (callee_held held).0 ≡ value_in c.heap.texts (callee_held held).0
  held_callee_grows [] k = refl
  held_callee_grows (holds.Value v ∷ held) k = held_callee_grows held k.1
  held_callee_grows (holds.Reference r ∷ held) k = held_callee_grows held k.1
  held_callee_grows (holds.Callee f this ∷ held) k = value_grows f (k.0).0
  held_callee_grows (holds.Elements o count ∷ held) k = held_callee_grows held k.1
  held_callee_grows (holds.Earlier e ∷ held) k = held_callee_grows held k.1
  held_callee_grows (holds.Visit s ∷ held) k = held_callee_grows held k.1

  held_this_grows : (held : List Held) → HasItems c held → value_in new (callee_held held).1 ≡ value_in c.heap.texts (callee_held held).1
  held_this_grows [] k = refl
  held_this_grows (holds.Value v ∷ held) k = held_this_grows held k.1
  held_this_grows (holds.Reference r ∷ held) k = held_this_grows held k.1
  held_this_grows (holds.Callee f this ∷ held) k = value_grows this (k.0).1
  held_this_grows (holds.Elements o count ∷ held) k = held_this_grows held k.1
  held_this_grows (holds.Earlier e ∷ held) k = held_this_grows held k.1
  held_this_grows (holds.Visit s ∷ held) k = held_this_grows held k.1

  held_earlier_grows : (held : List Held) → HasItems c held → completion_in new (earlier_held held) ≡ completion_in c.heap.texts (earlier_held held)
  held_earlier_grows [] k = refl
  held_earlier_grows (holds.Value v ∷ held) k = held_earlier_grows held k.1
  held_earlier_grows (holds.Reference r ∷ held) k = held_earlier_grows held k.1
  held_earlier_grows (holds.Callee f this ∷ held) k = held_earlier_grows held k.1
  held_earlier_grows (holds.Elements o count ∷ held) k = held_earlier_grows held k.1
  held_earlier_grows (holds.Earlier e ∷ held) k = completion_grows e k.0
  held_earlier_grows (holds.Visit s ∷ held) k = held_earlier_grows held k.1

  held_visits_grow : (held : List Held) → HasItems c held → each (slot_in new) (visits_held held) ≡ each (slot_in c.heap.texts) (visits_held held)
  held_visits_grow [] k = refl
  held_visits_grow (holds.Value v ∷ held) k = held_visits_grow held k.1
  held_visits_grow (holds.Reference r ∷ held) k = held_visits_grow held k.1
  held_visits_grow (holds.Callee f this ∷ held) k = held_visits_grow held k.1
  held_visits_grow (holds.Elements o count ∷ held) k = held_visits_grow held k.1
  held_visits_grow (holds.Earlier e ∷ held) k = held_visits_grow held k.1
  held_visits_grow (holds.Visit s ∷ held) k = let e = name_grows s.name (k.0).1 in let more = held_visits_grow held k.1 in λ i. slot s.object (e i) ∷ more i

  holding_grows : (held : List Held) → HasItems c held → holding_in new held ≡ holding_in c.heap.texts held
  holding_grows held k =
      let value = held_value_grows held k in
      let values = held_values_grow held k in
      let reference = held_reference_grows held k in
      let callee = held_callee_grows held k in
      let this = held_this_grows held k in
      let earlier = held_earlier_grows held k in
      let visits = held_visits_grow held k in
      λ i. record {
        value = value i;
        values = earliest_first (values i);
        reference = reference i;
        callee = (callee i, this i);
        elements = elements_held held;
        earlier = earlier i;
        visits = visits i;
      }

  operand_grows : (o : Operand) → HasOperand c o → operand_in new o ≡ operand_in c.heap.texts o
  operand_grows (operands.Value v) k = ap ValueOperand (value_grows v k)
  operand_grows (operands.Name place id) k = ap (NameOperand (place_in place)) (text_stays c.heap.texts new g id k)
  operand_grows (operands.Target place id) k = ap (TargetOperand (place_in place)) (text_stays c.heap.texts new g id k)

  moment_grows : (f : Frame) (p : Phase) → HasPhase c f p → moment_in new p ≡ moment_in c.heap.texts p
  moment_grows f (phases.Due start) k = refl
  moment_grows f (phases.Ready start) k = refl
  moment_grows f (phases.Waiting point) k = refl
  moment_grows f (phases.Given point e) k = ap (Given point) (completion_grows e k.1)
  moment_grows f (phases.Entering point o) k = ap (Entering point) (operand_grows o k.1)

  pub frame_grows : (meaning : S → Meaning) (f : Frame) → IsStacked meaning c f → frame_in new f ≡ frame_in c.heap.texts f
  frame_grows meaning f k =
      let moment = moment_grows f f.phase k.phase in
      let this = value_grows f.this k.there.this in
      let held = holding_grows f.held k.there.held in
      λ i. record {
        tree = f.tree;
        node = f.node.0;
        moment = moment i;
        scope = f.scope;
        this = this i;
        world = f.world;
        held = held i;
      }

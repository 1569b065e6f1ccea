-- An owner of whom no object is there, as one that is later than all that were drawn: nothing names an object of it.
use Rattle.std.proofs.Common.{◌≡◌, ℕ, ◌≤◌, ◌<◌, List, [], ◌∷◌, Option, None, Some, is_some, refl, sym, ap, ◌∙◌, arith, IsTrue}
use Rattle.std.specs.Option.{option_and_then}
use Rattle.std.specs.FinMap as map
use Rattle.std.proofs.lemmas.List.Elements.{All-weaker}
use Rattle.wjs_base.specs.declared.ids.ObjId.{ObjId}
use Rattle.wjs_base.specs.declared.values.Name.{Name}
use Rattle.wjs_base.specs.declared.values.Value.{Value}
use Rattle.wjs_base.specs.declared.values.Value.TheVariants as values
use Rattle.wjs_base.specs.Spelling.{IsName}
use Rattle.wjs_base.specs.Text.{Table}
use Rattle.wjs_store.specs.Meaning.{Meaning, Worlds}
use Rattle.wjs_arena.specs.Entries.{Objects, Entry, IsArena, has, joined}
use Rattle.wjs_arena.proofs.TakenOut.{joined_second}
use Rattle.wjs_by_content.specs.Renamed.{Holds}
use Rattle.wjs_heap.specs.Heap as heap
use Rattle.wjs_model.specs.declared.config.Config.{Config}
use Rattle.wjs_model.specs.declared.loaded.LoadedProgram.{LoadedProgram as Program}
use Rattle.wjs_model.specs.declared.frame.Activation.{Activation as Frame}
use Rattle.wjs_model.specs.declared.frame.Reference.{Reference}
use Rattle.wjs_model.specs.declared.frame.Reference.TheVariants as references
use Rattle.wjs_model.specs.declared.frame.Completion.{Completion}
use Rattle.wjs_model.specs.declared.frame.Completion.TheVariants as completions
use Rattle.wjs_model.specs.declared.frame.Held.{Held}
use Rattle.wjs_model.specs.declared.frame.Held.TheVariants as holds
use Rattle.wjs_model.specs.declared.point.Start.{Start}
use Rattle.wjs_model.specs.declared.point.Start.TheVariants as starts
use Rattle.wjs_model.specs.declared.frame.Phase.{Phase}
use Rattle.wjs_model.specs.declared.frame.Phase.TheVariants as phases
use Rattle.wjs_model.specs.declared.operand.Operand.{Operand}
use Rattle.wjs_model.specs.declared.operand.Operand.TheVariants as operands
use Rattle.wjs_model.specs.Soundness.{HasObject, HasValue, HasReference, HasCompletion, HasItem, HasItems, HasOperand, HasStart, HasPhase, IsStacked, Sound}
use Rattle.wjs_model.specs.Others.{Other, OtherIf, OtherValue, OtherReference, OtherCompletion, OtherItem, OtherItems, OtherOperand, OtherStart, OtherPhase, OtherFrame}
use Rattle.wjs_model.specs.Others.{OtherNamed}
use Rattle.wjs_session.specs.Session.{first_copy}
use Rattle.wjs_session.specs.Stores.{worlds_in}
use Rattle.wjs_tries.specs.declared.common.Common.{Common}
use Rattle.wjs_tries.specs.declared.common.Rested.{Rested}
use Rattle.wjs_tries.specs.Common.{IsCommon}
use Rattle.wjs_tries.specs.Hiding.{Hidden, Unaware}
use Rattle.wjs_tries.specs.Meant.{itself, Listed, resting}

-- ---- what is there is none of an owner of whom no object is there

module _ {S : Type 0} (c : Config S) (u : ℕ) (other : (o : ObjId) → HasObject c o → Other u o) where
  value_yet : (v : Value) → HasValue c v → OtherValue u v
  value_yet values.Undefined h = tt
  value_yet values.Null h = tt
  value_yet (values.Bool b) h = tt
  value_yet (values.Number x) h = tt
  value_yet (values.Text id) h = tt
  value_yet (values.Object o) h = other o h

  reference_yet : (r : Reference) → HasReference c r → OtherReference u r
  reference_yet (references.Local scope name) h = other scope h.0
  reference_yet (references.Global name) h = tt
  reference_yet (references.Member base name) h = value_yet base h.0

  completion_yet : (e : Completion) → HasCompletion c e → OtherCompletion u e
  completion_yet (completions.Gives v) h = value_yet v h
  completion_yet (completions.Refers r) h = reference_yet r h
  completion_yet completions.Normal h = tt
  completion_yet (completions.Breaks l) h = tt
  completion_yet (completions.Continues l) h = tt
  completion_yet (completions.Returns v) h = value_yet v h
  completion_yet (completions.Throws v) h = value_yet v h

  item_yet : (i : Held) → HasItem c i → OtherItem u i
  item_yet (holds.Value v) h = value_yet v h
  item_yet (holds.Reference r) h = reference_yet r h
  item_yet (holds.Callee f this) h = (value_yet f h.0, value_yet this h.1)
  item_yet (holds.Elements o count) h = other o h
  item_yet (holds.Earlier e) h = completion_yet e h
  item_yet (holds.Visit s) h = other s.object h.0

  items_yet : (is : List Held) → HasItems c is → OtherItems u is
  items_yet [] h = tt
  items_yet (i ∷ is) h = (item_yet i h.0, items_yet is h.1)

  operand_yet : (o : Operand) → HasOperand c o → OtherOperand u o
  operand_yet (operands.Value v) h = value_yet v h
  operand_yet (operands.Name place id) h = tt
  operand_yet (operands.Target place id) h = tt

  start_yet : (s : Start) → HasStart c s → OtherStart u s
  start_yet (starts.Body f) h = other f h
  start_yet s h = tt

  phase_yet : (f : Frame) (p : Phase) → HasPhase c f p → OtherPhase u p
  phase_yet f (phases.Due start) h = start_yet start h
  phase_yet f (phases.Ready start) h = start_yet start h
  phase_yet f (phases.Waiting point) h = tt
  phase_yet f (phases.Given point e) h = completion_yet e h.1
  phase_yet f (phases.Entering point o) h = operand_yet o h.1

  frame_yet : (meaning : S → Meaning) (f : Frame) → IsStacked meaning c f → OtherFrame u f
  frame_yet meaning f h = record {
    scope = other f.scope h.there.scope;
    this = value_yet f.this h.there.this;
    held = items_yet f.held h.there.held;
    phase = phase_yet f f.phase h.phase;
  }

-- ---- what is shared

-- what objects name is of no owner of whom none is there
module _ (t : Table) (arena : Objects) (u : ℕ) (not_of : (o : ObjId) → IsTrue (has arena o) → Other u o) where
  value_of : (v : Value) → heap.HasValue t arena v → OtherValue u v
  value_of values.Undefined h = tt
  value_of values.Null h = tt
  value_of (values.Bool b) h = tt
  value_of (values.Number x) h = tt
  value_of (values.Text id) h = tt
  value_of (values.Object o) h = not_of o h

  fixed_of : (xs : List (Name × Value)) → Holds (λ e. IsName t e.0 × heap.HasValue t arena e.1) xs → Holds (λ e. OtherValue u e.1) xs
  fixed_of [] h = tt
  fixed_of (x ∷ xs) h = (value_of x.1 (h.0).1, fixed_of xs h.1)

  module _ (is : IsArena arena) (o : ObjId) (e : Entry) (at : map.get arena o ≡ Some e) where
    prototype_of : (p : Option ObjId) → e.object.prototype ≡ p → OtherIf u p
    prototype_of None h = tt
    prototype_of (Some p) h = not_of p (is.prototypes o p (ap (option_and_then (λ (x : Entry). x.object.prototype)) at ∙ h)).0

    scope_of : (p : Option ObjId) → e.object.scope ≡ p → OtherIf u p
    scope_of None h = tt
    scope_of (Some p) h = not_of p (is.scopes o p (ap (option_and_then (λ (x : Entry). x.object.scope)) at ∙ h)).0

    pub named_other : heap.HasNamed t arena e.object → OtherNamed u e.object
    named_other h = record {
      prototype = prototype_of e.object.prototype refl;
      scope = scope_of e.object.scope refl;
      primitive = value_of e.object.primitive h.primitive;
      fixed = fixed_of e.object.fixed h.fixed;
    }

module _ (t : Table) (arena : Objects) (units : List Program) (F : Worlds) (drawn u : ℕ) (common : IsCommon t arena units F drawn) where
  -- an owner of whom none is there is hidden
  pub hidden_absent : ((o : ObjId) → IsTrue (has arena o) → Other u o) → Hidden arena (first_copy F) u
  hidden_absent none = record {
    slots = λ s v at. let h = common.slots s v at in (none s.object (h.0).object, value_of t arena u none v h.1);
    objects = λ o e at other. named_other t arena u none common.arena_is o e at (common.objects o e at);
  }

  pub none_yet : drawn < u → (o : ObjId) → IsTrue (has arena o) → Other u o
  none_yet later o h is = let le : o.owner ≤ drawn = common.object_owners o h in absurd (omega (arith, le, later, is))

  pub hidden_yet : drawn < u → Hidden arena (first_copy F) u
  hidden_yet later = hidden_absent (none_yet later)

-- ---- a try that rests

-- where no object of an owner is shared, nor is one its own, it is unaware of the owner
module _ (common : Common) (rest : Rested) (u : ℕ) (us : Listed) (sound : Sound itself (resting us common rest)) where
  abbrev c : Config Meaning
  c = resting us common rest

  pub unaware_absent : ((o : ObjId) → IsTrue (has (joined common.arena rest.objects) o) → Other u o) → Unaware common rest u
  unaware_absent none = record {
    slots = λ i s v at.
        let h = sound.base.heap.slots i s v at in (
          none s.object (h.0).object,
          value_of common.texts (joined common.arena rest.objects) u none v h.1,
        );
    frames = All-weaker (IsStacked itself c) (OtherFrame u) (frame_yet c u (λ o h. none o h.0) itself) rest.frames sound.base.frames;
  }

-- an object that is shared or rests with a try is of no owner of whom neither is
pub neither : (arena own : Objects) (u : ℕ) → ((o : ObjId) → IsTrue (has arena o) → Other u o) → ((o : ObjId) → IsTrue (has own o) → Other u o)
    → (o : ObjId) → IsTrue (has (joined arena own) o) → Other u o
neither arena own u one two o h = by (map.get arena o) refl
  where
    by : (r : Option Entry) → map.get arena o ≡ r → Other u o
    by None at = two o (sym (ap is_some (joined_second arena own o at)) ∙ h)
    by (Some e) at = one o (ap is_some at)

-- so it is with an owner that is later than all that were drawn
module _ (common : Common) (rest : Rested) (drawn u : ℕ) (known : IsCommon common.texts common.arena common.units.items (worlds_in common.shared) drawn)
    (owned : (o : ObjId) → IsTrue (has rest.objects o) → o.owner ≡ rest.owner) (drawn_too : rest.owner ≤ drawn)
    (later : drawn < u) (us : Listed) (sound : Sound itself (resting us common rest)) where
  pub none_later : (o : ObjId) → IsTrue (has (joined common.arena rest.objects) o) → Other u o
  none_later = neither common.arena rest.objects u
      (none_yet common.texts common.arena common.units.items (worlds_in common.shared) drawn u known later)
      (λ o h is. let own : o.owner ≡ rest.owner = owned o h in absurd (omega (arith, own, is, drawn_too, later)))

  pub unaware_yet : Unaware common rest u
  unaware_yet = unaware_absent common rest u us sound none_later

-- What is near is no listed owner's, and the other way round.
use Rattle.std.proofs.Common.{◌≡◌, ℕ, not, List, [], ◌∷◌, Option, None, Some, refl, sym, ap, ◌∙◌, subst, IsTrue}
use Rattle.std.specs.Prelude.{All}
use Rattle.std.specs.FinMap as map
use Rattle.std.proofs.lemmas.List.Elements.{All-nil, All-cons, All-head, All-tail, All-weaker}
use Rattle.wjs_base.specs.declared.ids.ObjId.{ObjId}
use Rattle.wjs_base.specs.declared.values.Name.{Name}
use Rattle.wjs_base.specs.declared.values.Value.{Value}
use Rattle.wjs_base.specs.declared.values.Value.TheVariants as values
use Rattle.wjs_base.proofs.Booleans.{by_bool}
use Rattle.wjs_store.specs.Meaning.{Meaning}
use Rattle.wjs_by_content.specs.Renamed.{Holds}
use Rattle.wjs_arena.specs.declared.object.Object.{Object}
use Rattle.wjs_arena.specs.Entries.{Entry}
use Rattle.wjs_meaning.specs.Builtins.{builtin}
use Rattle.wjs_model.specs.declared.frame.Reference.{Reference}
use Rattle.wjs_model.specs.declared.frame.Reference.TheVariants as references
use Rattle.wjs_model.specs.declared.frame.Completion.{Completion}
use Rattle.wjs_model.specs.declared.frame.Completion.TheVariants as completions
use Rattle.wjs_model.specs.declared.frame.Held.{Held}
use Rattle.wjs_model.specs.declared.frame.Held.TheVariants as holds
use Rattle.wjs_model.specs.declared.operand.Operand.{Operand}
use Rattle.wjs_model.specs.declared.operand.Operand.TheVariants as operands
use Rattle.wjs_model.specs.declared.point.Start.{Start}
use Rattle.wjs_model.specs.declared.point.Start.TheVariants as starts
use Rattle.wjs_model.specs.declared.frame.Phase.{Phase}
use Rattle.wjs_model.specs.declared.frame.Phase.TheVariants as phases
use Rattle.wjs_model.specs.declared.frame.Activation.{Activation as Frame}
use Rattle.wjs_model.specs.declared.config.Config.{Config}
use Rattle.wjs_model.specs.declared.config.State.{State}
use Rattle.wjs_model.specs.declared.config.State.TheVariants as states
use Rattle.wjs_model.specs.Configurations.{Stays}
use Rattle.wjs_model.specs.Apart.{is_apart, IsNear, NearValue, NearIf, NamesNear}
use Rattle.wjs_model.specs.Soundness.{HasObject, HasValue, HasReference, HasCompletion, HasItem, HasItems, HasOperand, HasStart, HasPhase, HasThrown, IsStacked, Base, Sound}
use Rattle.wjs_model.proofs.Apart.{not_both, no_worlds}
use Rattle.wjs_model.specs.Others.{Other, OtherIf, OtherValue, OtherReference, OtherCompletion, OtherItem, OtherItems, OtherOperand, OtherStart, OtherPhase, OtherState, OtherFrame, OtherNamed, KeptApart}

-- ---- what a sound configuration names is none of a listed owner

module _ {S : Type 0} (c : Config S) (u : ℕ) (a : IsTrue (is_apart c.apart.items u)) where
  other : (o : ObjId) → IsNear c.apart.items o → Other u o
  other o n e = not_both (is_apart c.apart.items u) a (subst (λ k. IsTrue (not (is_apart c.apart.items k))) e n)

  near_other : (v : Value) → NearValue c.apart.items v → OtherValue u v
  near_other values.Undefined h = tt
  near_other values.Null h = tt
  near_other (values.Bool b) h = tt
  near_other (values.Number x) h = tt
  near_other (values.Text id) h = tt
  near_other (values.Object o) h = other o h

  near_other_if : (o : Option ObjId) → NearIf c.apart.items o → OtherIf u o
  near_other_if None h = tt
  near_other_if (Some o) h = other o h

  near_other_fixed : (xs : List (Name × Value)) → Holds (λ e. NearValue c.apart.items e.1) xs → Holds (λ e. OtherValue u e.1) xs
  near_other_fixed [] h = tt
  near_other_fixed (x ∷ xs) h = (near_other x.1 h.0, near_other_fixed xs h.1)

  other_named : (x : Object) → NamesNear c.apart.items x → OtherNamed u x
  other_named x h = record { prototype = near_other_if x.prototype h.prototype; scope = near_other_if x.scope h.scope; primitive = near_other x.primitive h.primitive; fixed = near_other_fixed x.fixed h.fixed }

  other_value : (v : Value) → HasValue c v → OtherValue u v
  other_value values.Undefined h = tt
  other_value values.Null h = tt
  other_value (values.Bool b) h = tt
  other_value (values.Number x) h = tt
  other_value (values.Text id) h = tt
  other_value (values.Object o) h = other o h.1

  other_reference : (r : Reference) → HasReference c r → OtherReference u r
  other_reference (references.Local scope name) h = other scope h.0.1
  other_reference (references.Global name) h = tt
  other_reference (references.Member base name) h = other_value base h.0

  other_completion : (e : Completion) → HasCompletion c e → OtherCompletion u e
  other_completion (completions.Gives v) h = other_value v h
  other_completion (completions.Refers r) h = other_reference r h
  other_completion completions.Normal h = tt
  other_completion (completions.Breaks l) h = tt
  other_completion (completions.Continues l) h = tt
  other_completion (completions.Returns v) h = other_value v h
  other_completion (completions.Throws v) h = other_value v h

  other_item : (i : Held) → HasItem c i → OtherItem u i
  other_item (holds.Value v) h = other_value v h
  other_item (holds.Reference r) h = other_reference r h
  other_item (holds.Callee f this) h = (other_value f h.0, other_value this h.1)
  other_item (holds.Elements o count) h = other o h.1
  other_item (holds.Earlier e) h = other_completion e h
  other_item (holds.Visit s) h = other s.object h.0.1

  other_items : (is : List Held) → HasItems c is → OtherItems u is
  other_items [] h = tt
  other_items (i ∷ is) h = (other_item i h.0, other_items is h.1)

  other_operand : (o : Operand) → HasOperand c o → OtherOperand u o
  other_operand (operands.Value v) h = other_value v h
  other_operand (operands.Name place id) h = tt
  other_operand (operands.Target place id) h = tt

  other_start : (s : Start) → HasStart c s → OtherStart u s
  other_start (starts.Body f) h = other f h.1
  other_start s h = tt

  other_phase : (f : Frame) (p : Phase) → HasPhase c f p → OtherPhase u p
  other_phase f (phases.Due start) h = other_start start h
  other_phase f (phases.Ready start) h = other_start start h
  other_phase f (phases.Waiting point) h = tt
  other_phase f (phases.Given point e) h = other_completion e h.1
  other_phase f (phases.Entering point o) h = other_operand o h.1

  other_state : (s : State) → HasThrown c s → OtherState u s
  other_state (states.Threw v) h = other_value v h
  other_state states.Running h = tt
  other_state states.Done h = tt
  other_state states.StepsSpent h = tt

  other_frame : (meaning : S → Meaning) (f : Frame) → IsStacked meaning c f → OtherFrame u f
  other_frame meaning f h = record {
    scope = other f.scope h.there.scope.1;
    this = other_value f.this h.there.this;
    held = other_items f.held h.there.held;
    phase = other_phase f f.phase h.phase;
  }

  pub keeps_apart : (meaning : S → Meaning) → Sound meaning c
      → ((o : ObjId) (e : Entry) → map.get c.heap.arena o ≡ Some e → IsTrue (is_apart c.apart.items o.owner) → Other u o → OtherNamed u e.object)
      → KeptApart meaning c u
  keeps_apart meaning s rest =
      let b = s.base in
      record {
        no_worlds = λ o e w q k. no_worlds meaning c b o e w q (subst (λ n. IsTrue (is_apart c.apart.items n)) (sym k) a);
        slots = λ i s v q. let near = b.near_slots i s v q in (other s.object near.0, near_other v near.1);
        frames = All-weaker (IsStacked meaning c) (OtherFrame u) (other_frame meaning) c.frames b.frames;
        state = other_state c.state s.thrown;
        objects = λ o e q k. by_bool (is_apart c.apart.items o.owner) (λ h. rest o e q h k) (λ h. other_named e.object (b.near_objects o e q (ap not h)));
        global = other c.global b.global.1;
      }

-- ---- it stays so

module _ {S : Type 0} (meaning : S → Meaning) (old new : Config S) (u : ℕ) (was : Sound meaning old) (stays : Stays meaning old new) (kept : KeptApart meaning old u) where
  -- the objects of listed owners are those that there were
  as_before : (o : ObjId) (e : Entry) → map.get new.heap.arena o ≡ Some e → IsTrue (is_apart old.apart.items o.owner) → Other u o → OtherNamed u e.object
  as_before o e q a k = by (map.get old.heap.arena o) refl
    where
      same : (x : Entry) → map.get new.heap.arena o ≡ Some x → x ≡ e
      same x h = let f : Some x ≡ Some e = sym h ∙ q in cc

      by : (r : Option Entry) → map.get old.heap.arena o ≡ r → OtherNamed u e.object
      by None h = absurd (not_both (is_apart old.apart.items old.owner) (subst (λ n. IsTrue (is_apart old.apart.items n)) (stays.made o e h q) a) was.base.own)
      by (Some x) h = subst (λ (y : Entry). OtherNamed u y.object) (same x (stays.objects o x h)) (kept.objects o x h k)

  pub stays_apart : Sound meaning new → IsTrue (is_apart old.apart.items u) → KeptApart meaning new u
  stays_apart is a = keeps_apart new u (ap (λ v. is_apart v.items u) stays.apart ∙ a) meaning is (λ o e q h. as_before o e q (sym (ap (λ v. is_apart v.items o.owner) stays.apart) ∙ h))

-- ---- more owners are listed

module _ {S : Type 0} (c new : Config S) where
  abbrev us : List ℕ
  us = new.apart.items

  abbrev listed : Config S
  listed = record c { apart = new.apart }

  -- of each listed owner
  abbrev Each : (ℕ → Type 0) → Type 0
  Each P = (u : ℕ) → IsTrue (is_apart us u) → P u

  near_by : (k : ℕ) → Each (λ u. ¬ (k ≡ u)) → IsTrue (not (is_apart us k))
  near_by k h = by_bool (is_apart us k) (λ a. absurd (h k a refl)) (λ a. ap not a)

  near_value : (v : Value) → Each (λ u. OtherValue u v) → NearValue us v
  near_value values.Undefined k = tt
  near_value values.Null k = tt
  near_value (values.Bool b) k = tt
  near_value (values.Number x) k = tt
  near_value (values.Text id) k = tt
  near_value (values.Object o) k = near_by o.owner k

  near_if : (o : Option ObjId) → Each (λ u. OtherIf u o) → NearIf us o
  near_if None k = tt
  near_if (Some o) k = near_by o.owner k

  near_fixed : (xs : List (Name × Value)) → Each (λ u. Holds (λ e. OtherValue u e.1) xs) → Holds (λ e. NearValue us e.1) xs
  near_fixed [] k = tt
  near_fixed (x ∷ xs) k = (near_value x.1 (λ u a. (k u a).0), near_fixed xs (λ u a. (k u a).1))

  near_named : (x : Object) → Each (λ u. OtherNamed u x) → NamesNear us x
  near_named x k = record {
    prototype = near_if x.prototype (λ u a. (k u a).prototype);
    scope = near_if x.scope (λ u a. (k u a).scope);
    primitive = near_value x.primitive (λ u a. (k u a).primitive);
    fixed = near_fixed x.fixed (λ u a. (k u a).fixed);
  }

  object_listed : (o : ObjId) → HasObject c o → Each (λ u. Other u o) → HasObject listed o
  object_listed o h k = (h.0, near_by o.owner k)

  value_listed : (v : Value) → HasValue c v → Each (λ u. OtherValue u v) → HasValue listed v
  value_listed values.Undefined h k = tt
  value_listed values.Null h k = tt
  value_listed (values.Bool b) h k = tt
  value_listed (values.Number x) h k = tt
  value_listed (values.Text id) h k = h
  value_listed (values.Object o) h k = object_listed o h k

  reference_listed : (r : Reference) → HasReference c r → Each (λ u. OtherReference u r) → HasReference listed r
  reference_listed (references.Local scope name) h k = (object_listed scope h.0 k, h.1)
  reference_listed (references.Global name) h k = h
  reference_listed (references.Member base name) h k = (value_listed base h.0 k, h.1)

  completion_listed : (e : Completion) → HasCompletion c e → Each (λ u. OtherCompletion u e) → HasCompletion listed e
  completion_listed (completions.Gives v) h k = value_listed v h k
  completion_listed (completions.Refers r) h k = reference_listed r h k
  completion_listed completions.Normal h k = tt
  completion_listed (completions.Breaks l) h k = h
  completion_listed (completions.Continues l) h k = h
  completion_listed (completions.Returns v) h k = value_listed v h k
  completion_listed (completions.Throws v) h k = value_listed v h k

  item_listed : (i : Held) → HasItem c i → Each (λ u. OtherItem u i) → HasItem listed i
  item_listed (holds.Value v) h k = value_listed v h k
  item_listed (holds.Reference r) h k = reference_listed r h k
  item_listed (holds.Callee f this) h k = (value_listed f h.0 (λ u a. (k u a).0), value_listed this h.1 (λ u a. (k u a).1))
  item_listed (holds.Elements o count) h k = object_listed o h k
  item_listed (holds.Earlier e) h k = completion_listed e h k
  item_listed (holds.Visit s) h k = (object_listed s.object h.0 k, h.1)

  items_listed : (is : List Held) → HasItems c is → Each (λ u. OtherItems u is) → HasItems listed is
  items_listed [] h k = tt
  items_listed (i ∷ is) h k = (item_listed i h.0 (λ u a. (k u a).0), items_listed is h.1 (λ u a. (k u a).1))

  operand_listed : (o : Operand) → HasOperand c o → Each (λ u. OtherOperand u o) → HasOperand listed o
  operand_listed (operands.Value v) h k = value_listed v h k
  operand_listed (operands.Name place id) h k = h
  operand_listed (operands.Target place id) h k = h

  start_listed : (s : Start) → HasStart c s → Each (λ u. OtherStart u s) → HasStart listed s
  start_listed (starts.Body f) h k = object_listed f h k
  start_listed s h k = tt

  phase_listed : (f : Frame) (p : Phase) → HasPhase c f p → Each (λ u. OtherPhase u p) → HasPhase listed f p
  phase_listed f (phases.Due start) h k = start_listed start h k
  phase_listed f (phases.Ready start) h k = start_listed start h k
  phase_listed f (phases.Waiting point) h k = h
  phase_listed f (phases.Given point e) h k = (h.0, completion_listed e h.1 k)
  phase_listed f (phases.Entering point o) h k = (h.0, operand_listed o h.1 k)

  thrown_listed : (s : State) → HasThrown c s → Each (λ u. OtherState u s) → HasThrown listed s
  thrown_listed (states.Threw v) h k = value_listed v h k
  thrown_listed states.Running h k = tt
  thrown_listed states.Done h k = tt
  thrown_listed states.StepsSpent h k = tt

  module _ (meaning : S → Meaning) where
    frame_listed : (f : Frame) → IsStacked meaning c f → Each (λ u. OtherFrame u f) → IsStacked meaning listed f
    frame_listed f h k = record {
      there = record {
        scope = object_listed f.scope h.there.scope (λ u a. (k u a).scope);
        this = value_listed f.this h.there.this (λ u a. (k u a).this);
        world = h.there.world;
        held = items_listed f.held h.there.held (λ u a. (k u a).held);
        stands = h.there.stands;
      };
      phase = phase_listed f f.phase h.phase (λ u a. (k u a).phase);
    }

    frames_listed : (fs : List Frame) → All (IsStacked meaning c) fs → Each (λ u. All (OtherFrame u) fs) → All (IsStacked meaning listed) fs
    frames_listed [] h k = All-nil (IsStacked meaning listed)
    frames_listed (f ∷ fs) h k =
        let here = frame_listed f (All-head (IsStacked meaning c) f fs h) (λ u a. All-head (OtherFrame u) f fs (k u a)) in
        All-cons (IsStacked meaning listed) f fs here (frames_listed fs (All-tail (IsStacked meaning c) f fs h) (λ u a. All-tail (OtherFrame u) f fs (k u a)))

    module _ (s : Sound meaning c) (k : (u : ℕ) → IsTrue (is_apart us u) → ¬ (u ≡ 0) × (¬ (u ≡ c.owner) × KeptApart meaning c u)) where
      kept : (u : ℕ) → IsTrue (is_apart us u) → KeptApart meaning c u
      kept u a = (k u a).1.1

      first : Each (λ u. ¬ (0 ≡ u))
      first u a e = (k u a).0 (sym e)

      mine : Each (λ u. ¬ (c.owner ≡ u))
      mine u a e = (k u a).1.0 (sym e)

      -- an object that is near is none of a listed owner
      not_of : (o : ObjId) → IsNear us o → Each (λ u. Other u o)
      not_of o n u a e = not_both (is_apart us u) a (subst (λ m. IsTrue (not (is_apart us m))) e n)

      base_listed : Base meaning listed
      base_listed =
          let b = s.base in
          record {
            heap = b.heap;
            works = b.works;
            global = object_listed c.global b.global (λ u a. (kept u a).global);
            world = b.world;
            builtins = λ k. object_listed (builtin k) (b.builtins k) first;
            units = b.units;
            places = b.places;
            functions = b.functions;
            worlds_own = b.worlds_own;
            worlds_by = b.worlds_by;
            own_worlds = b.own_worlds;
            own = near_by c.owner mine;
            near_objects = λ o e q n. near_named e.object (λ u a. (kept u a).objects o e q (not_of o n u a));
            near_slots = λ i s v q. (near_by s.object.owner (λ u a. ((kept u a).slots i s v q).0), near_value v (λ u a. ((kept u a).slots i s v q).1));
            frames = frames_listed c.frames b.frames (λ u a. (kept u a).frames);
            marks = b.marks;
            told = b.told;
          }

      pub sound_listed : new ≡ listed → Sound meaning new
      sound_listed e = subst (Sound meaning) (sym e) (record { base = base_listed; thrown = thrown_listed c.state s.thrown (λ u a. (kept u a).state); running = s.running })

-- Deeds that find something and change nothing.
use Rattle.std.proofs.Common.{◌≡◌, ℕ, Bool, true, false, Option, None, Some, refl, sym, ap, ◌∙◌, length}
use Rattle.std.specs.Prelude.{IfSome}
use Rattle.wjs_base.specs.declared.ids.ObjId.{ObjId}
use Rattle.wjs_base.specs.declared.ids.TextId.{TextId}
use Rattle.wjs_base.specs.declared.values.Value.{Value as Numbered}
use Rattle.wjs_base.specs.declared.values.Value.TheVariants as values
use Rattle.wjs_base.specs.declared.ids.WorldId.{WorldId}
use Rattle.wjs_base.specs.Text.{Table, Grows}
use Rattle.wjs_store.specs.Meaning.{Meaning}
use Rattle.wjs_by_content.specs.Names.{length_name}
use Rattle.wjs_by_content.specs.Objects.{Arena, scope_up}
use Rattle.wjs_by_content.specs.Plans.{Plan}
use Rattle.wjs_by_content.specs.Tables.{arena_in, value_in}
use Rattle.wjs_by_content.specs.Values.{Text, Value, String, whole, same_text}
use Rattle.wjs_heap.specs.Heap.{Performs}
use Rattle.wjs_heap.specs.Means.{parts}
use Rattle.wjs_meaning.specs.Builtins.{class_prototype}
use Rattle.wjs_meaning.specs.Trees.{Place}
use Rattle.wjs_meaning.specs.Deeds.{Env, Act, Do, Look, Local, Global, Completion, carry_out}
use Rattle.wjs_meaning.specs.Properties.{get_value}
use Rattle.wjs_meaning.specs.References.{member_value, text_member}
use Rattle.wjs_model.specs.declared.config.Config.{Config}
use Rattle.wjs_model.specs.declared.frame.Activation.{Activation as Frame}
use Rattle.wjs_model.specs.Operands.{evaluated, named}
use Rattle.wjs_model.specs.Outside.{Sees}
use Rattle.wjs_frames.specs.Parts.{env_in}
use Rattle.wjs_heap_steps.specs.Peeking.{Peeks}
use Rattle.wjs_heap_steps.proofs.Running.{does_ran}
use Rattle.wjs_heap_steps.proofs.Steps.{ran_plan, ran_actions, ran_look}
use Rattle.wjs_heap_steps.proofs.Composing.{does_then, does_map, does_same, does_at_once}

-- of every value that is found
pub if_some : {A : Type 0} (P Q : A → Type 0) (r : Option A) → ((v : A) → P v → Q v) → IfSome r P → IfSome r Q
if_some P Q (Some v) f h = f v h
if_some P Q None f h = tt

-- a text's own `length`
pub length_is : (text name : Text) (v : Value) (env : Env) (go : Value → Act) → same_text name length_name ≡ true → v ≡ whole (length text) → go v ≡ text_member text name env go
length_is text name v env go e is = ap go is ∙ sym (ap (λ (b : Bool). elim b [ true ↦ go (whole (length text)) | false ↦ get_value (class_prototype (String text)) name env go ]) e)

-- every other name is that of its prototype
pub other_is : (text name : Text) (env : Env) (go : Value → Act) → same_text name length_name ≡ false → get_value (class_prototype (String text)) name env go ≡ text_member text name env go
other_is text name env go e = sym (ap (λ (b : Bool). elim b [ true ↦ go (whole (length text)) | false ↦ get_value (class_prototype (String text)) name env go ]) e)

-- and of every other primitive each name
pub primitive_is : (v : Numbered) (t : Table) (name : Text) (env : Env) (go : Value → Act) → ((id : TextId) → ¬ (v ≡ values.Text id)) → ((o : ObjId) → ¬ (v ≡ values.Object o)) → get_value (class_prototype (value_in t v)) name env go ≡ member_value (value_in t v) name env go
primitive_is values.Undefined t name env go no_text no_object = refl
primitive_is values.Null t name env go no_text no_object = refl
primitive_is (values.Bool b) t name env go no_text no_object = refl
primitive_is (values.Number x) t name env go no_text no_object = refl
primitive_is (values.Text id) t name env go no_text no_object = absurd (no_text id refl)
primitive_is (values.Object o) t name env go no_text no_object = absurd (no_object o refl)

module _ {S : Type 0} (meaning : S → Meaning) where
  abbrev with_left : Config S → ℕ → Config S
  with_left c left = record c { left = left }

  pub peeks_at_once : {A : Type 0} (answer : Table → A) (c : Config S) → Peeks meaning (λ t go. go (answer t)) answer c
  peeks_at_once answer c = λ left. does_at_once meaning answer (with_left c left)

  -- the same deeds under every table that comes after
  pub peeks_as : {A : Type 0} (deeds others : Table → (A → Act) → Act) (answer : Table → A) (c : Config S) → ((t : Table) → Grows c.heap.texts t → (go : A → Act) → deeds t go ≡ others t go) → Peeks meaning deeds answer c → Peeks meaning others answer c
  peeks_as deeds others answer c e p = λ left. does_same meaning deeds others answer answer (with_left c left) (with_left c left) e (λ t g. refl) (p left)

  pub peeks_map : {A B : Type 0} (deeds : Table → (A → Act) → Act) (answer : Table → A) (f : Table → A → B) (c : Config S) → Peeks meaning deeds answer c → Peeks meaning (λ t go. deeds t (λ x. go (f t x))) (λ t. f t (answer t)) c
  peeks_map deeds answer f c p = λ left. does_map meaning deeds answer f (with_left c left) (with_left c left) (p left)

  pub peeks_then : {A B : Type 0} (deeds : Table → (A → Act) → Act) (answer : Table → A) (more : Table → A → (B → Act) → Act) (last : Table → B) (c : Config S) → Peeks meaning deeds answer c → Peeks meaning (λ t. more t (answer t)) last c → Peeks meaning (λ t go. deeds t (λ x. more t x go)) last c
  peeks_then deeds answer more last c p q = λ left. does_then meaning deeds answer more last (with_left c left) (with_left c left) (with_left c left) (p left) (q left)

  -- a look at the objects
  pub peeks_look : {A : Type 0} (seen : Table → Arena → A) (answer : Table → A) (c : Config S) → ((t : Table) → Grows c.heap.texts t → (arena : Arena) → Sees meaning c t arena → seen t arena ≡ answer t) → Peeks meaning (λ t go. Do Look (λ arena. go (seen t arena))) answer c
  peeks_look seen answer c is = λ left. does_ran meaning _ _ (with_left c left) (with_left c left) (ran_look meaning seen answer (with_left c left) is)

  -- a plan that changes nothing
  pub peeks_plan : {A : Type 0} (w : WorldId) (plan : Table → Arena → Plan A) (answer : Table → A) (c : Config S) → ((t : Table) (arena : Arena) → Sees meaning c t arena → plan t arena ≡ plan t (arena_in t c.heap.arena))
      → Performs w (λ t. plan t (arena_in t c.heap.arena)) answer (parts meaning c.heap) (parts meaning c.heap) → Peeks meaning (λ t go. Do Look (λ arena. carry_out (plan t arena) w go)) answer c
  peeks_plan w plan answer c alike p = λ left. does_ran meaning _ _ (with_left c left) (with_left c left) (ran_plan meaning w plan answer (with_left c left) c.heap alike p)

  pub peeks_actions : {A : Type 0} (w : WorldId) (plan : Table → Plan A) (answer : Table → A) (c : Config S) → Performs w plan answer (parts meaning c.heap) (parts meaning c.heap) → Peeks meaning (λ t go. carry_out (plan t) w go) answer c
  peeks_actions w plan answer c p = λ left. does_ran meaning _ _ (with_left c left) (with_left c left) (ran_actions meaning w plan answer (with_left c left) c.heap p)

  -- a global name
  pub peeks_global : (c : Config S) (f : Frame) (text name : Table → Text) (answer : Table → Completion) → ((t : Table) → Grows c.heap.texts t → name t ≡ text t) → Peeks meaning (λ t. evaluated (Global (name t)) (env_in meaning c t f)) answer c → Peeks meaning (λ t. named Place.Global (text t) (env_in meaning c t f)) answer c
  peeks_global c f text name answer same p = peeks_as (λ t. evaluated (Global (name t)) (env_in meaning c t f)) (λ t. named Place.Global (text t) (env_in meaning c t f)) answer c (λ t g go. ap (λ (n : Text). evaluated (Global n) (env_in meaning c t f) go) (same t g)) p

  -- a name so many scopes out
  pub peeks_out : (c : Config S) (f : Frame) (hops : ℕ) (from out : ObjId) (text name : Table → Text) (answer : Table → Completion) → from ≡ f.scope → ((t : Table) (arena : Arena) → Sees meaning c t arena → scope_up arena hops from ≡ out) → ((t : Table) → Grows c.heap.texts t → name t ≡ text t)
      → Peeks meaning (λ t. evaluated (Local out (name t)) (env_in meaning c t f)) answer c → Peeks meaning (λ t. named (Place.Local hops) (text t) (env_in meaning c t f)) answer c
  peeks_out c f hops from out text name answer at is same p =
      peeks_then (λ t go. Do Look (λ arena. go (scope_up arena hops f.scope))) (λ t. out) (λ t x go. evaluated (Local x (text t)) (env_in meaning c t f) go) answer c
      (peeks_look (λ t arena. scope_up arena hops f.scope) (λ t. out) c (λ t g arena s. ap (scope_up arena hops) (sym at) ∙ is t arena s))
      (peeks_as (λ t. evaluated (Local out (name t)) (env_in meaning c t f)) (λ t. evaluated (Local out (text t)) (env_in meaning c t f)) answer c (λ t g go. ap (λ (n : Text). evaluated (Local out n) (env_in meaning c t f) go) (same t g)) p)

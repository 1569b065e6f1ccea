-- The text of a thrown value, as what the worlds and the objects give.
use Rattle.std.proofs.Common.{◌≡◌, ℕ, List, [], ◌∷◌, ◌++◌, Option, None, Some, refl, sym, ap, ◌∙◌}
use Rattle.wjs_base.specs.declared.ids.ObjId.{ObjId}
use Rattle.wjs_base.specs.declared.ids.WorldId.{WorldId}
use Rattle.wjs_base.specs.declared.values.Value.{Value as NumberedValue}
use Rattle.wjs_base.specs.Unicode.{utf8_of}
use Rattle.wjs_store.specs.Meaning.{Meaning, worlds}
use Rattle.wjs_store.specs.State.{State, read, write, list, content_at, after, first_world}
use Rattle.wjs_arena.specs.declared.class.Class.{Class}
use Rattle.wjs_arena.specs.declared.class.Class.TheVariants as class
use Rattle.wjs_by_content.specs.Values.{Value, Undefined, Null, Boolean, Number, String, Object}
use Rattle.wjs_by_content.specs.Names.{content, name_name, message_name}
use Rattle.wjs_by_content.specs.Objects.{Arena, object_at}
use Rattle.wjs_by_content.specs.Plans.{Plan, Gives, Reads, Writes, Lists, Told, told_of, names_at, answer_of, worlds_after}
use Rattle.wjs_by_content.specs.Tables.{value_in, arena_in}
use Rattle.wjs_by_content.specs.Worlds.{worlds_in}
use Rattle.wjs_by_content.specs.Properties as plan
use Rattle.wjs_meaning.specs.Builtins.{global_object, shown_class}
use Rattle.wjs_meaning.specs.Deeds.{St, Act, Env, Next, interp, carry_out, give}
use Rattle.wjs_meaning.specs.NativesOfObjects.{fault_text, object_text}
use Rattle.wjs_meaning.specs.Properties as line
use Rattle.wjs_meaning.specs.Programs.{env_of_program, given_text, no_goals, shown_in}
use Rattle.wjs_model.specs.declared.config.Config.{Config}
use Rattle.wjs_reports.specs.Thrown.{Shows, ShowsIn, text_if, shown_fault, shown_by, shown_value}

-- a plan that is carried out goes on with its answer, in the worlds that it leaves
carried : {A : Type 0} (next : Next) (p : Plan A) (w : WorldId) (go : A → Act) (st : St) (n : ℕ) → (done : List Told) × (interp next (carry_out p w go) st n ≡ interp next (go (answer_of p w st.full)) (record st { full = worlds_after p w st.full; done = done }) n)
carried next (Gives a) w go st n = (st.done, refl)
carried next (Reads s more) w go st n = carried next (more (content_at st.full w s)) w go (record st { full = after st.full (read w s); done = st.done ++ told_of st.full (read w s) ∷ [] }) n
carried next (Writes s c more) w go st n = carried next more w go (record st { full = after st.full (write w s c); done = st.done ++ told_of st.full (write w s c) ∷ [] }) n
carried next (Lists o more) w go st n = carried next (more (names_at st.full w o)) w go (record st { full = after st.full (list w o); done = st.done ++ told_of st.full (list w o) ∷ [] }) n

-- in a world, on a global object and for an owner
module _ (world : WorldId) (global : ObjId) (owner : ℕ) where
  abbrev env : Env
  env = env_of_program [] 0 world global owner

  fault_is : (o : ObjId) (st : St) → given_text (interp no_goals (object_text class.Fault o env (λ t. give (String t))) st 0) ≡ shown_fault st.arena st.full world o
  fault_is o st =
      let first = plan.get st.arena o name_name in
      let second = plan.get st.arena o message_name in
      let a = carried no_goals first world (λ name. line.get o message_name env (λ message. give (String (fault_text name message)))) st 0 in
      let mid : St = record st { full = worlds_after first world st.full; done = a.0 } in
      let b = carried no_goals second world (λ message. give (String (fault_text (answer_of first world st.full) message))) mid 0 in
      ap given_text (a.1 ∙ b.1)

  by_class : (c : Class) (o : ObjId) (st : St) → given_text (interp no_goals (object_text c o env (λ t. give (String t))) st 0) ≡ shown_by c st.arena st.full world o
  by_class class.Fault o st = fault_is o st
  by_class class.Plain o st = refl
  by_class class.Function o st = refl
  by_class class.Array o st = refl
  by_class class.Text o st = refl
  by_class class.Bool o st = refl
  by_class class.Number o st = refl
  by_class class.World o st = refl
  by_class class.Math o st = refl
  by_class class.Arguments o st = refl
  by_class class.Global o st = refl
  by_class class.Scope o st = refl

  shown_is : (v : Value) (st : St) → shown_in world global owner v st ≡ shown_value v st.arena st.full world
  shown_is (Object o) st = by_class (object_at st.arena o).class o st
  shown_is Undefined st = refl
  shown_is Null st = refl
  shown_is (Boolean b) st = refl
  shown_is (Number x) st = refl
  shown_is (String t) st = refl

-- an object that is no error
pub shown_other : (c : Class) → (c ≡ class.Fault → ⊥) → (arena : Arena) (full : State content) (w : WorldId) (o : ObjId) → shown_class c ≡ shown_by c arena full w o
shown_other class.Fault h arena full w o = absurd (h refl)
shown_other class.Plain h arena full w o = refl
shown_other class.Function h arena full w o = refl
shown_other class.Array h arena full w o = refl
shown_other class.Text h arena full w o = refl
shown_other class.Bool h arena full w o = refl
shown_other class.Number h arena full w o = refl
shown_other class.World h arena full w o = refl
shown_other class.Math h arena full w o = refl
shown_other class.Arguments h arena full w o = refl
shown_other class.Global h arena full w o = refl
shown_other class.Scope h arena full w o = refl

module _ {S : Type 0} (meaning : S → Meaning) (c : Config S) (value : NumberedValue) (bytes : List ℕ) where
  -- the bytes are the text of a thrown value
  pub shows_value : bytes ≡ utf8_of (shown_value (value_in c.heap.texts value) (arena_in c.heap.texts c.heap.arena) (worlds_in c.heap.texts (worlds (meaning c.heap.store))) c.world) → ShowsIn meaning c value bytes
  shows_value is st full arena =
      let v = value_in c.heap.texts value in
      is ∙ ap utf8_of ((λ i. shown_value v (sym arena i) (sym full i) c.world) ∙ sym (shown_is c.world c.global c.owner v st))

  -- where its world is the first of all, they are that of a run from the start
  pub shows_first : c.world ≡ first_world → ShowsIn meaning c value bytes → Shows meaning c value bytes
  shows_first first shows st full arena =
      let v = value_in c.heap.texts value in
      shows st full arena
      ∙ ap utf8_of (shown_is c.world c.global c.owner v st ∙ ap (shown_value v st.arena st.full) first ∙ sym (shown_is first_world global_object 0 v st))

-- where a text is missing, the class alone is shown
pub no_name : (name message : Option Value) → text_if name ≡ None → shown_class class.Fault ≡ fault_text name message
no_name None message e = refl
no_name (Some Undefined) message e = refl
no_name (Some Null) message e = refl
no_name (Some (Boolean b)) message e = refl
no_name (Some (Number x)) message e = refl
no_name (Some (String t)) message e = cc
no_name (Some (Object o)) message e = refl

pub no_message : (name message : Option Value) → text_if message ≡ None → shown_class class.Fault ≡ fault_text name message
no_message None message e = refl
no_message (Some Undefined) message e = refl
no_message (Some Null) message e = refl
no_message (Some (Boolean b)) message e = refl
no_message (Some (Number x)) message e = refl
no_message (Some (Object o)) message e = refl
no_message (Some (String t)) None e = refl
no_message (Some (String t)) (Some Undefined) e = refl
no_message (Some (String t)) (Some Null) e = refl
no_message (Some (String t)) (Some (Boolean b)) e = refl
no_message (Some (String t)) (Some (Number x)) e = refl
no_message (Some (String t)) (Some (String u)) e = cc
no_message (Some (String t)) (Some (Object o)) e = refl

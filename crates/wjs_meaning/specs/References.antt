-- References: what a name or a member stands for, its value, and a store to it (ECMA-262, 3rd edition, section 8.7).
use Rattle.std.specs.Prelude.{true, false, length, Option, None, Some}
use Rattle.wjs_by_content.specs.Values.{Text, Value, String, Object, whole, value_or_undefined, same_text}
use Rattle.wjs_by_content.specs.Names.{slot, length_name}
use Rattle.wjs_by_content.specs.Objects.{fixed, scope_up}
use Rattle.wjs_meaning.specs.declared.trouble.Trouble.TheVariants.{NotDefined, InvalidArrayLength}
use Rattle.wjs_meaning.specs.Builtins.{class_prototype}
use Rattle.wjs_meaning.specs.Trees.{Place}
use Rattle.wjs_meaning.specs.Deeds.{Env, Act, Do, Read, Write, Look, Reference, Local, Global, Member}
use Rattle.wjs_by_content.specs.declared.answers.PutAnswer.{PutAnswer}
use Rattle.wjs_by_content.specs.declared.answers.PutAnswer.TheVariants.{Done, Ignored, BadLength}
use Rattle.wjs_meaning.specs.Properties.{get, get_value, put}
use Rattle.wjs_meaning.specs.Errors.{throw, throw_named}

-- the reference of a name (10.1.4)
abbrev pub reference_at : Place → Text → Env → (Reference → Act) → Act
reference_at Place.Global name env go = go (Global name)
reference_at (Place.Local hops) name env go = Do Look (λ arena. go (Local (scope_up arena hops env.scope) name))

-- a text's own property `length`; every other name is looked up on the prototype object of its class
abbrev pub text_member : Text → Text → Env → (Value → Act) → Act
text_member t name env go = elim (same_text name length_name) [ true ↦ go (whole (length t)) | false ↦ get_value (class_prototype (String t)) name env go ]

-- the value of a member, where absent counts as undefined
abbrev pub member_value : Value → Text → Env → (Value → Act) → Act
member_value (Object o) name env go = get_value o name env go
member_value (String t) name env go = text_member t name env go
member_value v name env go = get_value (class_prototype v) name env go

-- an absent global name throws
abbrev pub defined_value : Text → Env → (Value → Act) → Option Value → Act
defined_value name env go None = throw_named NotDefined name env
defined_value name env go (Some v) = go v

-- GetValue (8.7.1): of a local name the fixed value of a function's own name, or what the slot holds
abbrev pub value_of : Reference → Env → (Value → Act) → Act
value_of (Local scope name) env go = Do Look (λ arena. elim (fixed arena scope name) [
  | Some v ↦ go v
  | None ↦ Do (Read env.world (slot scope name)) (λ found. go (value_or_undefined found))
])
value_of (Global name) env go = get env.global name env (defined_value name env go)
value_of (Member base name) env go = member_value base name env go

-- what follows a [[Put]]
abbrev pub after_put : Env → Act → PutAnswer → Act
after_put env a Done = a
after_put env a Ignored = a
after_put env a BadLength = throw InvalidArrayLength env

-- PutValue (8.7.2): a function's own name and a member of a primitive stay as they are
abbrev pub store : Reference → Value → Env → Act → Act
store (Local scope name) v env a = Do Look (λ arena. elim (fixed arena scope name) [
  | Some old ↦ a
  | None ↦ Do (Write env.world (slot scope name) (Some v)) (λ done. a)
])
store (Global name) v env a = put env.global name v env (after_put env a)
store (Member (Object o) name) v env a = put o name v env (after_put env a)
store (Member base name) v env a = a

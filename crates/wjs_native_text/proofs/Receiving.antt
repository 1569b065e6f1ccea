-- Values that are of no kind are no receivers.
use Rattle.std.proofs.Common.{◌≡◌, Bool, true, false, [], refl}
use Rattle.wjs_base.specs.declared.ids.TextId.{TextId}
use Rattle.wjs_base.specs.declared.number.Whole.{Whole as NumberedWhole}
use Rattle.wjs_base.specs.declared.values.Value.{Value as NumberedValue}
use Rattle.wjs_base.specs.declared.values.Value.TheVariants as values
use Rattle.wjs_base.specs.Text.{Table}
use Rattle.wjs_by_content.specs.Tables.{value_in}
use Rattle.wjs_by_content.specs.Values.{Value, Undefined, Null, Boolean, Number, String, Object}
use Rattle.wjs_by_content.specs.Conversions.{is_text}
use Rattle.wjs_meaning.specs.declared.trouble.Trouble.TheVariants.{WrongReceiver}
use Rattle.wjs_meaning.specs.Deeds.{Env, Act}
use Rattle.wjs_meaning.specs.Errors.{throw}
use Rattle.wjs_meaning.specs.NativesOfObjects.{text_of}
use Rattle.wjs_meaning.specs.NativesOfTexts.{receiver, is_number, is_truth}
use Rattle.wjs_native_text.specs.Receivers.{primitive_then}

-- what is done with a primitive of a receiver
abbrev pub received : (Value → Bool) → Env → (Value → Act) → Value → Act
received is_kind env go v = elim (is_kind v) as (λ b. Act) [ true ↦ go v | false ↦ throw WrongReceiver env ]

pub receiver_as : (is_kind : Value → Bool) (this : Value) (env : Env) (go : Value → Act) → primitive_then this (received is_kind env go) ≡ receiver is_kind this env go
receiver_as is_kind Undefined env go = refl
receiver_as is_kind Null env go = refl
receiver_as is_kind (Boolean b) env go = refl
receiver_as is_kind (Number x) env go = refl
receiver_as is_kind (String s) env go = refl
receiver_as is_kind (Object o) env go = refl

pub no_text : (t : Table) (v : NumberedValue) → ((id : TextId) → v ≡ values.Text id → ⊥) → is_text (value_in t v) ≡ false
no_text t values.Undefined h = refl
no_text t values.Null h = refl
no_text t (values.Bool b) h = refl
no_text t (values.Number x) h = refl
no_text t (values.Text id) h = absurd (h id refl)
no_text t (values.Object o) h = refl

pub no_number : (t : Table) (v : NumberedValue) → ((x : NumberedWhole) → v ≡ values.Number x → ⊥) → is_number (value_in t v) ≡ false
no_number t values.Undefined h = refl
no_number t values.Null h = refl
no_number t (values.Bool b) h = refl
no_number t (values.Number x) h = absurd (h x refl)
no_number t (values.Text id) h = refl
no_number t (values.Object o) h = refl

pub no_truth : (t : Table) (v : NumberedValue) → ((b : Bool) → v ≡ values.Bool b → ⊥) → is_truth (value_in t v) ≡ false
no_truth t values.Undefined h = refl
no_truth t values.Null h = refl
no_truth t (values.Bool b) h = absurd (h b refl)
no_truth t (values.Number x) h = refl
no_truth t (values.Text id) h = refl
no_truth t (values.Object o) h = refl

-- a value that is no text has no units
pub no_units : (t : Table) (v : NumberedValue) → ((id : TextId) → v ≡ values.Text id → ⊥) → text_of (value_in t v) ≡ []
no_units t values.Undefined h = refl
no_units t values.Null h = refl
no_units t (values.Bool b) h = refl
no_units t (values.Number x) h = refl
no_units t (values.Text id) h = absurd (h id refl)
no_units t (values.Object o) h = refl

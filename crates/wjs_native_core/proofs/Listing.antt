-- One number is the length of a new Array; anything else is its elements (ECMA-262, 3rd edition, section 15.4.2).
use Rattle.std.proofs.Common.{◌≡◌, List, [], ◌∷◌, length, refl, sym, ap}
use Rattle.std.specs.Prelude.{map, slice_index_or}
use Rattle.wjs_base.specs.declared.number.Whole.{Whole as NumberedWhole}
use Rattle.wjs_base.specs.declared.values.Value.{Value as NumberedValue}
use Rattle.wjs_base.specs.declared.values.Value.TheVariants as values
use Rattle.wjs_base.specs.Text.{Table}
use Rattle.wjs_by_content.specs.Tables.{value_in}
use Rattle.wjs_by_content.specs.Values.{Number}
use Rattle.wjs_by_content.specs.Properties.{length_of_value}
use Rattle.wjs_meaning.specs.Deeds.{Env}
use Rattle.wjs_meaning.specs.NewObjects.{make_array}
use Rattle.wjs_meaning.specs.NativesOfObjects as line

module _ (t : Table) (env : Env) where
  pub of_number : (vs : List NumberedValue) (x : NumberedWhole) → length vs ≡ 1 → slice_index_or vs 0 values.Undefined ≡ values.Number x → line.array_of_length (length_of_value (Number x.number)) env ≡ line.new_array (map (value_in t) vs) env
  of_number [] x one e = absurd (cc)
  of_number (v ∷ []) x one e = ap (λ (w : NumberedValue). line.new_array (value_in t w ∷ []) env) (sym e)
  of_number (v ∷ w ∷ vs) x one e = absurd (cc)

  pub of_more : (vs : List NumberedValue) → (length vs ≡ 1 → ⊥) → make_array (map (value_in t) vs) env line.give_object ≡ line.new_array (map (value_in t) vs) env
  of_more [] h = refl
  of_more (v ∷ []) h = absurd (h refl)
  of_more (values.Undefined ∷ w ∷ vs) h = refl
  of_more (values.Null ∷ w ∷ vs) h = refl
  of_more (values.Bool b ∷ w ∷ vs) h = refl
  of_more (values.Number x ∷ w ∷ vs) h = refl
  of_more (values.Text id ∷ w ∷ vs) h = refl
  of_more (values.Object o ∷ w ∷ vs) h = refl

  pub of_other : (vs : List NumberedValue) → ((x : NumberedWhole) → slice_index_or vs 0 values.Undefined ≡ values.Number x → ⊥) → make_array (map (value_in t) vs) env line.give_object ≡ line.new_array (map (value_in t) vs) env
  of_other [] h = refl
  of_other (values.Undefined ∷ vs) h = refl
  of_other (values.Null ∷ vs) h = refl
  of_other (values.Bool b ∷ vs) h = refl
  of_other (values.Number x ∷ vs) h = absurd (h x refl)
  of_other (values.Text id ∷ vs) h = refl
  of_other (values.Object o ∷ vs) h = refl

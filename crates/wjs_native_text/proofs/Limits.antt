-- How many parts are wanted.
use Rattle.std.proofs.Common.{◌≡◌, ℕ, zero, suc, true, false, Option, Some, None, List, [], ◌∷◌, ◌-◌, take, length, refl, sym, ap, ◌∙◌, subst, arith}
use Rattle.std.proofs.lemmas.Bool.{false≢true, lt-ltb}
use Rattle.std.proofs.lemmas.List.{take_all}
use Rattle.wjs_base.specs.declared.ids.TextId.{TextId}
use Rattle.wjs_base.specs.declared.values.Value.{Value as NumberedValue}
use Rattle.wjs_base.specs.declared.values.Value.TheVariants as values
use Rattle.wjs_base.specs.Text.{Table}
use Rattle.wjs_by_content.specs.Tables.{value_in}
use Rattle.wjs_by_content.specs.Values.{Text, Value, Undefined, Null, Boolean, Number, String, Object}
use Rattle.wjs_meaning.specs.NativesOfObjects.{text_of}
use Rattle.wjs_meaning.specs.NativesOfTexts.{at_most, parts_of, part_of}
use Rattle.wjs_strings.specs.Pieces.{up_to, has_room}
use Rattle.wjs_native_text.specs.Limits.{limit_in}

pub up_to_at_most : (v : Value) (parts : List Value) → up_to (limit_in v) parts ≡ at_most v parts
up_to_at_most Undefined parts = refl
up_to_at_most Null parts = refl
up_to_at_most (Boolean b) parts = refl
up_to_at_most (Number x) parts = refl
up_to_at_most (String s) parts = refl
up_to_at_most (Object o) parts = refl

-- a text is its units
pub is_units : (t : Table) (v : NumberedValue) (id : TextId) → v ≡ values.Text id → String (text_of (value_in t v)) ≡ value_in t v
is_units t v id e = subst (λ (x : NumberedValue). String (text_of (value_in t x)) ≡ value_in t x) (sym e) refl

-- what is no text separates nothing
pub parts_whole : (t : Table) (x : Text) (v : NumberedValue) → ((id : TextId) → v ≡ values.Text id → ⊥) → parts_of x (value_in t v) ≡ String x ∷ []
parts_whole t x values.Undefined h = refl
parts_whole t x values.Null h = refl
parts_whole t x (values.Bool b) h = refl
parts_whole t x (values.Number n) h = refl
parts_whole t x (values.Text id) h = absurd (h id refl)
parts_whole t x (values.Object o) h = refl

-- one part, where any is wanted
pub one_room : (limit : Option ℕ) (v : Value) → true ≡ has_room limit 0 → v ∷ [] ≡ up_to limit (v ∷ [])
one_room None v h = refl
one_room (Some zero) v h = absurd (false≢true (sym h))
one_room (Some (suc n)) v h = sym (take_all (suc n) (v ∷ []) (omega arith))

pub no_room : (limit : Option ℕ) (v : Value) → false ≡ has_room limit 0 → [] ≡ up_to limit (v ∷ [])
no_room None v h = absurd (false≢true h)
no_room (Some zero) v h = refl
no_room (Some (suc n)) v h = absurd (false≢true (h ∙ lt-ltb 0 (suc n) (omega arith)))

-- the whole text is a part of it
pub whole_part : (t : Text) → String (part_of t 0 (length t)) ≡ String t
whole_part t = ap (λ n. String (take n t)) (let e : length t - 0 ≡ length t = omega arith in e) ∙ ap (λ u. String u) (take_all (length t) t (omega arith))

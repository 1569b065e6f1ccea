-- Values by content: a text is its units, a number a whole number or NaN (ECMA-262, 3rd edition, section 8).
use Rattle.std.specs.Prelude.{◌≡◌, ℕ, Bool, true, false, Option, None, Some, ℤ, pos, refl, bytes_eq}
use Rattle.std.specs.Bool.{Decides}
use Rattle.std.specs.Cmp.{signed_Decides, unsigned_Decides, booleans_Decides}
use Rattle.std.specs.Cmp.Lexicographic.{pointwise_decides}
use Rattle.std.proofs.Common.{ap}
use mathlib.Core.Bool.{beq}
use Rattle.wjs_base.specs.declared.ids.ObjId.{ObjId}
use Rattle.wjs_base.specs.Same.{same_number, object_Decides}
use Rattle.wjs_base.specs.Text.{Units}
use Rattle.wjs_store.specs.State.{same_object}

-- a text: its 16-bit units (8.4)
abbrev pub Text : Type 0
Text = Units

-- a whole number, or NaN (8.5)
abbrev pub Whole : Type 0
Whole = Option ℤ

pub data Value : Type 0 where
  Undefined : Value
  Null : Value
  Boolean : Bool → Value
  Number : Whole → Value
  String : Text → Value
  Object : ObjId → Value

-- the whole number n
abbrev pub whole : ℕ → Value
whole n = Number (Some (pos n))

-- what a slot's content counts as where it is absent
abbrev pub value_or_undefined : Option Value → Value
value_or_undefined None = Undefined
value_or_undefined (Some v) = v

-- equal units
abbrev pub same_text : Text → Text → Bool
same_text = bytes_eq

-- whether two values are one: NaN is the same as NaN
abbrev pub same_value : Value → Value → Bool
same_value Undefined Undefined = true
same_value Null Null = true
same_value (Boolean a) (Boolean b) = beq a b
same_value (Number x) (Number y) = same_number x y
same_value (String s) (String t) = same_text s t
same_value (Object a) (Object b) = same_object a b
same_value a b = false

-- ---- the tests decide equality

pub whole_Decides : (x y : Whole) → Decides (same_number x y) (x ≡ y)
whole_Decides None None = (λ e. refl, λ e. refl)
whole_Decides None (Some b) = (λ e. cc, λ e. cc)
whole_Decides (Some a) None = (λ e. cc, λ e. cc)
whole_Decides (Some a) (Some b) =
    let d = signed_Decides a b in
    (λ e. ap (λ (z : ℤ). Some z) (d.0 e), λ h. let e : a ≡ b = cc in d.1 e)

pub text_Decides : (s t : Text) → Decides (same_text s t) (s ≡ t)
text_Decides = pointwise_decides unsigned_Decides

pub value_Decides : (x y : Value) → Decides (same_value x y) (x ≡ y)
value_Decides Undefined Undefined = (λ e. refl, λ e. refl)
value_Decides Null Null = (λ e. refl, λ e. refl)
value_Decides (Boolean a) (Boolean b) =
    let d = booleans_Decides a b in
    (λ e. ap (λ z. Boolean z) (d.0 e), λ h. let e : a ≡ b = cc in d.1 e)
value_Decides (Number x) (Number y) =
    let d = whole_Decides x y in
    (λ e. ap (λ z. Number z) (d.0 e), λ h. let e : x ≡ y = cc in d.1 e)
value_Decides (String s) (String t) =
    let d = text_Decides s t in
    (λ e. ap (λ z. String z) (d.0 e), λ h. let e : s ≡ t = cc in d.1 e)
value_Decides (Object a) (Object b) =
    let d = object_Decides a b in
    (λ e. ap Object (d.0 e), λ h. let e : a ≡ b = cc in d.1 e)
value_Decides a b = (λ e. cc, λ e. cc)

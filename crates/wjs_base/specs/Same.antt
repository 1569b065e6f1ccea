-- Values are compared by identity: NaN is NaN, and a text is its number.
use Rattle.std.specs.Prelude.{◌≡◌, ℕ, Bool, true, false, ◌==◌, ◌&&◌, Option, None, Some, ℤ, refl}
use Rattle.std.specs.Bool.{Decides}
use Rattle.std.specs.Cmp.{signed_Decides, unsigned_Decides, booleans_Decides}
use Rattle.std.specs.Ordering.{int_eq}
use Rattle.std.proofs.Common.{ap, subst}
use Rattle.std.proofs.lemmas.Bool.{and_parts, and_from}
use mathlib.Core.Bool.{beq}
use Rattle.wjs_base.specs.declared.ids.TextId.{TextId}
use Rattle.wjs_base.specs.declared.ids.ObjId.{ObjId}
use Rattle.wjs_base.specs.declared.number.Whole.{Whole}
use Rattle.wjs_base.specs.declared.values.Value.{Value}
use Rattle.wjs_base.specs.Range.{IsInRange, in_range_prop}
use Rattle.wjs_base.specs.declared.values.Value.TheVariants.{Undefined, Null, Bool as Truth, Number, Text, Object}

abbrev pub same_number : Option ℤ → Option ℤ → Bool
same_number None None = true
same_number None (Some b) = false
same_number (Some a) None = false
same_number (Some a) (Some b) = int_eq a b

abbrev pub same_value : Value → Value → Bool
same_value Undefined Undefined = true
same_value Null Null = true
same_value (Truth a) (Truth b) = beq a b
same_value (Number a) (Number b) = same_number a.number b.number
same_value (Text a) (Text b) = a.0 == b.0
same_value (Object a) (Object b) = (a.owner == b.owner) && (a.serial == b.serial)
same_value a b = false

number_Decides : (x y : Option ℤ) → Decides (same_number x y) (x ≡ y)
number_Decides None None = (λ e. refl, λ e. refl)
number_Decides None (Some b) = (λ e. cc, λ e. cc)
number_Decides (Some a) None = (λ e. cc, λ e. cc)
number_Decides (Some a) (Some b) =
    let d = signed_Decides a b in
    (λ e. ap (λ (z : ℤ). Some z) (d.0 e), λ h. let e : a ≡ b = cc in d.1 e)

-- wholes of one number are one
pub whole_same : (a b : Whole) → a.number ≡ b.number → a ≡ b
whole_same a b e =
    let make : (m : Option ℤ) → IsInRange m → Whole = λ m q. record { number = m; in_range = q } in
    let P : Option ℤ → Type 0 = λ m. (q : IsInRange m) → a ≡ make m q in
    subst P e (λ q. ap (make a.number) (in_range_prop a.number a.in_range q)) b.in_range

pub object_Decides : (x y : ObjId) → Decides ((x.owner == y.owner) && (x.serial == y.serial)) (x ≡ y)
object_Decides x y =
    let d = unsigned_Decides x.owner y.owner in
    let f = unsigned_Decides x.serial y.serial in
    (λ h. let p = and_parts _ _ h in λ i. record { owner = d.0 p.0 i; serial = f.0 p.1 i }, λ e. and_from _ _ (d.1 (ap (λ (z : ObjId). z.owner) e)) (f.1 (ap (λ (z : ObjId). z.serial) e)))

pub value_Decides : (x y : Value) → Decides (same_value x y) (x ≡ y)
value_Decides Undefined Undefined = (λ e. refl, λ e. refl)
value_Decides Null Null = (λ e. refl, λ e. refl)
value_Decides (Truth a) (Truth b) =
    let d = booleans_Decides a b in
    (λ e. ap (λ z. Truth z) (d.0 e), λ h. let e : a ≡ b = cc in d.1 e)
value_Decides (Number a) (Number b) =
    let d = number_Decides a.number b.number in
    (λ e. ap Number (whole_same a b (d.0 e)), λ h. let e : a ≡ b = cc in d.1 (ap (λ (z : Whole). z.number) e))
value_Decides (Text a) (Text b) =
    let d = unsigned_Decides a.0 b.0 in
    (λ e. ap (λ (z : ℕ). Text (record { 0 = z })) (d.0 e), λ h. let e : a ≡ b = cc in d.1 (ap (λ (z : TextId). z.0) e))
value_Decides (Object a) (Object b) =
    let d = object_Decides a b in
    (λ e. ap Object (d.0 e), λ h. let e : a ≡ b = cc in d.1 e)
value_Decides a b = (λ e. cc, λ e. cc)

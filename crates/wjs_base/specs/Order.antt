-- The order of names, objects, worlds and slots.
use Rattle.std.specs.Prelude.{◌≡◌, ℕ, Bool, false, ◌==◌, refl}
use Rattle.std.specs.Cmp.{IsTotalOrder, then_total, on_total, nat_cmp_total, unsigned_tied}
use Rattle.std.specs.declared.cmp.Ordering.{Ordering}
use Rattle.std.specs.declared.cmp.Ordering.TheVariants.{Less, Equal, Greater}
use Rattle.std.specs.Ordering.{nat_cmp, ordering_then, then_cmp, on, is_eq}
use Rattle.std.proofs.Common.{◌∙◌, ap, sym}
use Rattle.std.specs.FinMap.{IsAntisymmetric, nat_cmp-IsAntisymmetric}
use Rattle.wjs_base.specs.declared.ids.TextId.{TextId}
use Rattle.wjs_base.specs.declared.ids.ObjId.{ObjId}
use Rattle.wjs_base.specs.declared.ids.WorldId.{WorldId}
use Rattle.wjs_base.specs.declared.values.Name.{Name}
use Rattle.wjs_base.specs.declared.values.Name.TheVariants.{Index, Text}
use Rattle.wjs_base.specs.declared.values.Slot.{Slot}

-- an index before a text
abbrev pub kind_of : Name → ℕ
kind_of (Index n) = 0
kind_of (Text t) = 1

-- the index, or the text's number
abbrev pub number_of : Name → ℕ
number_of (Index n) = n
number_of (Text t) = t.0

abbrev pub name_cmp : Name → Name → Ordering
name_cmp = then_cmp (on kind_of nat_cmp) (on number_of nat_cmp)

abbrev pub obj_cmp : ObjId → ObjId → Ordering
obj_cmp x y = ordering_then (nat_cmp x.owner y.owner) (nat_cmp x.serial y.serial)

abbrev pub world_cmp : WorldId → WorldId → Ordering
world_cmp x y = ordering_then (nat_cmp x.owner y.owner) (nat_cmp x.serial y.serial)

abbrev pub slot_cmp : Slot → Slot → Ordering
slot_cmp x y = ordering_then (obj_cmp x.object y.object) (name_cmp x.name y.name)

-- a test that compares names part by part agrees with their order
pub names_tied : (E : Name → Name → Bool) → ((a b : ℕ) → E (Index a) (Index b) ≡ (a == b)) → ((a b : TextId) → E (Text a) (Text b) ≡ (a.0 == b.0)) → ((a : ℕ) (b : TextId) → E (Index a) (Text b) ≡ false) → ((a : TextId) (b : ℕ) → E (Text a) (Index b) ≡ false) → (x y : Name) → E x y ≡ is_eq (name_cmp x y)
names_tied E i t l r (Index a) (Index b) = i a b ∙ sym (unsigned_tied a b)
names_tied E i t l r (Index a) (Text b) = l a b
names_tied E i t l r (Text a) (Index b) = r a b
names_tied E i t l r (Text a) (Text b) = t a b ∙ sym (unsigned_tied a.0 b.0)

-- names that tie are one
pub name_exact : IsAntisymmetric name_cmp
name_exact (Index a) (Index b) h = ap Index (nat_cmp-IsAntisymmetric a b h)
name_exact (Index a) (Text b) h = cc
name_exact (Text a) (Index b) h = cc
name_exact (Text a) (Text b) h = ap (λ (m : ℕ). Text (record { 0 = m })) (nat_cmp-IsAntisymmetric a.0 b.0 h)

pub name_total : IsTotalOrder name_cmp
name_total = then_total (on_total kind_of nat_cmp_total) (on_total number_of nat_cmp_total)

-- where two orders in turn tie, both do
pub then_tied : (a b : Ordering) → ordering_then a b ≡ Equal → (a ≡ Equal) × (b ≡ Equal)
then_tied Less b h = cc
then_tied Equal b h = (refl, h)
then_tied Greater b h = cc

pub obj_exact : IsAntisymmetric obj_cmp
obj_exact a b h =
    let t = then_tied (nat_cmp a.owner b.owner) (nat_cmp a.serial b.serial) h in
    let e = nat_cmp-IsAntisymmetric a.owner b.owner t.0 in
    let f = nat_cmp-IsAntisymmetric a.serial b.serial t.1 in
    λ i. record { owner = e i; serial = f i }

pub obj_total : IsTotalOrder obj_cmp
obj_total = then_total (on_total (λ (x : ObjId). x.owner) nat_cmp_total) (on_total (λ (x : ObjId). x.serial) nat_cmp_total)

pub world_exact : IsAntisymmetric world_cmp
world_exact a b h =
    let t = then_tied (nat_cmp a.owner b.owner) (nat_cmp a.serial b.serial) h in
    let e = nat_cmp-IsAntisymmetric a.owner b.owner t.0 in
    let f = nat_cmp-IsAntisymmetric a.serial b.serial t.1 in
    λ i. record { owner = e i; serial = f i }

pub world_total : IsTotalOrder world_cmp
world_total = then_total (on_total (λ (x : WorldId). x.owner) nat_cmp_total) (on_total (λ (x : WorldId). x.serial) nat_cmp_total)

pub slot_exact : IsAntisymmetric slot_cmp
slot_exact a b h =
    let t = then_tied (obj_cmp a.object b.object) (name_cmp a.name b.name) h in
    let e = obj_exact a.object b.object t.0 in
    let f = name_exact a.name b.name t.1 in
    λ i. record { object = e i; name = f i }

pub slot_total : IsTotalOrder slot_cmp
slot_total = then_total (on_total (λ (x : Slot). x.object) obj_total) (on_total (λ (x : Slot). x.name) name_total)

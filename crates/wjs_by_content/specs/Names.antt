-- Names of properties, and slots, by content. A name is a text; an index is its decimal spelling.
use Rattle.std.specs.Prelude.{ℕ, ◌&&◌, nat_le, Option, None, Some, is_some, codes, decimal, if◌then◌else◌, unwrap_or}
use Rattle.std.specs.Cmp.{IsTotalOrder, then_total, on_total, nat_cmp_total}
use Rattle.std.specs.Cmp.Lexicographic.{slice_cmp, nat_list_cmp_total}
use Rattle.std.specs.declared.cmp.Ordering.{Ordering}
use Rattle.std.specs.Ordering.{nat_cmp, ordering_then, then_cmp, on}
use Rattle.std.specs.FinMap.{IsAntisymmetric, nat_cmp-IsAntisymmetric, slice_cmp-IsAntisymmetric}
use Rattle.std.specs.Str.Parse.{digits_value}
use Rattle.wjs_base.specs.declared.ids.ObjId.{ObjId}
use Rattle.wjs_base.specs.Order.{obj_cmp, obj_total, obj_exact, then_tied}
use Rattle.wjs_base.specs.Spelling.{greatest_index}
use Rattle.wjs_store.specs.Naming.{Naming}
use Rattle.wjs_by_content.specs.Values.{Text, Value, same_text, same_value, value_Decides}

-- an object with a name
pub record Slot : Type 0 where
  pub object : ObjId
  pub name : Text

abbrev pub slot : ObjId → Text → Slot
slot o name = record { object = o; name = name }

-- ---- the names that the machine itself uses

abbrev pub length_name : Text
length_name = codes "length"

abbrev pub prototype_name : Text
prototype_name = codes "prototype"

abbrev pub constructor_name : Text
constructor_name = codes "constructor"

abbrev pub arguments_name : Text
arguments_name = codes "arguments"

abbrev pub callee_name : Text
callee_name = codes "callee"

abbrev pub name_name : Text
name_name = codes "name"

abbrev pub message_name : Text
message_name = codes "message"

abbrev pub to_string_name : Text
to_string_name = codes "toString"

abbrev pub value_of_name : Text
value_of_name = codes "valueOf"

-- ---- indices (ECMA-262, 3rd edition, section 15.4)

-- how an index is spelled: its decimal digits, with no zero in front of others
abbrev pub index_name : ℕ → Text
index_name = decimal

-- the index that a name spells
abbrev pub index_of : Text → Option ℕ
index_of name = let n = digits_value 10 name in if nat_le n greatest_index && same_text name (index_name n) then Some n else None

-- ---- the order of names: indices ascending, then texts by code units

-- an index before another text
abbrev pub kind_of : Text → ℕ
kind_of name = if is_some (index_of name) then 0 else 1

-- the index, and 0 for another text
abbrev pub number_of : Text → ℕ
number_of name = unwrap_or (index_of name) 0

abbrev pub text_cmp : Text → Text → Ordering
text_cmp = slice_cmp nat_cmp

abbrev pub name_cmp : Text → Text → Ordering
name_cmp = then_cmp (on kind_of nat_cmp) (then_cmp (on number_of nat_cmp) text_cmp)

abbrev pub slot_cmp : Slot → Slot → Ordering
slot_cmp x y = ordering_then (obj_cmp x.object y.object) (name_cmp x.name y.name)

pub name_exact : IsAntisymmetric name_cmp
name_exact a b h =
    let kinds = then_tied (nat_cmp (kind_of a) (kind_of b)) (ordering_then (nat_cmp (number_of a) (number_of b)) (text_cmp a b)) h in
    let numbers = then_tied (nat_cmp (number_of a) (number_of b)) (text_cmp a b) kinds.1 in
    slice_cmp-IsAntisymmetric nat_cmp-IsAntisymmetric a b numbers.1

pub name_total : IsTotalOrder name_cmp
name_total = then_total (on_total kind_of nat_cmp_total) (then_total (on_total number_of nat_cmp_total) nat_list_cmp_total)

pub slot_exact : IsAntisymmetric slot_cmp
slot_exact a b h =
    let t = then_tied (obj_cmp a.object b.object) (name_cmp a.name b.name) h in
    let e = obj_exact a.object b.object t.0 in
    let f = name_exact a.name b.name t.1 in
    λ i. record { object = e i; name = f i }

pub slot_total : IsTotalOrder slot_cmp
slot_total = then_total (on_total (λ (x : Slot). x.object) obj_total) (on_total (λ (x : Slot). x.name) name_total)

-- slots and values by content
abbrev pub content : Naming Slot Value
content = record { cmp = slot_cmp; object = λ s. s.object; same = same_value; total = slot_total; exact = slot_exact; decides = value_Decides }

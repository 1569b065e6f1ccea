-- The next of the near objects that has rows.
use Rattle.std.proofs.Common.{◌≡◌, ℕ, ◌+◌, ◌-◌, ◌<◌, ◌≤◌, ◌==◌, nat_le, true, false, List, length, Option, None, Some, is_some, slice_get, refl, ap, sym, ◌∙◌, subst, arith, eqb-true}
use Rattle.std.specs.declared.cmp.Ordering.{Ordering}
use Rattle.std.specs.Ordering.{is_lt, ordering_then, nat_cmp}
use Rattle.std.specs.Cmp.{nat_cmp_total, tied_itself}
use Rattle.std.specs.FinMap as map
use Rattle.std.specs.FinMap.{FinMap, nat_cmp-IsAntisymmetric, find}
use Rattle.std.specs.Map.{lookup_entry}
use Rattle.std.specs.Option.{option_or}
use Rattle.std.proofs.lemmas.Bool.{true≢false, false≢true}
use Rattle.std.proofs.lemmas.Bool.Decides.{nat_tests}
use Rattle.std.proofs.lemmas.Option.{same_Some, slice_get_within}
use Rattle.wjs_base.specs.declared.ids.ObjId.{ObjId}
use Rattle.wjs_base.specs.declared.values.Name.{Name}
use Rattle.wjs_base.specs.declared.values.Slot.{Slot}
use Rattle.wjs_base.specs.Order.{name_cmp, obj_cmp, slot_cmp, name_total, name_exact, slot_total, slot_exact}
use Rattle.wjs_base.proofs.Booleans.{by_bool}
use Rattle.wjs_base.proofs.Options.{by_option}
use Rattle.wjs_base.proofs.Numbers.{of_le, le_of, lt_not, not_le}
use Rattle.wjs_rows.specs.Order.{is_after}
use Rattle.wjs_slots.specs.Least.{IsLeast, comes_past, is_next_on, is_past}
use Rattle.wjs_names.specs.Least.{lesser_entry}
use Rattle.wjs_slots.specs.Near.{place_in, near_value, value_in, AreBare, IsFirstRow, IsSplit}
use Rattle.wjs_names.proofs.Basics.{by_cmp}
use Rattle.wjs_names.proofs.Least.{alike, first_is, first_on, least_either, least_is, like}
use Rattle.wjs_slots.proofs.OnObjects.{same_cmp}
use Rattle.wjs_slots.proofs.Rowing.{past_same}
use Rattle.wjs_slots.proofs.Values.{get_table, held_is, near_absent, near_present, not_placed, placed_is, table}

-- ---- objects of one owner

same_owner : (a b : ObjId) → a.owner ≡ b.owner → obj_cmp a b ≡ nat_cmp a.serial b.serial
same_owner a b h = ap (λ n. ordering_then (nat_cmp n b.owner) (nat_cmp a.serial b.serial)) h ∙ ap (λ c. ordering_then c (nat_cmp a.serial b.serial)) (tied_itself nat_cmp_total b.owner)

less_from : (a b : ℕ) → a < b → is_lt (nat_cmp a b) ≡ true
less_from a b h = grind (arith, nat_tests)

not_less : (a b : ℕ) → b ≤ a → is_lt (nat_cmp a b) ≡ false
not_less a b h = grind (arith, nat_tests)

not_less_then : (a b : ℕ) (c : Ordering) → b < a → is_lt (ordering_then (nat_cmp a b) c) ≡ false
not_less_then a b c h = by_cmp (nat_cmp a b)
    (λ e. absurd (false≢true (sym (not_less a b (omega (arith, h))) ∙ ap is_lt e)))
    (λ e. let same : a ≡ b = nat_cmp-IsAntisymmetric a b e in absurd (omega (arith, h)))
    (λ e. ap (λ u. is_lt (ordering_then u c)) e)

from_not_less : (a b : ℕ) → is_lt (nat_cmp a b) ≡ false → b ≤ a
from_not_less a b h = grind (arith, nat_tests)

from_less : (a b : ℕ) → is_lt (nat_cmp a b) ≡ true → a < b
from_less a b h = grind (arith, nat_tests)

module _ (owner first n : ℕ) (o : ObjId) where
  abbrev at : ℕ → ObjId
  at i = record { owner = owner; serial = first + i }

  -- behind one of these
  pub past_placed : (p i : ℕ) → place_in owner first n o ≡ Some p → is_lt (obj_cmp o (at i)) ≡ nat_le (p + 1) i
  past_placed p i h =
      let w = placed_is owner first n o p h in
      let f = w.from in
      let s = w.serial_is in
      ap is_lt (same_owner o (at i) w.owner_is)
      ∙ by_bool (nat_le (p + 1) i)
      (λ t. let l = le_of (p + 1) i t in less_from o.serial (first + i) (omega arith) ∙ sym t)
      (λ t. let l = not_le (p + 1) i t in not_less o.serial (first + i) (omega arith) ∙ sym t)

  -- before the first of these
  pub past_before : (i : ℕ) → is_lt (obj_cmp o (record { owner = owner; serial = first })) ≡ true → is_lt (obj_cmp o (at i)) ≡ nat_le 0 i
  past_before i h = by_cmp (nat_cmp o.owner owner)
      (λ c. ap (λ u. is_lt (ordering_then u (nat_cmp o.serial (first + i)))) c ∙ sym (of_le 0 i (omega arith)))
      (λ c.
      let l = from_less o.serial first (sym (ap (λ u. is_lt (ordering_then u (nat_cmp o.serial first))) c) ∙ h) in
      ap (λ u. is_lt (ordering_then u (nat_cmp o.serial (first + i)))) c ∙ less_from o.serial (first + i) (omega (arith, l)) ∙ sym (of_le 0 i (omega arith)))
      (λ c. absurd (false≢true (sym (ap (λ u. is_lt (ordering_then u (nat_cmp o.serial first))) c) ∙ h)))

  -- past all of these
  pub past_all : (i : ℕ) → i < n → place_in owner first n o ≡ None → is_lt (obj_cmp o (record { owner = owner; serial = first })) ≡ false → is_lt (obj_cmp o (at i)) ≡ nat_le n i
  past_all i l none h = by_cmp (nat_cmp o.owner owner)
      (λ c. absurd (true≢false (sym (ap (λ u. is_lt (ordering_then u (nat_cmp o.serial first))) c) ∙ h)))
      (λ c.
      let from = from_not_less o.serial first (sym (ap (λ u. is_lt (ordering_then u (nat_cmp o.serial first))) c) ∙ h) in
      let past = not_placed owner first n o none (nat_cmp-IsAntisymmetric o.owner owner c) from in
      ap (λ u. is_lt (ordering_then u (nat_cmp o.serial (first + i)))) c ∙ not_less o.serial (first + i) (omega (arith, from, past)) ∙ sym (lt_not n i l))
      (λ c. ap (λ u. is_lt (ordering_then u (nat_cmp o.serial (first + i)))) c ∙ sym (lt_not n i l))

-- ---- places without rows

module _ {V : Type 0} (ms : List (FinMap name_cmp V)) where
  -- an object without a first row has none
  bare_names : (m : FinMap name_cmp V) (name : Name) → None ≡ lookup_entry (comes_past None) (map.entries m) → map.get m name ≡ None
  bare_names m name h = let f = subst (IsLeast name_cmp (map.get m) (comes_past None)) (sym h) (first_is name_total name_exact (comes_past None) m) in f name refl

  pub bare_more : (i k : ℕ) (m : FinMap name_cmp V) → AreBare ms i k → slice_get ms k ≡ Some m → None ≡ lookup_entry (comes_past None) (map.entries m) → AreBare ms i (k + 1)
  bare_more i k m bare s none = λ j names name from below is. by_bool (j == k)
      (λ t.
      let same : names ≡ m = same_Some names m (sym is ∙ ap (slice_get ms) (eqb-true j k t) ∙ s) in
      ap (λ x. map.get x name) same ∙ bare_names m name none)
      (λ t. let less : j < k = grind (arith, nat_tests) in bare j names name from less is)

-- ---- the next row past an object

-- where a value stands
pub record Stands {V : Type 0} (owner first : ℕ) (ms : List (FinMap name_cmp V)) (q : Slot) : Type 0 where
  pub place : ℕ
  pub names : FinMap name_cmp V
  pub object_is : q.object ≡ record { owner = owner; serial = first + place }
  pub names_are : slice_get ms place ≡ Some names
  pub value_is : near_value owner first ms q ≡ map.get names q.name

module _ {V : Type 0} (owner first : ℕ) (ms : List (FinMap name_cmp V)) where
  stands : (q : Slot) → is_some (near_value owner first ms q) ≡ true → Stands owner first ms q
  stands q s = by_option (place_in owner first (length ms) q.object)
      (λ none. absurd (false≢true (sym (ap is_some (near_absent owner first ms q none)) ∙ s)))
      (λ i at.
      let w = placed_is owner first (length ms) q.object i at in
      let from = w.from in
      let serial : q.object.serial ≡ first + i = let e = w.serial_is in omega arith in
      let value = near_present owner first ms q w.owner_is ∙ ap (λ m. value_in m q.name) (held_is first ms q.object.serial i w.from w.serial_is) in
      by_option (slice_get ms i)
      (λ none. absurd (false≢true (sym (ap is_some (value ∙ ap (λ m. value_in m q.name) none)) ∙ s)))
      (λ m is. record {
        place = i;
        names = m;
        object_is = λ z. record { owner = w.owner_is z; serial = serial z };
        names_are = is;
        value_is = value ∙ ap (λ m. value_in m q.name) is;
      }))

  module _ (o : ObjId) (n : ℕ) (past : (i : ℕ) → i < length ms → is_lt (obj_cmp o (record { owner = owner; serial = first + i })) ≡ nat_le n i) where
    -- what is past the object stands from the place n on
    from_place : (q : Slot) (w : Stands owner first ms q) → is_past o q ≡ true → n ≤ w.place
    from_place q w h = le_of n w.place (sym (past w.place (slice_get_within ms w.place w.names w.names_are)) ∙ ap (λ u. is_lt (obj_cmp o u)) (sym w.object_is) ∙ h)

    bare_past : (k : ℕ) → AreBare ms n k → (q : Slot) (w : Stands owner first ms q) → is_past o q ≡ true → w.place < k → near_value owner first ms q ≡ None
    bare_past k bare q w h l = w.value_is ∙ bare w.place w.names q.name (from_place q w h) l w.names_are

    pub past_none : AreBare ms n (length ms) → IsLeast slot_cmp (near_value owner first ms) (is_past o) None
    past_none bare = λ q h. by_option (near_value owner first ms q)
        (λ none. none)
        (λ v s. let w = stands q (ap is_some s) in bare_past (length ms) bare q w h (slice_get_within ms w.place w.names w.names_are))

    pub past_some : (place : ℕ) (row : Name × V) → IsFirstRow ms n (Some (place, row)) → IsLeast slot_cmp (near_value owner first ms) (is_past o) (Some (record { object = record { owner = owner; serial = first + place }; name = row.0 }, row.1))
    past_some place row h =
        let next : ObjId = record { owner = owner; serial = first + place } in
        let slot : Slot = record { object = next; name = row.0 } in
        let m = h.2.0 in
        let is = h.2.1 in
        let f = subst (IsLeast name_cmp (map.get m) (comes_past None)) (sym h.2.2) (first_is name_total name_exact (comes_past None) m) in
        let serial : place ≡ (first + place) - first = omega arith in (
          past place (slice_get_within ms place m is) ∙ of_le n place h.0,
          near_present owner first ms slot refl ∙ ap (λ x. value_in x row.0) (held_is first ms (first + place) place (omega arith) serial ∙ is) ∙ f.1,
          λ q y s.
              let w = stands q s in
              by_bool (nat_le place w.place)
              (λ t. let l = le_of place w.place t in by_bool (w.place == place)
              (λ e.
              let at : w.place ≡ place = eqb-true w.place place e in
              let names : w.names ≡ m = same_Some w.names m (sym w.names_are ∙ ap (slice_get ms) at ∙ is) in
              let object : q.object ≡ next = w.object_is ∙ ap (λ i. record { owner = owner; serial = first + i }) at in
              ap is_lt (same_cmp q slot object) ∙ f.2 q.name refl (sym (ap is_some (w.value_is ∙ ap (λ x. map.get x q.name) names)) ∙ s))
              (λ e.
              let later : place < w.place = grind (arith, nat_tests) in
              ap (λ u. is_lt (ordering_then (obj_cmp u next) (name_cmp q.name row.0))) w.object_is
              ∙ ap (λ u. is_lt (ordering_then u (name_cmp q.name row.0))) (same_owner (record { owner = owner; serial = first + w.place }) next refl)
              ∙ not_less_then (first + w.place) (first + place) (name_cmp q.name row.0) (omega (arith, later))))
              (λ t. let l : w.place < place = grind (arith, nat_tests) in absurd (false≢true (sym (ap is_some (bare_past place h.1 q w y l)) ∙ s))),
        )

  -- ---- with the far rows

  module _ (far : List (Slot × V)) (split : IsSplit owner first (length ms) far) (slot : Slot) (none : None ≡ lookup_entry (is_next_on slot.object (Some slot.name)) (map.entries (table owner first ms far))) where
    apart : (q : Slot) → is_some (near_value owner first ms q) ≡ true → find slot_cmp q far ≡ None
    apart q s = by_option (place_in owner first (length ms) q.object)
        (λ out. absurd (false≢true (sym (ap is_some (near_absent owner first ms q out)) ∙ s)))
        (λ i at. split.apart q (at ∙ ap Some (placed_is owner first (length ms) q.object i at).serial_is))

    there : (q : Slot) → is_some (near_value owner first ms q) ≡ true → is_some (map.get (table owner first ms far) q) ≡ true
    there q s = ap is_some (get_table owner first ms far q) ∙ by_option (near_value owner first ms q)
        (λ e. absurd (false≢true (sym (ap is_some e) ∙ s)))
        (λ v e. ap (λ u. is_some (option_or u (find slot_cmp q far))) e)

    -- the lesser of the next in both parts
    pub next_either : (a b : Option (Slot × V)) → IsLeast slot_cmp (near_value owner first ms) (is_past slot.object) a → b ≡ lookup_entry (is_after slot_cmp slot) far
        → lesser_entry slot_cmp a b ≡ lookup_entry (is_after slot_cmp slot) (map.entries (table owner first ms far))
    next_either a b h e =
        let p = is_after slot_cmp slot in
        let near = alike slot_cmp p (is_past slot.object) (near_value owner first ms) a (λ q s. past_same (table owner first ms far) slot none q (there q s)) h in
        let others = subst (IsLeast slot_cmp (λ q. find slot_cmp q far) p) (sym e) (first_on slot_total slot_exact p far split.ordered) in
        least_is slot_total slot_exact p (table owner first ms far) (lesser_entry slot_cmp a b)
        (like slot_total slot_exact p (λ q. option_or (near_value owner first ms q) (find slot_cmp q far)) (map.get (table owner first ms far)) (lesser_entry slot_cmp a b) (get_table owner first ms far)
        (least_either slot_total slot_exact p (near_value owner first ms) (λ q. find slot_cmp q far) a b apart near others))

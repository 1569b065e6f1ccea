-- Several rows of a near object are put in.
use Rattle.std.proofs.Common.{◌≡◌, ℕ, zero, suc, ◌+◌, Bool, true, false, cond, List, [], ◌∷◌, length, length-set, set, get_or, Some, is_some, refl, ap, sym, subst, ◌∙◌, arith}
use Rattle.std.specs.FinMap as map
use Rattle.std.specs.FinMap.{FinMap}
use Rattle.std.proofs.lemmas.Option.{slice_get-get_or, same_Some}
use Rattle.wjs_base.specs.declared.ids.ObjId.{ObjId}
use Rattle.wjs_base.specs.declared.values.Name.{Name}
use Rattle.wjs_base.specs.declared.values.Slot.{Slot}
use Rattle.wjs_base.specs.Order.{name_cmp, slot_cmp, name_total, slot_total}
use Rattle.wjs_base.proofs.Booleans.{by_bool}
use Rattle.wjs_base.proofs.Lists.{get_set_same}
use Rattle.wjs_names.specs.Several.{with_rows}
use Rattle.wjs_slots.specs.Near.{place_in, IsApart}
use Rattle.wjs_slots.specs.Several.{with_rows_on}
use Rattle.wjs_slots.proofs.Changes.{near_changed, inserted, set_back}
use Rattle.wjs_slots.proofs.Values.{placed_is, get_near, table}

set_twice : {A : Type 0} (xs : List A) (i : ℕ) (a b : A) → set (set xs i a) i b ≡ set xs i b
set_twice [] i a b = refl
set_twice (x ∷ xs) zero a b = refl
set_twice (x ∷ xs) (suc i) a b = ap (λ rest. x ∷ rest) (set_twice xs i a b)

-- two counts that rise together
both_rise : (b : Bool) (all few all' few' more some : ℕ) → all' ≡ cond b all (all + 1) → few' ≡ cond b few (few + 1) → more + few' ≡ all' + some → more + few ≡ all + some
both_rise true all few all' few' more some e f h = omega arith
both_rise false all few all' few' more some e f h = omega arith

module _ {V : Type 0} (owner first : ℕ) (far : List (Slot × V)) (o : ObjId) (i : ℕ) where
  module _ (r : Name × V) (ms : List (FinMap name_cmp V)) (d : FinMap name_cmp V) (apart : IsApart owner first (length ms) far) (at : place_in owner first (length ms) o ≡ Some i) where
    abbrev names : FinMap name_cmp V
    names = map.insert (get_or ms i d) r.0 r.1

    abbrev mid : List (FinMap name_cmp V)
    mid = set ms i names

    abbrev slot : Slot
    slot = record { object = o; name = r.0 }

    mid_is : get_or mid i d ≡ names
    mid_is =
        let p = placed_is owner first (length ms) o i at in
        let b = p.below in
        let n = length-set ms i names in
        same_Some (get_or mid i d) names (sym (slice_get-get_or mid i d (omega arith)) ∙ get_set_same ms i names b)

    mid_apart : IsApart owner first (length mid) far
    mid_apart = subst (λ n. IsApart owner first n far) (sym (length-set ms i names)) apart

    mid_at : place_in owner first (length mid) o ≡ Some i
    mid_at = ap (λ n. place_in owner first n o) (length-set ms i names) ∙ at

    mid_table : table owner first mid far ≡ map.insert (table owner first ms far) slot r.1
    mid_table = inserted (table owner first ms far) (table owner first mid far) slot r.1
        (near_changed owner first ms far slot i names d (Some r.1) apart at (λ n. map.get-insert name_total (get_or ms i d) r.0 r.1 n))

    there : map.contains_key (table owner first ms far) slot ≡ map.contains_key (get_or ms i d) r.0
    there = ap is_some (get_near owner first ms far slot i d apart at)

  pub put_all : (rows : List (Name × V)) (ms : List (FinMap name_cmp V)) (d : FinMap name_cmp V) → IsApart owner first (length ms) far → place_in owner first (length ms) o ≡ Some i
      → table owner first (set ms i (with_rows rows (get_or ms i d))) far ≡ with_rows_on o rows (table owner first ms far)
  put_all [] ms d apart at = ap (λ ns. table owner first ns far) (set_back ms i (get_or ms i d) d refl)
  put_all (r ∷ rs) ms d apart at =
      let m = names r ms d apart at in
      let more = mid r ms d apart at in
      ap (λ ns. table owner first ns far) (sym (set_twice ms i m (with_rows rs m)))
      ∙ ap (λ x. table owner first (set more i (with_rows rs x)) far) (sym (mid_is r ms d apart at))
      ∙ put_all rs more d (mid_apart r ms d apart at) (mid_at r ms d apart at)
      ∙ ap (with_rows_on o rs) (mid_table r ms d apart at)

  len_all : (rows : List (Name × V)) (ms : List (FinMap name_cmp V)) (d : FinMap name_cmp V) → IsApart owner first (length ms) far → place_in owner first (length ms) o ≡ Some i
      → map.len (with_rows_on o rows (table owner first ms far)) + map.len (get_or ms i d) ≡ map.len (table owner first ms far) + map.len (with_rows rows (get_or ms i d))
  len_all [] ms d apart at = refl
  len_all (r ∷ rs) ms d apart at =
      let t = table owner first ms far in
      let got = get_or ms i d in
      let m = names r ms d apart at in
      let q = slot r ms d apart at in
      let more = mid r ms d apart at in
      let rest = len_all rs more d (mid_apart r ms d apart at) (mid_at r ms d apart at) in
      let named = subst (λ x. map.len (with_rows_on o rs (table owner first more far)) + map.len x ≡ map.len (table owner first more far) + map.len (with_rows rs x)) (mid_is r ms d apart at) rest in
      let put = subst (λ x. map.len (with_rows_on o rs x) + map.len m ≡ map.len x + map.len (with_rows rs m)) (mid_table r ms d apart at) named in
      both_rise (map.contains_key t q) (map.len t) (map.len got) (map.len (map.insert t q r.1)) (map.len m) (map.len (with_rows_on o (r ∷ rs) t)) (map.len (with_rows (r ∷ rs) got))
      (map.len-insert slot_total t q r.1)
      (map.len-insert name_total got r.0 r.1 ∙ ap (λ b. cond b (map.len got) (map.len got + 1)) (sym (there r ms d apart at)))
      put

  -- as many rows as the object gets
  pub len_more : (rows : List (Name × V)) (ms : List (FinMap name_cmp V)) (d : FinMap name_cmp V) → IsApart owner first (length ms) far → place_in owner first (length ms) o ≡ Some i
      → map.len (with_rows rows (get_or ms i d)) ≡ map.len (get_or ms i d) + length rows → map.len (with_rows_on o rows (table owner first ms far)) ≡ map.len (table owner first ms far) + length rows
  len_more rows ms d apart at h = let a = len_all rows ms d apart at in omega arith

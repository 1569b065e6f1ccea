-- The next row, by the rows of one object and those behind it.
use Rattle.std.proofs.Common.{◌≡◌, Bool, true, false, Option, None, Some, is_some, ap, sym, ◌∙◌, subst}
use Rattle.std.specs.declared.cmp.Ordering.TheVariants.{Less, Greater}
use Rattle.std.specs.Ordering.{is_lt, is_le, ordering_then, ordering_reverse}
use Rattle.std.specs.Cmp.{tied_itself}
use Rattle.std.specs.FinMap as map
use Rattle.std.specs.FinMap.{FinMap}
use Rattle.std.specs.Map.{lookup_entry}
use Rattle.std.proofs.lemmas.Bool.{false≢true}
use Rattle.wjs_base.specs.declared.ids.ObjId.{ObjId}
use Rattle.wjs_base.specs.declared.values.Name.{Name}
use Rattle.wjs_base.specs.declared.values.Slot.{Slot}
use Rattle.wjs_base.specs.Order.{name_cmp, obj_cmp, slot_cmp, obj_total, obj_exact, slot_total, slot_exact}
use Rattle.wjs_base.proofs.Booleans.{by_bool}
use Rattle.wjs_base.proofs.Options.{by_option}
use Rattle.wjs_rows.specs.Order.{is_from, is_after}
use Rattle.wjs_slots.specs.Least.{IsLeast, is_past, is_next_on, comes_past}
use Rattle.wjs_names.proofs.Basics.{by_cmp}
use Rattle.wjs_names.proofs.Least.{first_is, least_is, alike}
use Rattle.wjs_slots.proofs.OnObjects.{same_cmp, on_is, on_from}

-- turned
turned_less : (a b : ObjId) → obj_cmp a b ≡ Less → obj_cmp b a ≡ Greater
turned_less a b c = obj_total.antisymm b a ∙ ap ordering_reverse c

module _ {V : Type 0} (rows : FinMap slot_cmp V) where
  -- a slot with a row that passes shows that there is a first
  some_row : (p : Slot → Bool) (q : Slot) → p q ≡ true → is_some (map.get rows q) ≡ true → is_some (lookup_entry p (map.entries rows)) ≡ true
  some_row p q y s = by_option (lookup_entry p (map.entries rows))
      (λ n. let f = subst (IsLeast slot_cmp (map.get rows) p) n (first_is slot_total slot_exact p rows) in absurd (false≢true (sym (ap is_some (f q y)) ∙ s)))
      (λ e n. ap is_some n)

  abbrev Row : ObjId → Option Name → Slot × V → Type 0
  Row o passed e = (e.0.object ≡ o) × (comes_past passed e.0.name ≡ true) × (map.get rows e.0 ≡ Some e.1) × ((q : Slot) → is_next_on o passed q ≡ true → is_some (map.get rows q) ≡ true → is_lt (slot_cmp q e.0) ≡ false)

  -- the next row of an object
  row_is : (o : ObjId) (passed : Option Name) (e : Slot × V) → Some e ≡ lookup_entry (is_next_on o passed) (map.entries rows) → Row o passed e
  row_is o passed e h =
      let f = subst (IsLeast slot_cmp (map.get rows) (is_next_on o passed)) (sym h) (first_is slot_total slot_exact (is_next_on o passed) rows) in
      let b = on_is o passed e.0 f.0 in
      (b.0, b.1, f.1, f.2)

  -- ---- after a slot, or from it on

  pub after_on : (slot : Slot) (e : Slot × V) → Some e ≡ lookup_entry (is_next_on slot.object (Some slot.name)) (map.entries rows) → Some e ≡ lookup_entry (is_after slot_cmp slot) (map.entries rows)
  after_on slot e h =
      let r = row_is slot.object (Some slot.name) e h in
      least_is slot_total slot_exact (is_after slot_cmp slot) rows (Some e) (
        ap is_lt (same_cmp slot e.0 (sym r.0)) ∙ r.1,
        r.2,
        λ q y s. by_cmp (obj_cmp slot.object q.object)
            (λ c. ap (λ u. is_lt (ordering_then (obj_cmp q.object u) (name_cmp q.name e.0.name))) r.0 ∙ ap (λ u. is_lt (ordering_then u (name_cmp q.name e.0.name))) (turned_less slot.object q.object c))
            (λ c. let x = obj_exact slot.object q.object c in r.3 q (on_from slot.object (Some slot.name) q (sym x) (sym (ap is_lt (same_cmp slot q x)) ∙ y)) s)
            (λ c. absurd (false≢true (sym (ap (λ u. is_lt (ordering_then u (name_cmp slot.name q.name))) c) ∙ y))),
      )

  -- behind an object's last row, what comes after it is of a later object
  pub past_same : (slot : Slot) → None ≡ lookup_entry (is_next_on slot.object (Some slot.name)) (map.entries rows) → (q : Slot) → is_some (map.get rows q) ≡ true → is_after slot_cmp slot q ≡ is_past slot.object q
  past_same slot none q s =
      let f = subst (IsLeast slot_cmp (map.get rows) (is_next_on slot.object (Some slot.name))) (sym none) (first_is slot_total slot_exact (is_next_on slot.object (Some slot.name)) rows) in
      by_cmp (obj_cmp slot.object q.object)
      (λ c. ap (λ u. is_lt (ordering_then u (name_cmp slot.name q.name))) c ∙ sym (ap is_lt c))
      (λ c.
      let x = obj_exact slot.object q.object c in
      by_bool (is_lt (name_cmp slot.name q.name))
      (λ t. absurd (false≢true (sym (ap is_some (f q (on_from slot.object (Some slot.name) q (sym x) t))) ∙ s)))
      (λ t. ap (λ u. is_lt (ordering_then u (name_cmp slot.name q.name))) c ∙ t ∙ sym (ap is_lt c)))
      (λ c. ap (λ u. is_lt (ordering_then u (name_cmp slot.name q.name))) c ∙ sym (ap is_lt c))

  pub from_here : (slot : Slot) (v : V) → map.get rows slot ≡ Some v → Some (slot, v) ≡ lookup_entry (is_from slot_cmp slot) (map.entries rows)
  from_here slot v h = least_is slot_total slot_exact (is_from slot_cmp slot) rows (Some (slot, v)) (
    ap is_le (tied_itself slot_total slot),
    h,
    λ q y s. by_cmp (slot_cmp slot q)
        (λ c. ap is_lt (slot_total.antisymm q slot ∙ ap ordering_reverse c))
        (λ c. ap is_lt (slot_total.antisymm q slot ∙ ap ordering_reverse c))
        (λ c. absurd (false≢true (sym (ap is_le c) ∙ y))),
  )

  pub from_past : (slot : Slot) (d : Option (Slot × V)) → map.get rows slot ≡ None → d ≡ lookup_entry (is_after slot_cmp slot) (map.entries rows) → d ≡ lookup_entry (is_from slot_cmp slot) (map.entries rows)
  from_past slot d none is =
      least_is slot_total slot_exact (is_from slot_cmp slot) rows d
      (alike slot_cmp (is_from slot_cmp slot) (is_after slot_cmp slot) (map.get rows) d (λ q s. by_cmp (slot_cmp slot q)
      (λ c. ap is_le c ∙ sym (ap is_lt c))
      (λ c. absurd (false≢true (sym (ap is_some (ap (map.get rows) (sym (slot_exact slot q c)) ∙ none)) ∙ s)))
      (λ c. ap is_le c ∙ sym (ap is_lt c)))
      (subst (IsLeast slot_cmp (map.get rows) (is_after slot_cmp slot)) (sym is) (first_is slot_total slot_exact (is_after slot_cmp slot) rows)))

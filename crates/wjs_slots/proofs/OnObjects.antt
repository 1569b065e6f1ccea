-- The next row of one object.
use Rattle.std.proofs.Common.{◌≡◌, ℕ, Bool, true, false, cond, ◌&&◌, List, length, get_or, Option, None, Some, is_some, refl, ap, sym, ◌∙◌, subst}
use Rattle.std.specs.declared.cmp.Ordering.{Ordering}
use Rattle.std.specs.declared.cmp.Ordering.TheVariants.{Less, Equal, Greater}
use Rattle.std.specs.Ordering.{is_lt, is_le, ordering_then}
use Rattle.std.specs.Cmp.{tied_itself}
use Rattle.std.specs.FinMap as map
use Rattle.std.specs.FinMap.{FinMap, find}
use Rattle.std.specs.Map.{lookup_entry}
use Rattle.std.specs.Option.{option_map}
use Rattle.std.proofs.lemmas.Bool.{true≢false, false≢true, and_parts}
use Rattle.wjs_base.specs.declared.ids.ObjId.{ObjId}
use Rattle.wjs_base.specs.declared.values.Name.{Name}
use Rattle.wjs_base.specs.declared.values.Name.TheVariants.{Index}
use Rattle.wjs_base.specs.declared.values.Slot.{Slot}
use Rattle.wjs_base.specs.Order.{name_cmp, obj_cmp, slot_cmp, obj_exact, obj_total, name_total, name_exact, slot_total, slot_exact}
use Rattle.wjs_base.specs.Same.{object_Decides}
use Rattle.wjs_base.proofs.Booleans.{by_bool}
use Rattle.wjs_base.proofs.Options.{by_option}
use Rattle.wjs_rows.specs.Order.{is_from, is_after}
use Rattle.wjs_slots.specs.Least.{IsLeast, is_object, comes_past, is_next_on, row_on, entry_on}
use Rattle.wjs_names.specs.Lists.{IsInOrder}
use Rattle.wjs_slots.specs.Near.{place_in, IsSplit}
use Rattle.wjs_names.proofs.Least.{first_on, first_is, least_is, least_one}
use Rattle.wjs_slots.proofs.Values.{table, get_near, get_far}
use Rattle.wjs_names.proofs.Walks.{first_name}

-- ---- slots of one object

pub same_cmp : (a b : Slot) → a.object ≡ b.object → slot_cmp a b ≡ name_cmp a.name b.name
same_cmp a b e = ap (λ o. ordering_then (obj_cmp o b.object) (name_cmp a.name b.name)) e ∙ ap (λ c. ordering_then c (name_cmp a.name b.name)) (tied_itself obj_total b.object)

pub on_is : (o : ObjId) (passed : Option Name) (q : Slot) → is_next_on o passed q ≡ true → (q.object ≡ o) × (comes_past passed q.name ≡ true)
on_is o passed q h = let b = and_parts (is_object q.object o) (comes_past passed q.name) h in ((object_Decides q.object o).0 b.0, b.1)

pub on_from : (o : ObjId) (passed : Option Name) (q : Slot) → q.object ≡ o → comes_past passed q.name ≡ true → is_next_on o passed q ≡ true
on_from o passed q e h = ap (λ b. b && comes_past passed q.name) ((object_Decides q.object o).1 e) ∙ h

-- they stand together
past_object : (o u : ObjId) (a b : Ordering) (c : Ordering) → obj_cmp o u ≡ c → is_object u o ≡ false → is_le (ordering_then c a) ≡ true → is_lt (ordering_then c b) ≡ true
past_object o u a b Less e n h = refl
past_object o u a b Equal e n h = absurd (true≢false (sym ((object_Decides u o).1 (sym (obj_exact o u e))) ∙ n))
past_object o u a b Greater e n h = absurd (false≢true h)

stands_past : (o : ObjId) (name : Name) (q e : Slot) → q.object ≡ o → is_object e.object o ≡ false → is_le (slot_cmp (record { object = o; name = name }) e) ≡ true → is_lt (slot_cmp q e) ≡ true
stands_past o name q e qo n h =
    ap (λ v. is_lt (ordering_then (obj_cmp v e.object) (name_cmp q.name e.name))) qo
    ∙ past_object o e.object (name_cmp name e.name) (name_cmp q.name e.name) (obj_cmp o e.object) refl n h

lt_le : (c : Ordering) → is_lt c ≡ true → is_le c ≡ true
lt_le Less h = refl
lt_le Equal h = absurd (false≢true h)
lt_le Greater h = absurd (false≢true h)

-- ---- the least

module _ {V : Type 0} (get : Slot → Option V) (o : ObjId) (passed : Option Name) where
  -- by the object's names
  near_least : (m : FinMap name_cmp V) → ((q : Slot) → q.object ≡ o → get q ≡ map.get m q.name) → (d : Option (Name × V)) → IsLeast name_cmp (map.get m) (comes_past passed) d → IsLeast slot_cmp get (is_next_on o passed) (option_map (row_on o) d)
  near_least m same None h = λ q y. let b = on_is o passed q y in same q b.0 ∙ h q.name b.1
  near_least m same (Some e) h = (
    on_from o passed (record { object = o; name = e.0 }) refl h.0,
    same (record { object = o; name = e.0 }) refl ∙ h.1,
    λ q y s. let b = on_is o passed q y in ap is_lt (same_cmp q (record { object = o; name = e.0 }) b.0) ∙ h.2 q.name b.1 (sym (ap is_some (same q b.0)) ∙ s),
  )

  -- by values that are the same at the object's slots
  far_least : (f : Slot → Option V) → ((q : Slot) → q.object ≡ o → get q ≡ f q) → (d : Option (Slot × V)) → IsLeast slot_cmp f (is_next_on o passed) d → IsLeast slot_cmp get (is_next_on o passed) d
  far_least f same None h = λ q y. same q (on_is o passed q y).0 ∙ h q y
  far_least f same (Some e) h = (h.0, same e.0 (on_is o passed e.0 h.0).0 ∙ h.1, λ q y s. h.2 q y (sym (ap is_some (same q (on_is o passed q y).0)) ∙ s))

  -- by the least of all that pass a test, where of the object's slots the same pass
  kept_least : (p : Slot → Bool) → ((q : Slot) → q.object ≡ o → p q ≡ comes_past passed q.name) → ((q e : Slot) → q.object ≡ o → p e ≡ true → is_object e.object o ≡ false → is_lt (slot_cmp q e) ≡ true)
      → (d : Option (Slot × V)) → IsLeast slot_cmp get p d → IsLeast slot_cmp get (is_next_on o passed) (entry_on o d)
  kept_least p same past None h = λ q y. let b = on_is o passed q y in h q (same q b.0 ∙ b.1)
  kept_least p same past (Some e) h = by_bool {P = IsLeast slot_cmp get (is_next_on o passed) (entry_on o (Some e))} (is_object e.0.object o)
      (λ t. let x = (object_Decides e.0.object o).0 t in
      subst (λ b. IsLeast slot_cmp get (is_next_on o passed) (cond b (Some e) None)) (sym t) (
        on_from o passed e.0 x (sym (same e.0 x) ∙ h.0),
        h.1,
        λ q y s. let b = on_is o passed q y in h.2 q (same q b.0 ∙ b.1) s,
      ))
      (λ f. subst (λ b. IsLeast slot_cmp get (is_next_on o passed) (cond b (Some e) None)) (sym f)
      (λ q y. let b = on_is o passed q y in
      by_option (get q) (λ n. n) (λ v s. absurd (true≢false (sym (past q e.0 b.0 h.0 f) ∙ h.2 q (same q b.0 ∙ b.1) (ap is_some s))))))

-- ---- the far rows

module _ {V : Type 0} (o : ObjId) where
  kept_is : (passed : Option Name) (far : List (Slot × V)) (p : Slot → Bool) → IsInOrder slot_cmp far → ((q : Slot) → q.object ≡ o → p q ≡ comes_past passed q.name) → ((q e : Slot) → q.object ≡ o → p e ≡ true → is_object e.object o ≡ false → is_lt (slot_cmp q e) ≡ true)
      → entry_on o (lookup_entry p far) ≡ lookup_entry (is_next_on o passed) far
  kept_is passed far p ordered same past =
      least_one slot_total slot_exact (is_next_on o passed) (λ q. find slot_cmp q far) (entry_on o (lookup_entry p far)) (lookup_entry (is_next_on o passed) far)
      (kept_least (λ q. find slot_cmp q far) o passed p same past (lookup_entry p far) (first_on slot_total slot_exact p far ordered))
      (first_on slot_total slot_exact (is_next_on o passed) far ordered)

  pub far_first : (far : List (Slot × V)) → IsInOrder slot_cmp far → entry_on o (lookup_entry (is_from slot_cmp (record { object = o; name = Index 0 })) far) ≡ lookup_entry (is_next_on o None) far
  far_first far ordered = kept_is None far (is_from slot_cmp (record { object = o; name = Index 0 })) ordered
      (λ q e. ap is_le (same_cmp (record { object = o; name = Index 0 }) q (sym e)) ∙ first_name q.name)
      (λ q e qo h n. stands_past o (Index 0) q e qo n h)

  pub far_later : (name : Name) (far : List (Slot × V)) → IsInOrder slot_cmp far → entry_on o (lookup_entry (is_after slot_cmp (record { object = o; name = name })) far) ≡ lookup_entry (is_next_on o (Some name)) far
  far_later name far ordered = kept_is (Some name) far (is_after slot_cmp (record { object = o; name = name })) ordered
      (λ q e. ap is_lt (same_cmp (record { object = o; name = name }) q (sym e)))
      (λ q e qo h n. stands_past o name q e qo n (lt_le (slot_cmp (record { object = o; name = name }) e) h))

-- ---- both parts

module _ {V : Type 0} (owner first : ℕ) (ms : List (FinMap name_cmp V)) (far : List (Slot × V)) (o : ObjId) (passed : Option Name) where
  pub near_next : (i : ℕ) (m : FinMap name_cmp V) → IsSplit owner first (length ms) far → place_in owner first (length ms) o ≡ Some i → m ≡ get_or ms i m
      → option_map (row_on o) (lookup_entry (comes_past passed) (map.entries m)) ≡ lookup_entry (is_next_on o passed) (map.entries (table owner first ms far))
  near_next i m split at is =
      least_is slot_total slot_exact (is_next_on o passed) (table owner first ms far) (option_map (row_on o) (lookup_entry (comes_past passed) (map.entries m)))
      (near_least (map.get (table owner first ms far)) o passed m
      (λ q e. get_near owner first ms far q i m split.apart (ap (place_in owner first (length ms)) e ∙ at) ∙ ap (λ x. map.get x q.name) (sym is))
      (lookup_entry (comes_past passed) (map.entries m))
      (first_is name_total name_exact (comes_past passed) m))

  pub far_next : IsSplit owner first (length ms) far → place_in owner first (length ms) o ≡ None → lookup_entry (is_next_on o passed) far ≡ lookup_entry (is_next_on o passed) (map.entries (table owner first ms far))
  far_next split none =
      least_is slot_total slot_exact (is_next_on o passed) (table owner first ms far) (lookup_entry (is_next_on o passed) far)
      (far_least (map.get (table owner first ms far)) o passed (λ q. find slot_cmp q far)
      (λ q e. get_far owner first ms far q (ap (place_in owner first (length ms)) e ∙ none))
      (lookup_entry (is_next_on o passed) far)
      (first_on slot_total slot_exact (is_next_on o passed) far split.ordered))

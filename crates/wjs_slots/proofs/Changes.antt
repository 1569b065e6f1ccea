-- Changes of one row of a table.
use Rattle.std.proofs.Common.{◌≡◌, ℕ, zero, suc, ◌+◌, ◌-◌, ◌≤◌, nat_le, Bool, true, false, cond, ◌==◌, List, [], ◌∷◌, ◌++◌, length, set, get_or, replicate, Option, None, Some, slice_get, refl, ap, sym, subst, ◌∙◌, arith, eqb-true, length-append, append_assoc}
use Rattle.std.specs.Ordering.{is_eq, ordering_then, eq_by_cmp}
use Rattle.std.specs.FinMap as map
use Rattle.std.specs.FinMap.{FinMap, find}
use Rattle.std.specs.Option.{option_or}
use Rattle.std.proofs.lemmas.Bool.{true≢false}
use Rattle.std.proofs.lemmas.Option.{slice_get-get_or}
use Rattle.wjs_base.specs.declared.ids.ObjId.{ObjId}
use Rattle.wjs_base.specs.declared.values.Name.{Name}
use Rattle.wjs_base.specs.declared.values.Slot.{Slot}
use Rattle.wjs_base.specs.Order.{name_cmp, obj_cmp, slot_cmp, obj_exact, slot_exact, slot_total}
use Rattle.wjs_base.proofs.Booleans.{by_bool}
use Rattle.wjs_base.proofs.Options.{no_none}
use Rattle.wjs_base.proofs.Numbers.{not_le, le_of}
use Rattle.wjs_base.proofs.Lists.{get_set_same, get_set_other}
use Rattle.wjs_slots.specs.Near.{place_in, value_in, held_at, near_value, IsApart}
use Rattle.wjs_names.proofs.Basics.{equal_is, key_is, or_first, or_second}
use Rattle.wjs_slots.proofs.Values.{not_then, same_object, placed_is, held_is, held_before, near_present, near_other, near_absent, table, get_table, IsPlaced}

-- what is there is put back
pub set_back : {X : Type 0} (xs : List X) (i : ℕ) (x d : X) → x ≡ get_or xs i d → set xs i x ≡ xs
set_back [] i x d e = refl
set_back (y ∷ xs) zero x d e = ap (λ z. z ∷ xs) e
set_back (y ∷ xs) (suc i) x d e = ap (λ rest. y ∷ rest) (set_back xs i x d e)

module _ {V : Type 0} where
  -- a row of a near object changes
  near_set : (owner first : ℕ) (ms : List (FinMap name_cmp V)) (slot : Slot) (i : ℕ) (m d : FinMap name_cmp V) (w : Option V) → IsPlaced owner first (length ms) slot.object i
      → ((n : Name) → map.get m n ≡ cond (eq_by_cmp name_cmp n slot.name) w (map.get (get_or ms i d) n))
      → (q : Slot) → near_value owner first (set ms i m) q ≡ cond (eq_by_cmp slot_cmp q slot) w (near_value owner first ms q)
  near_set owner first ms slot i m d w p h q =
      by_bool (is_eq (obj_cmp q.object slot.object))
      (λ t.
      let e = obj_exact q.object slot.object (equal_is (obj_cmp q.object slot.object) t) in
      let o : q.object.owner ≡ owner = ap (λ (x : ObjId). x.owner) e ∙ p.owner_is in
      let f : first ≤ q.object.serial = subst (λ (x : ObjId). first ≤ x.serial) (sym e) p.from in
      let s : i ≡ q.object.serial - first = p.serial_is ∙ ap (λ (x : ObjId). x.serial - first) (sym e) in
      near_present owner first (set ms i m) q o
      ∙ ap (λ x. value_in x q.name) (held_is first (set ms i m) q.object.serial i f s ∙ get_set_same ms i m p.below)
      ∙ h q.name
      ∙ ap (cond (eq_by_cmp name_cmp q.name slot.name) w) (sym (near_present owner first ms q o ∙ ap (λ x. value_in x q.name) (held_is first ms q.object.serial i f s ∙ slice_get-get_or ms i d p.below)))
      ∙ sym (ap (λ c. cond (is_eq (ordering_then c (name_cmp q.name slot.name))) w (near_value owner first ms q)) (equal_is (obj_cmp q.object slot.object) t)))
      (λ f.
      by_bool (q.object.owner == owner)
      (λ t.
      let o = eqb-true q.object.owner owner t in
      let other : held_at first (set ms i m) q.object.serial ≡ held_at first ms q.object.serial = by_bool (nat_le first q.object.serial)
      (λ y.
      let l = le_of first q.object.serial y in
      held_is first (set ms i m) q.object.serial (q.object.serial - first) l refl
      ∙ get_set_other ms i (q.object.serial - first) m (λ e.
      let a = p.serial_is in
      let b = p.from in
      let k : q.object.serial ≡ slot.object.serial = omega arith in
      true≢false (sym (ap is_eq (same_object q.object slot.object (o ∙ sym p.owner_is) k)) ∙ f))
      ∙ sym (held_is first ms q.object.serial (q.object.serial - first) l refl))
      (λ n. let l = not_le first q.object.serial n in held_before first (set ms i m) q.object.serial l ∙ sym (held_before first ms q.object.serial l)) in
      near_present owner first (set ms i m) q o ∙ ap (λ x. value_in x q.name) other ∙ sym (near_present owner first ms q o))
      (λ g. near_other owner first (set ms i m) q g ∙ sym (near_other owner first ms q g))
      ∙ sym (ap (λ b. cond b w (near_value owner first ms q)) (not_then (obj_cmp q.object slot.object) (name_cmp q.name slot.name) f)))

  pub near_changed : (owner first : ℕ) (ms : List (FinMap name_cmp V)) (far : List (Slot × V)) (slot : Slot) (i : ℕ) (m d : FinMap name_cmp V) (w : Option V) → IsApart owner first (length ms) far → place_in owner first (length ms) slot.object ≡ Some i
      → ((n : Name) → map.get m n ≡ cond (eq_by_cmp name_cmp n slot.name) w (map.get (get_or ms i d) n))
      → (q : Slot) → map.get (table owner first (set ms i m) far) q ≡ cond (eq_by_cmp slot_cmp q slot) w (map.get (table owner first ms far) q)
  near_changed owner first ms far slot i m d w apart at h q =
      let p = placed_is owner first (length ms) slot.object i at in
      get_table owner first (set ms i m) far q
      ∙ ap (λ o. option_or o (find slot_cmp q far)) (near_set owner first ms slot i m d w p h q)
      ∙ or_first (eq_by_cmp slot_cmp q slot) w (near_value owner first ms q) (find slot_cmp q far)
      (λ t. ap (λ x. find slot_cmp x far) (key_is slot_exact q slot t) ∙ apart slot (at ∙ ap Some p.serial_is))
      ∙ sym (ap (cond (eq_by_cmp slot_cmp q slot) w) (get_table owner first ms far q))

  -- a far row changes
  pub far_changed : (owner first : ℕ) (ms : List (FinMap name_cmp V)) (far more : List (Slot × V)) (slot : Slot) (w : Option V) → place_in owner first (length ms) slot.object ≡ None
      → ((q : Slot) → find slot_cmp q more ≡ cond (eq_by_cmp slot_cmp q slot) w (find slot_cmp q far))
      → (q : Slot) → map.get (table owner first ms more) q ≡ cond (eq_by_cmp slot_cmp q slot) w (map.get (table owner first ms far) q)
  far_changed owner first ms far more slot w none h q =
      get_table owner first ms more q
      ∙ ap (option_or (near_value owner first ms q)) (h q)
      ∙ or_second (eq_by_cmp slot_cmp q slot) w (near_value owner first ms q) (find slot_cmp q far)
      (λ t. ap (near_value owner first ms) (key_is slot_exact q slot t) ∙ near_absent owner first ms slot none)
      ∙ sym (ap (cond (eq_by_cmp slot_cmp q slot) w) (get_table owner first ms far q))

  -- the far rows stay apart
  pub far_apart : (owner first n : ℕ) (far more : List (Slot × V)) (slot : Slot) (w : Option V) → place_in owner first n slot.object ≡ None → IsApart owner first n far
      → ((q : Slot) → find slot_cmp q more ≡ cond (eq_by_cmp slot_cmp q slot) w (find slot_cmp q far)) → IsApart owner first n more
  far_apart owner first n far more slot w none apart h q at =
      h q
      ∙ ap (λ b. cond b w (find slot_cmp q far)) (by_bool (eq_by_cmp slot_cmp q slot) (λ t. no_none (q.object.serial - first) (sym none ∙ ap (λ (x : Slot). place_in owner first n x.object) (sym (key_is slot_exact q slot t)) ∙ at)) (λ f. f))
      ∙ apart q at

  pub inserted : (old new : FinMap slot_cmp V) (slot : Slot) (v : V) → ((q : Slot) → map.get new q ≡ cond (eq_by_cmp slot_cmp q slot) (Some v) (map.get old q)) → new ≡ map.insert old slot v
  inserted old new slot v h = map.same_map slot_total slot_exact new (map.insert old slot v) (λ q. h q ∙ sym (map.get-insert slot_total old slot v q))

  pub removed : (old new : FinMap slot_cmp V) (slot : Slot) → ((q : Slot) → map.get new q ≡ cond (eq_by_cmp slot_cmp q slot) None (map.get old q)) → new ≡ map.remove old slot
  removed old new slot h = map.same_map slot_total slot_exact new (map.remove old slot) (λ q. h q ∙ sym (map.get-remove slot_total old slot q))

  -- objects without rows are added
  pub bare : (ms : List (FinMap name_cmp V)) (k i : ℕ) (n : Name) → value_in (slice_get (ms ++ replicate k map.empty) i) n ≡ value_in (slice_get ms i) n
  bare [] zero i n = refl
  bare [] (suc k) zero n = map.get-empty name_cmp n
  bare [] (suc k) (suc i) n = bare [] k i n
  bare (m ∷ ms) k zero n = refl
  bare (m ∷ ms) k (suc i) n = bare ms k i n

  bare_at : (first : ℕ) (ms : List (FinMap name_cmp V)) (k i : ℕ) (n : Name) → value_in (held_at first (ms ++ replicate k map.empty) i) n ≡ value_in (held_at first ms i) n
  bare_at first ms k i n = by (nat_le first i)
    where
      by : (b : Bool) → value_in (cond b (slice_get (ms ++ replicate k map.empty) (i - first)) None) n ≡ value_in (cond b (slice_get ms (i - first)) None) n
      by true = bare ms k (i - first) n
      by false = refl

  pub grown : (owner first k : ℕ) (ms : List (FinMap name_cmp V)) (far : List (Slot × V)) → table owner first (ms ++ replicate k map.empty) far ≡ table owner first ms far
  grown owner first k ms far = map.same_map slot_total slot_exact (table owner first (ms ++ replicate k map.empty) far) (table owner first ms far) (λ q.
      get_table owner first (ms ++ replicate k map.empty) far q
      ∙ ap (λ v. option_or (cond (q.object.owner == owner) v None) (find slot_cmp q far)) (bare_at first ms k q.object.serial q.name)
      ∙ sym (get_table owner first ms far q))

one_bare : {X : Type 0} (e : X) (k : ℕ) → replicate k e ++ e ∷ [] ≡ replicate (suc k) e
one_bare e zero = refl
one_bare e (suc k) = ap (λ rest. e ∷ rest) (one_bare e k)

-- one more of the same after those
pub more_bare : {X : Type 0} (old now new : List X) (x e : X) → now ≡ old ++ replicate (length now - length old) e → length old ≤ length now → new ≡ now ++ x ∷ [] → x ≡ e → new ≡ old ++ replicate (length new - length old) e
more_bare old now new x e is l pushed same =
    let n : length new ≡ length now + 1 = ap length pushed ∙ length-append now (x ∷ []) in
    let k : suc (length now - length old) ≡ length new - length old = omega (arith, n, l) in
    pushed ∙ ap (λ y. now ++ y ∷ []) same ∙ ap (λ xs. xs ++ e ∷ []) is ∙ append_assoc old (replicate (length now - length old) e) (e ∷ [])
    ∙ ap (λ xs. old ++ xs) (one_bare e (length now - length old) ∙ ap (λ m. replicate m e) k)

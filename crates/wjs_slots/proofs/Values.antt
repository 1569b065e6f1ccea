-- What the two parts of a table have at a slot.
use Rattle.std.proofs.Common.{◌≡◌, ℕ, zero, suc, ◌+◌, ◌-◌, ◌<◌, ◌≤◌, nat_le, false, cond, ◌&&◌, ◌==◌, ltb, List, [], ◌∷◌, ◌++◌, length, get_or, None, Some, slice_get, refl, ap, sym, subst, ◌∙◌, arith, eqb-true, eq-eqb, ltb-true, ltb-false, lt-ltb}
use Rattle.std.specs.declared.cmp.Ordering.{Ordering}
use Rattle.std.specs.declared.cmp.Ordering.TheVariants.{Less, Equal, Greater}
use Rattle.std.specs.Ordering.{is_eq, ordering_then, nat_cmp}
use Rattle.std.specs.Cmp.{nat_cmp_total, tied_itself}
use Rattle.std.specs.FinMap as map
use Rattle.std.specs.FinMap.{FinMap, find}
use Rattle.std.specs.Option.{option_or}
use Rattle.std.proofs.lemmas.Bool.{false≢true, and_parts}
use Rattle.std.proofs.lemmas.Option.{slice_get_past, slice_get-get_or, same_Some}
use Rattle.wjs_base.specs.declared.ids.ObjId.{ObjId}
use Rattle.wjs_base.specs.declared.values.Name.{Name}
use Rattle.wjs_base.specs.declared.values.Slot.{Slot}
use Rattle.wjs_base.specs.Order.{name_cmp, obj_cmp, slot_cmp, obj_exact, slot_total}
use Rattle.wjs_base.proofs.Booleans.{by_bool}
use Rattle.wjs_base.proofs.Options.{no_none}
use Rattle.wjs_base.proofs.Numbers.{not_le, of_le, le_of, lt_not}
use Rattle.wjs_slots.specs.Near.{place_in, value_in, held_at, near_value, rows_at, near_rows, IsApart}
use Rattle.wjs_names.proofs.Basics.{equal_is, or_none}
use Rattle.wjs_names.proofs.Lists.{find_append}

-- ---- objects

pub same_object : (a b : ObjId) → a.owner ≡ b.owner → a.serial ≡ b.serial → obj_cmp a b ≡ Equal
same_object a b h k = ap (λ n. ordering_then (nat_cmp n b.owner) (nat_cmp a.serial b.serial)) h ∙ ap (λ n. ordering_then (nat_cmp b.owner b.owner) (nat_cmp n b.serial)) k ∙ ap (λ c. ordering_then c (nat_cmp b.serial b.serial)) (tied_itself nat_cmp_total b.owner) ∙ tied_itself nat_cmp_total b.serial

apart_object : (a b : ObjId) → (a ≡ b → ⊥) → is_eq (obj_cmp a b) ≡ false
apart_object a b ne = by_bool (is_eq (obj_cmp a b)) (λ t. absurd (ne (obj_exact a b (equal_is (obj_cmp a b) t)))) (λ f. f)

pub not_then : (a b : Ordering) → is_eq a ≡ false → is_eq (ordering_then a b) ≡ false
not_then Less b h = refl
not_then Equal b h = absurd (false≢true (sym h))
not_then Greater b h = refl

-- ---- places

pub record IsPlaced (owner first n : ℕ) (object : ObjId) (i : ℕ) : Type 0 where
  pub owner_is : object.owner ≡ owner
  pub from : first ≤ object.serial
  pub below : i < n
  pub serial_is : i ≡ object.serial - first

pub placed_is : (owner first n : ℕ) (object : ObjId) (i : ℕ) → place_in owner first n object ≡ Some i → IsPlaced owner first n object i
placed_is owner first n object i h = by_bool ((object.owner == owner) && (nat_le first object.serial && ltb (object.serial - first) n))
    (λ t.
    let b = and_parts (object.owner == owner) (nat_le first object.serial && ltb (object.serial - first) n) t in
    let d = and_parts (nat_le first object.serial) (ltb (object.serial - first) n) b.1 in
    let l : object.serial - first < n = ltb-true (object.serial - first) n d.1 in
    let e : i ≡ object.serial - first = sym (same_Some (object.serial - first) i (sym (ap (λ c. cond c (Some (object.serial - first)) None) t) ∙ h)) in
    record {
      owner_is = eqb-true object.owner owner b.0;
      from = le_of first object.serial d.0;
      below = subst (λ k. k < n) (sym e) l;
      serial_is = e;
    })
    (λ f. no_none i (sym (ap (λ c. cond c (Some (object.serial - first)) None) f) ∙ h))

pub placed_at : (owner first n : ℕ) (object : ObjId) → object.owner ≡ owner → first ≤ object.serial → object.serial - first < n → place_in owner first n object ≡ Some (object.serial - first)
placed_at owner first n object h f l =
    ap (λ c. cond (c && (nat_le first object.serial && ltb (object.serial - first) n)) (Some (object.serial - first)) None) (eq-eqb object.owner owner h)
    ∙ ap (λ c. cond (c && ltb (object.serial - first) n) (Some (object.serial - first)) None) (of_le first object.serial f)
    ∙ ap (λ c. cond c (Some (object.serial - first)) None) (lt-ltb (object.serial - first) n l)

pub not_placed : (owner first n : ℕ) (object : ObjId) → place_in owner first n object ≡ None → object.owner ≡ owner → first ≤ object.serial → n ≤ object.serial - first
not_placed owner first n object h o f = by_bool (ltb (object.serial - first) n)
    (λ t. no_none (object.serial - first) (sym h ∙ placed_at owner first n object o f (ltb-true (object.serial - first) n t)))
    (λ g. ltb-false (object.serial - first) n g)

-- ---- values

module _ {V : Type 0} where
  -- the rows at a serial number from the first on, and before it
  pub held_is : (first : ℕ) (ms : List (FinMap name_cmp V)) (s i : ℕ) → first ≤ s → i ≡ s - first → held_at first ms s ≡ slice_get ms i
  held_is first ms s i l e = ap (λ b. cond b (slice_get ms (s - first)) None) (of_le first s l) ∙ ap (slice_get ms) (sym e)

  pub held_before : (first : ℕ) (ms : List (FinMap name_cmp V)) (s : ℕ) → s < first → held_at first ms s ≡ None
  held_before first ms s l = ap (λ b. cond b (slice_get ms (s - first)) None) (lt_not first s l)

  pub near_present : (owner first : ℕ) (ms : List (FinMap name_cmp V)) (q : Slot) → q.object.owner ≡ owner → near_value owner first ms q ≡ value_in (held_at first ms q.object.serial) q.name
  near_present owner first ms q h = ap (λ b. cond b (value_in (held_at first ms q.object.serial) q.name) None) (eq-eqb q.object.owner owner h)

  pub near_other : (owner first : ℕ) (ms : List (FinMap name_cmp V)) (q : Slot) → (q.object.owner == owner) ≡ false → near_value owner first ms q ≡ None
  near_other owner first ms q h = ap (λ b. cond b (value_in (held_at first ms q.object.serial) q.name) None) h

  pub near_absent : (owner first : ℕ) (ms : List (FinMap name_cmp V)) (q : Slot) → place_in owner first (length ms) q.object ≡ None → near_value owner first ms q ≡ None
  near_absent owner first ms q h = by_bool (q.object.owner == owner)
      (λ t.
      let o = eqb-true q.object.owner owner t in
      let none : held_at first ms q.object.serial ≡ None = by_bool (nat_le first q.object.serial)
      (λ y. let f = le_of first q.object.serial y in
      held_is first ms q.object.serial (q.object.serial - first) f refl ∙ slice_get_past ms (q.object.serial - first) (not_placed owner first (length ms) q.object h o f))
      (λ n. held_before first ms q.object.serial (not_le first q.object.serial n)) in
      near_present owner first ms q o ∙ ap (λ m. value_in m q.name) none)
      (λ f. near_other owner first ms q f)

  rows_same : (q : Slot) (o : ObjId) (es : List (Name × V)) → obj_cmp q.object o ≡ Equal → find slot_cmp q (rows_at o es) ≡ find name_cmp q.name es
  rows_same q o [] t = refl
  rows_same q o (e ∷ es) t =
      ap (λ c. cond (is_eq (ordering_then c (name_cmp q.name e.0))) (Some e.1) (find slot_cmp q (rows_at o es))) t
      ∙ ap (cond (is_eq (name_cmp q.name e.0)) (Some e.1)) (rows_same q o es t)

  rows_other : (q : Slot) (o : ObjId) (es : List (Name × V)) → is_eq (obj_cmp q.object o) ≡ false → find slot_cmp q (rows_at o es) ≡ None
  rows_other q o [] t = refl
  rows_other q o (e ∷ es) t =
      ap (λ b. cond b (Some e.1) (find slot_cmp q (rows_at o es))) (not_then (obj_cmp q.object o) (name_cmp q.name e.0) t)
      ∙ rows_other q o es t

  none_near : (owner i : ℕ) (ms : List (FinMap name_cmp V)) (q : Slot) → (q.object.owner ≡ owner → q.object.serial < i) → find slot_cmp q (near_rows owner i ms) ≡ None
  none_near owner i [] q h = refl
  none_near owner i (m ∷ ms) q h =
      find_append slot_cmp q (rows_at (record { owner = owner; serial = i }) (map.entries m)) (near_rows owner (i + 1) ms)
      ∙ ap (λ o. option_or o (find slot_cmp q (near_rows owner (i + 1) ms))) (rows_other q (record { owner = owner; serial = i }) (map.entries m) (apart_object q.object (record { owner = owner; serial = i }) (λ e.
      let l = h (ap (λ (o : ObjId). o.owner) e) in
      let s : q.object.serial ≡ i = ap (λ (o : ObjId). o.serial) e in
      omega arith)))
      ∙ none_near owner (i + 1) ms q (λ o. let l = h o in omega arith)

  found_near : (owner i n : ℕ) (ms : List (FinMap name_cmp V)) (q : Slot) → q.object.owner ≡ owner → q.object.serial ≡ i + n → find slot_cmp q (near_rows owner i ms) ≡ value_in (slice_get ms n) q.name
  found_near owner i n [] q h s = refl
  found_near owner i zero (m ∷ ms) q h s =
      find_append slot_cmp q (rows_at (record { owner = owner; serial = i }) (map.entries m)) (near_rows owner (i + 1) ms)
      ∙ ap (option_or (find slot_cmp q (rows_at (record { owner = owner; serial = i }) (map.entries m)))) (none_near owner (i + 1) ms q (λ o. omega arith))
      ∙ or_none (find slot_cmp q (rows_at (record { owner = owner; serial = i }) (map.entries m)))
      ∙ rows_same q (record { owner = owner; serial = i }) (map.entries m) (same_object q.object (record { owner = owner; serial = i }) h (omega arith))
      ∙ sym (map.get-entries m q.name)
  found_near owner i (suc n) (m ∷ ms) q h s =
      find_append slot_cmp q (rows_at (record { owner = owner; serial = i }) (map.entries m)) (near_rows owner (i + 1) ms)
      ∙ ap (λ o. option_or o (find slot_cmp q (near_rows owner (i + 1) ms))) (rows_other q (record { owner = owner; serial = i }) (map.entries m) (apart_object q.object (record { owner = owner; serial = i }) (λ e.
      let t : q.object.serial ≡ i = ap (λ (o : ObjId). o.serial) e in
      omega arith)))
      ∙ found_near owner (i + 1) n ms q h (omega arith)

  find_near : (owner first : ℕ) (ms : List (FinMap name_cmp V)) (q : Slot) → find slot_cmp q (near_rows owner first ms) ≡ near_value owner first ms q
  find_near owner first ms q = by_bool (q.object.owner == owner)
      (λ t. let o = eqb-true q.object.owner owner t in
      by_bool (nat_le first q.object.serial)
      (λ y. let f = le_of first q.object.serial y in
      found_near owner first (q.object.serial - first) ms q o (omega arith)
      ∙ ap (λ m. value_in m q.name) (sym (held_is first ms q.object.serial (q.object.serial - first) f refl))
      ∙ sym (near_present owner first ms q o))
      (λ n. let l = not_le first q.object.serial n in
      none_near owner first ms q (λ _. l)
      ∙ ap (λ m. value_in m q.name) (sym (held_before first ms q.object.serial l))
      ∙ sym (near_present owner first ms q o)))
      (λ f. none_near owner first ms q (λ o. absurd (false≢true (sym f ∙ eq-eqb q.object.owner owner o))) ∙ sym (near_other owner first ms q f))

  -- all rows
  abbrev pub table : ℕ → ℕ → List (FinMap name_cmp V) → List (Slot × V) → FinMap slot_cmp V
  table owner first ms far = map.from_entries (near_rows owner first ms ++ far)

  pub get_table : (owner first : ℕ) (ms : List (FinMap name_cmp V)) (far : List (Slot × V)) (q : Slot) → map.get (table owner first ms far) q ≡ option_or (near_value owner first ms q) (find slot_cmp q far)
  get_table owner first ms far q =
      map.get-from_entries slot_total (near_rows owner first ms ++ far) q
      ∙ find_append slot_cmp q (near_rows owner first ms) far
      ∙ ap (λ o. option_or o (find slot_cmp q far)) (find_near owner first ms q)

  -- where the object is near
  pub get_near : (owner first : ℕ) (ms : List (FinMap name_cmp V)) (far : List (Slot × V)) (q : Slot) (i : ℕ) (d : FinMap name_cmp V) → IsApart owner first (length ms) far → place_in owner first (length ms) q.object ≡ Some i
      → map.get (table owner first ms far) q ≡ map.get (get_or ms i d) q.name
  get_near owner first ms far q i d apart h =
      let p = placed_is owner first (length ms) q.object i h in
      get_table owner first ms far q
      ∙ ap (option_or (near_value owner first ms q)) (apart q (h ∙ ap Some p.serial_is))
      ∙ or_none (near_value owner first ms q)
      ∙ near_present owner first ms q p.owner_is
      ∙ ap (λ m. value_in m q.name) (held_is first ms q.object.serial i p.from p.serial_is)
      ∙ ap (λ m. value_in m q.name) (slice_get-get_or ms i d p.below)

  -- where it isn't
  pub get_far : (owner first : ℕ) (ms : List (FinMap name_cmp V)) (far : List (Slot × V)) (q : Slot) → place_in owner first (length ms) q.object ≡ None → map.get (table owner first ms far) q ≡ find slot_cmp q far
  get_far owner first ms far q h = get_table owner first ms far q ∙ ap (λ o. option_or o (find slot_cmp q far)) (near_absent owner first ms q h)

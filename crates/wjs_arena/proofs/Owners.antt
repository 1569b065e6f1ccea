-- The finite map of all objects, by owner and serial.
use Rattle.std.proofs.Common.{◌≡◌, ℕ, zero, suc, ◌+◌, ◌<◌, ◌==◌, Bool, true, false, not, cond, List, [], ◌∷◌, ◌++◌, length, Option, None, Some, refl, sym, ap, ◌∙◌, subst, arith, slice_get, IsTrue, ◌↔◌, is_some, eqb-true, eq-eqb, ltb}
use Rattle.std.specs.Option.{option_map_or, IsSome}
use Rattle.std.specs.Ordering.{nat_cmp, eq_by_cmp}
use Rattle.std.specs.Cmp.{eq_by_cmp_equiv, unsigned_tied, Equal-is}
use Rattle.std.proofs.lemmas.Bool.Decides.{nat_tests}
use Rattle.std.specs.FinMap as map
use Rattle.std.specs.Map.{lookup}
use Rattle.std.specs.BTreeMap.{is_at}
use Rattle.wjs_base.specs.declared.ids.ObjId.{ObjId}
use Rattle.wjs_base.specs.Order.{obj_cmp, obj_exact, obj_total}
use Rattle.wjs_base.proofs.Booleans.{by_bool}
use Rattle.wjs_arena.specs.Entries.{Objects, Entry, has, objects_of, next_number}
use Rattle.wjs_arena.specs.Rows.{put_from, objects_in}

-- ---- keys

pub key_is : (a b : ObjId) → eq_by_cmp obj_cmp a b ≡ true → a ≡ b
key_is a b h = obj_exact a b ((Equal-is (obj_cmp a b)).0 h)

pub key_itself : (a : ObjId) → eq_by_cmp obj_cmp a a ≡ true
key_itself a = (eq_by_cmp_equiv obj_total).refl a

pub key_apart : (a b : ObjId) → (a ≡ b → ⊥) → eq_by_cmp obj_cmp a b ≡ false
key_apart a b h = by_bool (eq_by_cmp obj_cmp a b) (λ e. absurd (h (key_is a b e))) (λ e. e)

pub owner_apart : (a b : ℕ) → (a ≡ b → ⊥) → (a == b) ≡ false
owner_apart a b h = by_bool (a == b) (λ e. absurd (h (eqb-true a b e))) (λ e. e)

pub eq_turned : (a b : ℕ) → (a == b) ≡ (b == a)
eq_turned a b = by_bool (a == b)
    (λ t. t ∙ sym (eq-eqb b a (sym (eqb-true a b t))))
    (λ f. f ∙ sym (owner_apart b a (λ q. let u : (a == b) ≡ true = eq-eqb a b (sym q) in cc)))

-- ---- one owner's objects over others

pub put_other : (owner n : ℕ) (es : List Entry) (rest : Objects) (id : ObjId) → (id.owner ≡ owner → ⊥) → map.get (put_from owner n es rest) id ≡ map.get rest id
put_other owner n [] rest id h = refl
put_other owner n (e ∷ es) rest id h =
    let k : ObjId = record { owner = owner; serial = n } in
    map.get-insert obj_total (put_from owner (n + 1) es rest) k e id
    ∙ ap (λ b. cond b (Some e) (map.get (put_from owner (n + 1) es rest) id)) (key_apart id k (λ q. h (ap (λ (z : ObjId). z.owner) q)))
    ∙ put_other owner (n + 1) es rest id h

pub put_at : (owner n k : ℕ) (es : List Entry) (rest : Objects) (id : ObjId) → id.owner ≡ owner → id.serial ≡ n + k → map.get rest id ≡ None → map.get (put_from owner n es rest) id ≡ slice_get es k
put_at owner n k [] rest id o s h = h
put_at owner n zero (e ∷ es) rest id o s h =
    let key : ObjId = record { owner = owner; serial = n } in
    let t : id.serial ≡ n = omega arith in
    let same : id ≡ key = λ i. record { owner = o i; serial = t i } in
    map.get-insert obj_total (put_from owner (n + 1) es rest) key e id
    ∙ ap (λ b. cond b (Some e) (map.get (put_from owner (n + 1) es rest) id)) (subst (λ (z : ObjId). eq_by_cmp obj_cmp id z ≡ true) same (key_itself id))
put_at owner n (suc k) (e ∷ es) rest id o s h =
    let key : ObjId = record { owner = owner; serial = n } in
    let t : id.serial ≡ (n + 1) + k = omega arith in
    let apart : id.serial ≡ n → ⊥ = λ q. omega arith in
    map.get-insert obj_total (put_from owner (n + 1) es rest) key e id
    ∙ ap (λ b. cond b (Some e) (map.get (put_from owner (n + 1) es rest) id)) (key_apart id key (λ q. apart (ap (λ (z : ObjId). z.serial) q)))
    ∙ put_at owner (n + 1) k es rest id o t h

put_none : (owner n k : ℕ) (es : List Entry) (rest : Objects) (id : ObjId) → id.serial < n → map.get rest id ≡ None → map.get (put_from owner n es rest) id ≡ None
put_none owner n k [] rest id s h = h
put_none owner n k (e ∷ es) rest id s h =
    let key : ObjId = record { owner = owner; serial = n } in
    let t : id.serial < n + 1 = omega arith in
    let apart : id.serial ≡ n → ⊥ = λ q. omega arith in
    map.get-insert obj_total (put_from owner (n + 1) es rest) key e id
    ∙ ap (λ b. cond b (Some e) (map.get (put_from owner (n + 1) es rest) id)) (key_apart id key (λ q. apart (ap (λ (z : ObjId). z.serial) q)))
    ∙ put_none owner (n + 1) k es rest id t h

-- how many there are
put_len : (owner n : ℕ) (es : List Entry) → map.len (put_from owner n es map.empty) ≡ length es
put_len owner n [] = map.len-empty obj_cmp Entry
put_len owner n (e ∷ es) =
    let key : ObjId = record { owner = owner; serial = n } in
    let m = put_from owner (n + 1) es map.empty in
    let t : n < n + 1 = omega arith in
    let none : map.get m key ≡ None = put_none owner (n + 1) 0 es map.empty key t (map.get-empty obj_cmp key) in
    let ih = put_len owner (n + 1) es in
    map.len-insert obj_total m key e ∙ ap (λ r. cond (is_some r) (map.len m) (map.len m + 1)) none ∙ (let q : map.len m + 1 ≡ suc (length es) = omega arith in q)

module _ {V : Type 0} (items : V → List Entry) where
  -- the objects of an owner, by serial
  pub at_owner : List (ℕ × V) → ℕ → List Entry
  at_owner xs owner = option_map_or items (lookup (is_at (nat_cmp owner)) xs) []

  -- what is there under a number
  get_objects : (xs : List (ℕ × V)) (id : ObjId) → map.get (objects_in items xs) id ≡ slice_get (at_owner xs id.owner) id.serial
  unfolding at_owner
  get_objects [] id = map.get-empty obj_cmp id
  get_objects (x ∷ xs) id =
      let p : ObjId → Bool = λ z. not (z.owner == x.0) in
      let others = map.get-retain_keys (objects_in items xs) p id (λ z t. sym (ap p (obj_exact id z t))) in
      let tied : is_at (nat_cmp id.owner) x.0 ≡ (id.owner == x.0) = unsigned_tied id.owner x.0 in
      by_bool (id.owner == x.0)
      (λ e.
      let o : id.owner ≡ x.0 = eqb-true id.owner x.0 e in
      let z : id.serial ≡ 0 + id.serial = omega arith in
      put_at x.0 0 id.serial (items x.1) (map.retain_keys (objects_in items xs) p) id o z (others ∙ ap (λ b. cond (not b) (map.get (objects_in items xs) id) None) e)
      ∙ sym (ap (λ b. slice_get (option_map_or items (cond b (Some x.1) (lookup (is_at (nat_cmp id.owner)) xs)) []) id.serial) (tied ∙ e)))
      (λ e.
      put_other x.0 0 (items x.1) (map.retain_keys (objects_in items xs) p) id (λ o. let t : (id.owner == x.0) ≡ true = eq-eqb id.owner x.0 o in cc)
      ∙ (others ∙ ap (λ b. cond (not b) (map.get (objects_in items xs) id) None) e)
      ∙ get_objects xs id
      ∙ sym (ap (λ b. slice_get (option_map_or items (cond b (Some x.1) (lookup (is_at (nat_cmp id.owner)) xs)) []) id.serial) (tied ∙ e)))

  -- an owner's objects alone
  objects_alone : (xs : List (ℕ × V)) (owner : ℕ) → objects_of (objects_in items xs) owner ≡ put_from owner 0 (at_owner xs owner) map.empty
  objects_alone xs owner = map.same_map obj_total obj_exact _ _ (λ id.
      let p : ObjId → Bool = λ z. z.owner == owner in
      let here = map.get-retain_keys (objects_in items xs) p id (λ z t. sym (ap p (obj_exact id z t))) in
      by_bool (id.owner == owner)
      (λ e.
      let o : id.owner ≡ owner = eqb-true id.owner owner e in
      let z : id.serial ≡ 0 + id.serial = omega arith in
      here ∙ ap (λ b. cond b (map.get (objects_in items xs) id) None) e
      ∙ get_objects xs id ∙ ap (λ w. slice_get (at_owner xs w) id.serial) o
      ∙ sym (put_at owner 0 id.serial (at_owner xs owner) map.empty id o z (map.get-empty obj_cmp id)))
      (λ e.
      here ∙ ap (λ b. cond b (map.get (objects_in items xs) id) None) e
      ∙ sym (put_other owner 0 (at_owner xs owner) map.empty id (λ o. let t : (id.owner == owner) ≡ true = eq-eqb id.owner owner o in cc) ∙ map.get-empty obj_cmp id)))

  -- the next serial
  serial_objects : (xs : List (ℕ × V)) (owner : ℕ) → (next_number (objects_in items xs) owner).serial ≡ length (at_owner xs owner)
  serial_objects xs owner = ap map.len (objects_alone xs owner) ∙ put_len owner 0 (at_owner xs owner)

  within : (es : List Entry) (k : ℕ) → IsTrue (is_some (slice_get es k)) ↔ (k < length es)
  within [] k = (λ h. cc, λ h. absurd (omega arith))
  within (e ∷ es) zero = (λ h. omega arith, λ h. refl)
  within (e ∷ es) (suc k) =
      let ih = within es k in
      (λ h. let i : k < length es = ih.0 h in omega arith, λ h. let i : k < length es = omega arith in ih.1 i)

  has_objects : (xs : List (ℕ × V)) (id : ObjId) → IsTrue (has (objects_in items xs) id) ↔ (id.serial < length (at_owner xs id.owner))
  has_objects xs id = subst (λ (r : Option Entry). IsTrue (is_some r) ↔ (id.serial < length (at_owner xs id.owner))) (sym (get_objects xs id)) (within (at_owner xs id.owner) id.serial)

  pub serials_objects : (xs : List (ℕ × V)) (id : ObjId) → IsTrue (has (objects_in items xs) id) ↔ (id.serial < (next_number (objects_in items xs) id.owner).serial)
  serials_objects xs id = subst (λ n. IsTrue (has (objects_in items xs) id) ↔ (id.serial < n)) (sym (serial_objects xs id.owner)) (has_objects xs id)

  last_at : (es : List Entry) (e : Entry) (k : ℕ) → k ≡ length es → slice_get (es ++ e ∷ []) k ≡ Some e
  last_at [] e zero h = refl
  last_at [] e (suc k) h = absurd (omega arith)
  last_at (x ∷ es) e zero h = absurd (omega arith)
  last_at (x ∷ es) e (suc k) h = let i : k ≡ length es = omega arith in last_at es e k i

  last_other : (es : List Entry) (e : Entry) (k : ℕ) → (k ≡ length es → ⊥) → slice_get (es ++ e ∷ []) k ≡ slice_get es k
  last_other [] e zero h = absurd (h refl)
  last_other [] e (suc k) h = refl
  last_other (x ∷ es) e zero h = refl
  last_other (x ∷ es) e (suc k) h = last_other es e k (λ i. h (let j : suc k ≡ suc (length es) = omega arith in j))

  -- an owner has one object more
  pub pushed : (m n : List (ℕ × V)) (owner : ℕ) (e : Entry) (rows : V) → items rows ≡ at_owner m owner ++ e ∷ [] → ((q : ℕ) → lookup (is_at (nat_cmp q)) n ≡ cond (is_at (nat_cmp owner) q) (Some rows) (lookup (is_at (nat_cmp q)) m)) → objects_in items n ≡ map.insert (objects_in items m) (next_number (objects_in items m) owner) e
  unfolding at_owner
  pushed m n owner e rows is h = map.same_map obj_total obj_exact _ _ (λ id.
      let key = next_number (objects_in items m) owner in
      let right = map.get-insert obj_total (objects_in items m) key e id in
      let left : map.get (objects_in items n) id ≡ slice_get (option_map_or items (cond (is_at (nat_cmp owner) id.owner) (Some rows) (lookup (is_at (nat_cmp id.owner)) m)) []) id.serial =
      get_objects n id ∙ ap (λ (r : Option V). slice_get (option_map_or items r []) id.serial) (h id.owner) in
      let count = serial_objects m owner in
      let tied : is_at (nat_cmp owner) id.owner ≡ (owner == id.owner) = unsigned_tied owner id.owner in
      by_bool (owner == id.owner)
      (λ t.
      let o : owner ≡ id.owner = eqb-true owner id.owner t in
      let now = left ∙ ap (λ b. slice_get (option_map_or items (cond b (Some rows) (lookup (is_at (nat_cmp id.owner)) m)) []) id.serial) (tied ∙ t)
      ∙ ap (λ es. slice_get es id.serial) is in
      by_bool (id.serial == length (at_owner m owner))
      (λ s.
      let same : id ≡ key = (let f : id.serial ≡ key.serial = eqb-true id.serial _ s ∙ sym count in λ i. record { owner = sym o i; serial = f i }) in
      now ∙ last_at (at_owner m owner) e id.serial (eqb-true id.serial _ s)
      ∙ sym (right ∙ ap (λ b. cond b (Some e) (map.get (objects_in items m) id)) (subst (λ (z : ObjId). eq_by_cmp obj_cmp id z ≡ true) same (key_itself id))))
      (λ s.
      now ∙ last_other (at_owner m owner) e id.serial (λ q. let u : (id.serial == length (at_owner m owner)) ≡ true = eq-eqb id.serial _ q in cc)
      ∙ ap (λ w. slice_get (at_owner m w) id.serial) o ∙ sym (get_objects m id)
      ∙ sym (right ∙ ap (λ b. cond b (Some e) (map.get (objects_in items m) id)) (key_apart id key (λ q. let u : (id.serial == length (at_owner m owner)) ≡ true = eq-eqb id.serial _ (ap (λ (z : ObjId). z.serial) q ∙ count) in cc)))))
      (λ t.
      left ∙ ap (λ b. slice_get (option_map_or items (cond b (Some rows) (lookup (is_at (nat_cmp id.owner)) m)) []) id.serial) (tied ∙ t)
      ∙ sym (get_objects m id)
      ∙ sym (right ∙ ap (λ b. cond b (Some e) (map.get (objects_in items m) id)) (key_apart id key (λ q. let u : (owner == id.owner) ≡ true = eq-eqb owner id.owner (sym (ap (λ (z : ObjId). z.owner) q)) in cc)))))

  pub at_found : (xs : List (ℕ × V)) (owner : ℕ) (rows : V) → lookup (is_at (nat_cmp owner)) xs ≡ Some rows → at_owner xs owner ≡ items rows
  unfolding at_owner
  at_found xs owner rows h = ap (λ (r : Option V). option_map_or items r []) h

  pub at_missing : (xs : List (ℕ × V)) (owner : ℕ) → lookup (is_at (nat_cmp owner)) xs ≡ None → at_owner xs owner ≡ []
  unfolding at_owner
  at_missing xs owner h = ap (λ (r : Option V). option_map_or items r []) h

  -- the owner of an object that is there has a list
  pub some_rows : (xs : List (ℕ × V)) (id : ObjId) → IsTrue (has (objects_in items xs) id) → IsSome (lookup (is_at (nat_cmp id.owner)) xs)
  unfolding at_owner
  some_rows xs id h = some_of (lookup (is_at (nat_cmp id.owner)) xs) ((has_objects xs id).0 h)
    where
      some_of : (r : Option V) → id.serial < length (option_map_or items r []) → IsSome r
      some_of None h = absurd (omega arith)
      some_of (Some v) h = refl

  -- an owner's objects were written back as they were
  pub written_back : (m n : List (ℕ × V)) (owner : ℕ) (rows : V) → items rows ≡ at_owner m owner → ((q : ℕ) → lookup (is_at (nat_cmp q)) n ≡ cond (is_at (nat_cmp owner) q) (Some rows) (lookup (is_at (nat_cmp q)) m)) → objects_in items n ≡ objects_in items m
  unfolding at_owner
  written_back m n owner rows is h = map.same_map obj_total obj_exact _ _ (λ id.
      let left : map.get (objects_in items n) id ≡ slice_get (option_map_or items (cond (is_at (nat_cmp owner) id.owner) (Some rows) (lookup (is_at (nat_cmp id.owner)) m)) []) id.serial =
      get_objects n id ∙ ap (λ (r : Option V). slice_get (option_map_or items r []) id.serial) (h id.owner) in
      let tied : is_at (nat_cmp owner) id.owner ≡ (owner == id.owner) = unsigned_tied owner id.owner in
      by_bool (owner == id.owner)
      (λ t.
      left ∙ ap (λ b. slice_get (option_map_or items (cond b (Some rows) (lookup (is_at (nat_cmp id.owner)) m)) []) id.serial) (tied ∙ t)
      ∙ ap (λ es. slice_get es id.serial) is ∙ ap (λ w. slice_get (at_owner m w) id.serial) (eqb-true owner id.owner t) ∙ sym (get_objects m id))
      (λ t.
      left ∙ ap (λ b. slice_get (option_map_or items (cond b (Some rows) (lookup (is_at (nat_cmp id.owner)) m)) []) id.serial) (tied ∙ t)
      ∙ sym (get_objects m id)))

  -- one owner's objects are others now, or none; the rest are the same
  pub changed : (m n : List (ℕ × V)) (owner : ℕ) (now : Option V) → ((q : ℕ) → lookup (is_at (nat_cmp q)) n ≡ cond (is_at (nat_cmp owner) q) now (lookup (is_at (nat_cmp q)) m)) → (id : ObjId) → map.get (objects_in items n) id ≡ cond (id.owner == owner) (slice_get (option_map_or items now []) id.serial) (map.get (objects_in items m) id)
  unfolding at_owner
  changed m n owner now h id =
      get_objects n id
      ∙ ap (λ (r : Option V). slice_get (option_map_or items r []) id.serial) (h id.owner)
      ∙ ap (λ b. slice_get (option_map_or items (cond b now (lookup (is_at (nat_cmp id.owner)) m)) []) id.serial)
      (unsigned_tied owner id.owner ∙ eq_turned owner id.owner)
      ∙ by (id.owner == owner)
    where
      by : (b : Bool) → slice_get (option_map_or items (cond b now (lookup (is_at (nat_cmp id.owner)) m)) []) id.serial ≡ cond b (slice_get (option_map_or items now []) id.serial) (map.get (objects_in items m) id)
      by true = refl
      by false = sym (get_objects m id)

  -- what an owner's list says of its objects
  pub owned : (xs : List (ℕ × V)) (owner : ℕ) (es : List Entry) → at_owner xs owner ≡ es → (id : ObjId) → id.owner ≡ owner → map.get (objects_in items xs) id ≡ slice_get es id.serial
  owned xs owner es h id o = get_objects xs id ∙ ap (λ w. slice_get (at_owner xs w) id.serial) o ∙ ap (λ l. slice_get l id.serial) h

  pub counted : (xs : List (ℕ × V)) (owner : ℕ) (es : List Entry) → at_owner xs owner ≡ es → length es ≡ (next_number (objects_in items xs) owner).serial
  counted xs owner es h = ap length (sym h) ∙ sym (serial_objects xs owner)

  -- the first list is owner 0's
  at_zero : (first : V) (xs : List (ℕ × V)) (owner : ℕ) (b : Bool) → (owner == 0) ≡ b → lookup (is_at (nat_cmp owner)) ((0, first) ∷ xs) ≡ cond b (Some first) (lookup (is_at (nat_cmp owner)) xs)
  at_zero first xs owner b e =
      let tied : is_at (nat_cmp owner) 0 ≡ (owner == 0) = unsigned_tied owner 0 in
      ap (λ b. cond b (Some first) (lookup (is_at (nat_cmp owner)) xs)) (tied ∙ e)

  apart_from : (a b : ℕ) → (a ≡ b → ⊥) → (a == b) ≡ false
  apart_from a b h = by_bool (a == b) (λ e. absurd (h (eqb-true a b e))) (λ e. e)

  pub zero_first : (first : V) (xs : List (ℕ × V)) (owner : ℕ) → owner ≡ 0 → lookup (is_at (nat_cmp owner)) ((0, first) ∷ xs) ≡ Some first
  zero_first first xs owner o = at_zero first xs owner true (eq-eqb owner 0 o)

  pub others_after : (first : V) (xs : List (ℕ × V)) (owner : ℕ) → (owner ≡ 0 → ⊥) → lookup (is_at (nat_cmp owner)) ((0, first) ∷ xs) ≡ lookup (is_at (nat_cmp owner)) xs
  others_after first xs owner h = at_zero first xs owner false (apart_from owner 0 h)

  -- it is written
  pub first_written : (first rows : V) (xs : List (ℕ × V)) (owner : ℕ) → owner ≡ 0 → (q : ℕ) → lookup (is_at (nat_cmp q)) ((0, rows) ∷ xs) ≡ cond (is_at (nat_cmp owner) q) (Some rows) (lookup (is_at (nat_cmp q)) ((0, first) ∷ xs))
  first_written first rows xs owner o q =
      let tied : is_at (nat_cmp owner) q ≡ (owner == q) = unsigned_tied owner q in
      by_bool (owner == q)
      (λ e.
      let z : q ≡ 0 = sym (eqb-true owner q e) ∙ o in
      zero_first rows xs q z ∙ sym (ap (λ b. cond b (Some rows) (lookup (is_at (nat_cmp q)) ((0, first) ∷ xs))) (tied ∙ e)))
      (λ e.
      let far : q ≡ 0 → ⊥ = λ z. let t : (owner == q) ≡ true = eq-eqb owner q (o ∙ sym z) in cc in
      others_after rows xs q far ∙ sym (others_after first xs q far) ∙ sym (ap (λ b. cond b (Some rows) (lookup (is_at (nat_cmp q)) ((0, first) ∷ xs))) (tied ∙ e)))

  -- another is written, or taken out
  pub other_written : (first : V) (now : Option V) (m n : List (ℕ × V)) (owner : ℕ) → (owner ≡ 0 → ⊥) → ((q : ℕ) → lookup (is_at (nat_cmp q)) n ≡ cond (is_at (nat_cmp owner) q) now (lookup (is_at (nat_cmp q)) m)) → (q : ℕ) → lookup (is_at (nat_cmp q)) ((0, first) ∷ n) ≡ cond (is_at (nat_cmp owner) q) now (lookup (is_at (nat_cmp q)) ((0, first) ∷ m))
  other_written first now m n owner o h q =
      let tied : is_at (nat_cmp owner) q ≡ (owner == q) = unsigned_tied owner q in
      by_bool (q == 0)
      (λ e.
      let z : q ≡ 0 = eqb-true q 0 e in
      let far : (owner == q) ≡ false = apart_from owner q (λ t. o (t ∙ z)) in
      zero_first first n q z ∙ sym (ap (λ b. cond b now (lookup (is_at (nat_cmp q)) ((0, first) ∷ m))) (tied ∙ far) ∙ zero_first first m q z))
      (λ e.
      let far : q ≡ 0 → ⊥ = λ z. let t : (q == 0) ≡ true = eq-eqb q 0 z in cc in
      others_after first n q far ∙ h q ∙ ap (λ r. cond (is_at (nat_cmp owner) q) now r) (sym (others_after first m q far)))

  -- of no lists
  pub nothing : (first : V) (xs : List (ℕ × V)) → items first ≡ [] → xs ≡ [] → objects_in items ((0, first) ∷ xs) ≡ map.empty
  nothing first xs f e = map.same_map obj_total obj_exact _ _ (λ id.
      let none : at_owner ((0, first) ∷ xs) id.owner ≡ [] = by_bool (id.owner == 0)
      (λ t. at_found ((0, first) ∷ xs) id.owner first (zero_first first xs id.owner (eqb-true id.owner 0 t)) ∙ f)
      (λ t. at_missing ((0, first) ∷ xs) id.owner (at_zero first xs id.owner false t ∙ ap (λ l. lookup (is_at (nat_cmp id.owner)) l) e)) in
      get_objects ((0, first) ∷ xs) id ∙ ap (λ l. slice_get l id.serial) none ∙ sym (map.get-empty obj_cmp id))

-- ---- tests

pub same_test : (k n : ℕ) (b : Bool) → IsTrue b ↔ (k < n) → ltb k n ≡ b
same_test k n true h = eq_of_lt k n (h.0 refl)
  where
    eq_of_lt : (k n : ℕ) → k < n → ltb k n ≡ true
    eq_of_lt k n i = grind (arith, nat_tests)
same_test k n false h = by_bool (ltb k n) (λ e. let i : k < n = grind (arith, nat_tests) in let f = h.1 i in cc) (λ e. e)

pub none_within : (k n : ℕ) (b : Bool) → n ≡ 0 → IsTrue b ↔ (k < n) → false ≡ b
none_within k n true z h = let i : k < n = h.0 refl in absurd (omega arith)
none_within k n false z h = refl

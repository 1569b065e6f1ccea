-- An owner's objects, taken out of an arena and put back.
use Rattle.std.proofs.Common.{◌≡◌, ℕ, ◌==◌, Bool, true, false, not, cond, List, [], ◌∷◌, Option, None, Some, refl, sym, ap, ◌∙◌, subst, slice_get, is_some, eqb-true, eq-eqb, IsTrue}
use Rattle.std.proofs.Common.{arith, ◌+◌}
use Rattle.std.proofs.lemmas.Bool.{false≢true}
use Rattle.std.specs.Option.{option_or, option_and_then}
use Rattle.std.specs.BTreeMap.{BTreeMap, get}
use Rattle.std.specs.FinMap as map
use Rattle.wjs_base.specs.declared.ids.ObjId.{ObjId}
use Rattle.wjs_base.specs.declared.ids.WorldId.{WorldId}
use Rattle.wjs_base.specs.Order.{obj_cmp, obj_exact, obj_total, world_cmp, world_exact, world_total}
use Rattle.wjs_base.proofs.Booleans.{by_bool}
use Rattle.wjs_arena.specs.Entries.{Objects, Entry, has, world_of, objects_of, others_of, joined, IsArena, WorldsAreOwn, NoOwnerInCommon}
use Rattle.wjs_arena.specs.Kept.{WorldObjects, IsKept, owned_objects, IsOwned}
use Rattle.wjs_arena.proofs.Owners.{owner_apart, put_other, put_at}
use Rattle.wjs_arena.proofs.WorldsByOwner.{get_over, get_retained, or_none}

-- ---- what is found

-- a world is of an entry that is there
pub world_found : (r s : Option Entry) → r ≡ s → option_and_then (λ (e : Entry). e.object.world) r ≡ option_and_then (λ (e : Entry). e.object.world) s
world_found r s e = ap (option_and_then (λ (x : Entry). x.object.world)) e

pub none_has_world : (r : Option Entry) (w : WorldId) → r ≡ None → option_and_then (λ (e : Entry). e.object.world) r ≡ Some w → ⊥
none_has_world r w none h = let n : None ≡ Some w = sym (world_found r None none) ∙ h in cc

is_there : (r : Option Entry) (w : WorldId) → option_and_then (λ (e : Entry). e.object.world) r ≡ Some w → is_some r ≡ true
is_there None w h = absurd (cc)
is_there (Some e) w h = refl

module _ (m : Objects) (q : ℕ) where
  pub get_owned : (o : ObjId) → map.get (objects_of m q) o ≡ cond (o.owner == q) (map.get m o) None
  get_owned o = get_retained obj_total obj_exact m (λ z. z.owner == q) o

  pub get_others : (o : ObjId) → map.get (others_of m q) o ≡ cond (o.owner == q) None (map.get m o)
  get_others o = get_retained obj_total obj_exact m (λ z. not (z.owner == q)) o ∙ by (o.owner == q)
    where
      by : (b : Bool) → cond (not b) (map.get m o) None ≡ cond b None (map.get m o)
      by true = refl
      by false = refl

  pub others_found : (o : ObjId) → ¬ (o.owner ≡ q) → map.get (others_of m q) o ≡ map.get m o
  others_found o away = get_others o ∙ ap (λ b. cond b None (map.get m o)) (owner_apart o.owner q away)

  pub others_none : (o : ObjId) → o.owner ≡ q → map.get (others_of m q) o ≡ None
  others_none o is = get_others o ∙ ap (λ b. cond b None (map.get m o)) (eq-eqb o.owner q is)

  -- what others have is there, and of another owner
  pub others_there : (o : ObjId) (e : Entry) → map.get (others_of m q) o ≡ Some e → ¬ (o.owner ≡ q) × (map.get m o ≡ Some e)
  others_there o e at =
      let away : ¬ (o.owner ≡ q) = λ is. (let n : None ≡ Some e = sym (others_none o is) ∙ at in cc) in
      (away, sym (others_found o away) ∙ at)

pub get_joined : (a b : Objects) (o : ObjId) → map.get (joined a b) o ≡ option_or (map.get a o) (map.get b o)
get_joined a b o = get_over obj_total a b o

pub joined_first : (a b : Objects) (o : ObjId) (e : Entry) → map.get a o ≡ Some e → map.get (joined a b) o ≡ Some e
joined_first a b o e at = get_joined a b o ∙ ap (λ (r : Option Entry). option_or r (map.get b o)) at

pub joined_second : (a b : Objects) (o : ObjId) → map.get a o ≡ None → map.get (joined a b) o ≡ map.get b o
joined_second a b o none = get_joined a b o ∙ ap (λ (r : Option Entry). option_or r (map.get b o)) none

-- an owner's objects and all others are all
pub whole : (m : Objects) (q : ℕ) → joined (others_of m q) (objects_of m q) ≡ m
whole m q = map.same_map obj_total obj_exact (joined (others_of m q) (objects_of m q)) m (λ o.
    get_joined (others_of m q) (objects_of m q) o
    ∙ (λ i. option_or (get_others m q o i) (get_owned m q o i))
    ∙ by o (o.owner == q))
  where
    by : (o : ObjId) (b : Bool) → option_or (cond b None (map.get m o)) (cond b (map.get m o) None) ≡ map.get m o
    by o true = refl
    by o false = or_none (map.get m o)

-- where an owner's objects come beside others, the others are those
pub others_joined : (a b : Objects) (q : ℕ) → ((o : ObjId) → IsTrue (has a o) → ¬ (o.owner ≡ q)) → ((o : ObjId) → IsTrue (has b o) → o.owner ≡ q) → others_of (joined a b) q ≡ a
others_joined a b q away own = map.same_map obj_total obj_exact (others_of (joined a b) q) a (λ o.
    get_others (joined a b) q o ∙ ap (cond (o.owner == q) None) (get_joined a b o) ∙ by o (map.get a o) refl (map.get b o) refl)
  where
    by : (o : ObjId) (r : Option Entry) → map.get a o ≡ r → (s : Option Entry) → map.get b o ≡ s → cond (o.owner == q) None (option_or r s) ≡ r
    by o (Some e) at s at' = ap (λ t. cond t None (Some e)) (owner_apart o.owner q (away o (ap is_some at)))
    by o None at None at' = same (o.owner == q)
      where
        same : (t : Bool) → ◌≡◌ {A = Option Entry} (cond t None None) None
        same true = refl
        same false = refl
    by o None at (Some e) at' = ap (λ t. cond t None (Some e)) (eq-eqb o.owner q (own o (ap is_some at')))

-- ---- by number

-- an owner's objects by serial, and no others
pub get_rows : (q : ℕ) (es : List Entry) (o : ObjId) → map.get (owned_objects q es) o ≡ cond (o.owner == q) (slice_get es o.serial) None
get_rows q es o = by_bool (o.owner == q)
    (λ e.
    let z : o.serial ≡ 0 + o.serial = omega arith in
    put_at q 0 o.serial es map.empty o (eqb-true o.owner q e) z (map.get-empty obj_cmp o) ∙ sym (ap (λ b. cond b (slice_get es o.serial) None) e))
    (λ e.
    put_other q 0 es map.empty o (λ is. let t : (o.owner == q) ≡ true = eq-eqb o.owner q is in cc) ∙ map.get-empty obj_cmp o ∙ sym (ap (λ b. cond b (slice_get es o.serial) None) e))

pub rows_own : (q : ℕ) (es : List Entry) (o : ObjId) → IsTrue (has (owned_objects q es) o) → o.owner ≡ q
rows_own q es o h = by (o.owner == q) refl
  where
    by : (b : Bool) → (o.owner == q) ≡ b → o.owner ≡ q
    by true e = eqb-true o.owner q e
    by false e = let gone : has (owned_objects q es) o ≡ false = ap is_some (get_rows q es o ∙ ap (λ b. cond b (slice_get es o.serial) None) e) in absurd (false≢true (sym gone ∙ h))

-- those that were taken out
pub owned_is : (m : Objects) (q : ℕ) (es : List Entry) → ((o : ObjId) → o.owner ≡ q → slice_get es o.serial ≡ map.get m o) → owned_objects q es ≡ objects_of m q
owned_is m q es h = map.same_map obj_total obj_exact (owned_objects q es) (objects_of m q) (λ o.
    get_rows q es o ∙ by_bool (o.owner == q)
    (λ e. ap (λ b. cond b (slice_get es o.serial) None) e ∙ h o (eqb-true o.owner q e) ∙ sym (get_owned m q o ∙ ap (λ b. cond b (map.get m o) None) e))
    (λ e. ap (λ b. cond b (slice_get es o.serial) None) e ∙ sym (get_owned m q o ∙ ap (λ b. cond b (map.get m o) None) e)))

pub others_are : (m n : Objects) (q : ℕ) → ((o : ObjId) → map.get n o ≡ cond (o.owner == q) None (map.get m o)) → n ≡ others_of m q
others_are m n q h = map.same_map obj_total obj_exact n (others_of m q) (λ o. h o ∙ sym (get_others m q o))

-- ---- taken out

module _ (m : Objects) (ws : WorldObjects) (q : ℕ) (kept : IsKept m ws) (own : WorldsAreOwn m) where
  pub kept_others : (n : Objects) (ns : WorldObjects) → IsArena (others_of m q) → n ≡ others_of m q → ((w : WorldId) → map.get ns w ≡ cond (w.owner == q) None (map.get ws w)) → IsKept n ns
  kept_others n ns arena is look = record {
    arena = subst IsArena (sym is) arena;
    worlds = λ w o. (
      λ h. there w o (w.owner == q) refl (sym (look w) ∙ h),
      λ h. back w o (o.owner == q) refl (sym (world_found (map.get n o) _ (ap (λ (z : Objects). map.get z o) is ∙ get_others m q o)) ∙ h),
    );
  }
    where
      there : (w : WorldId) (o : ObjId) (b : Bool) → (w.owner == q) ≡ b → cond (w.owner == q) None (map.get ws w) ≡ Some o → world_of n o ≡ Some w
      there w o true e h = let none : None ≡ Some o = sym (ap (λ b. cond b None (map.get ws w)) e) ∙ h in absurd (cc)
      there w o false e h =
          let was = (kept.worlds w o).0 (sym (ap (λ b. cond b None (map.get ws w)) e) ∙ h) in
          let away : ¬ (o.owner ≡ q) = λ k. false≢true (sym e ∙ eq-eqb w.owner q (own o w was ∙ k)) in
          world_found (map.get n o) (map.get m o) (ap (λ (z : Objects). map.get z o) is ∙ others_found m q o away) ∙ was

      back : (w : WorldId) (o : ObjId) (b : Bool) → (o.owner == q) ≡ b → option_and_then (λ (e : Entry). e.object.world) (cond (o.owner == q) None (map.get m o)) ≡ Some w → map.get ns w ≡ Some o
      back w o true e h = absurd (none_has_world (cond (o.owner == q) None (map.get m o)) w (ap (λ b. cond b None (map.get m o)) e) h)
      back w o false e h =
          let was : world_of m o ≡ Some w = sym (world_found (cond (o.owner == q) None (map.get m o)) (map.get m o) (ap (λ b. cond b None (map.get m o)) e)) ∙ h in
          let away : (w.owner == q) ≡ false = owner_apart w.owner q (λ k. false≢true (sym e ∙ eq-eqb o.owner q (sym (own o w was) ∙ k))) in
          look w ∙ ap (λ b. cond b None (map.get ws w)) away ∙ (kept.worlds w o).1 was

  pub owned_kept : (es : List Entry) (tree : BTreeMap WorldId ObjId) → ((o : ObjId) → o.owner ≡ q → slice_get es o.serial ≡ map.get m o) → ((w : WorldId) → w.owner ≡ q → get world_cmp tree w ≡ map.get ws w) → IsOwned q (owned_objects q es) tree
  owned_kept es tree rows look = record {
    own = λ o w h. own o w (was o w h) ∙ rows_own q es o (is_there (map.get (owned_objects q es) o) w h);
    worlds = λ w o of. (
      λ h.
          let here = (kept.worlds w o).0 (sym (look w of) ∙ h) in
          world_found (map.get (owned_objects q es) o) (map.get m o) (found o (sym (own o w here) ∙ of)) ∙ here,
      λ h. look w of ∙ (kept.worlds w o).1 (was o w h),
    );
  }
    where
      found : (o : ObjId) → o.owner ≡ q → map.get (owned_objects q es) o ≡ map.get m o
      found o is = get_rows q es o ∙ ap (λ b. cond b (slice_get es o.serial) None) (eq-eqb o.owner q is) ∙ rows o is

      was : (o : ObjId) (w : WorldId) → world_of (owned_objects q es) o ≡ Some w → world_of m o ≡ Some w
      was o w h = sym (world_found (map.get (owned_objects q es) o) (map.get m o) (found o (rows_own q es o (is_there (map.get (owned_objects q es) o) w h)))) ∙ h

-- ---- put back

-- with none it is the same
pub joined_none : (m : Objects) (q : ℕ) (es : List Entry) → es ≡ [] → m ≡ joined m (owned_objects q es)
joined_none m q es none = map.same_map obj_total obj_exact m (joined m (owned_objects q es)) (λ o.
    sym (get_joined m (owned_objects q es) o ∙ ap (λ l. option_or (map.get m o) (map.get (owned_objects q l) o)) none
    ∙ ap (option_or (map.get m o)) (map.get-empty obj_cmp o) ∙ or_none (map.get m o)))

-- the first of some
first_there : (q : ℕ) (es : List Entry) → (es ≡ [] → ⊥) → IsTrue (has (owned_objects q es) (record { owner = q; serial = 0 }))
first_there q [] some = absurd (some refl)
first_there q (e ∷ es) some = ap is_some (get_rows q (e ∷ es) (record { owner = q; serial = 0 }) ∙ ap (λ b. cond b (Some e) None) (eq-eqb q q refl))

module _ (m : Objects) (q : ℕ) (es : List Entry) (some : es ≡ [] → ⊥) (apart : NoOwnerInCommon m (owned_objects q es)) where
  pub away : (o : ObjId) → IsTrue (has m o) → ¬ (o.owner ≡ q)
  away o h is = apart o (record { owner = q; serial = 0 }) h (first_there q es some) is

  none_of : (o : ObjId) → o.owner ≡ q → map.get m o ≡ None
  none_of o is = by (map.get m o) refl
    where
      by : (r : Option Entry) → map.get m o ≡ r → r ≡ None
      by None e = refl
      by (Some x) e = absurd (away o (ap is_some e) is)

  pub joined_is : (n : Objects) → ((o : ObjId) → map.get n o ≡ cond (o.owner == q) (slice_get es o.serial) (map.get m o)) → n ≡ joined m (owned_objects q es)
  joined_is n h = map.same_map obj_total obj_exact n (joined m (owned_objects q es)) (λ o. h o ∙ sym (get_joined m (owned_objects q es) o ∙ ap (option_or (map.get m o)) (get_rows q es o) ∙ by o (o.owner == q) refl))
    where
      by : (o : ObjId) (b : Bool) → (o.owner == q) ≡ b → option_or (map.get m o) (cond (o.owner == q) (slice_get es o.serial) None) ≡ cond (o.owner == q) (slice_get es o.serial) (map.get m o)
      by o true e = (λ i. option_or (none_of o (eqb-true o.owner q e) i) (cond (e i) (slice_get es o.serial) None)) ∙ sym (ap (λ b. cond b (slice_get es o.serial) (map.get m o)) e)
      by o false e = ap (λ b. option_or (map.get m o) (cond b (slice_get es o.serial) None)) e ∙ or_none (map.get m o) ∙ sym (ap (λ b. cond b (slice_get es o.serial) (map.get m o)) e)

  -- no world of the owner is among the others'
  pub no_world : (ws : WorldObjects) → IsKept m ws → WorldsAreOwn m → (w : WorldId) → w.owner ≡ q → map.get ws w ≡ None
  no_world ws kept own w of = by (map.get ws w) refl
    where
      by : (r : Option ObjId) → map.get ws w ≡ r → r ≡ None
      by None e = refl
      by (Some o) e =
          let here = (kept.worlds w o).0 e in
          absurd (away o (is_there (map.get m o) w here) (sym (own o w here) ∙ of))

  pub kept_joined : (n : Objects) (ws ns : WorldObjects) (tree : BTreeMap WorldId ObjId) → IsKept m ws → WorldsAreOwn m → IsOwned q (owned_objects q es) tree → IsArena (joined m (owned_objects q es))
      → n ≡ joined m (owned_objects q es) → ((w : WorldId) → map.get ns w ≡ cond (w.owner == q) (get world_cmp tree w) (map.get ws w)) → IsKept n ns
  kept_joined n ws ns tree kept own owned arena is look = record {
    arena = subst IsArena (sym is) arena;
    worlds = λ w o. (λ h. there w o (w.owner == q) refl (sym (look w) ∙ h), λ h. back w o (map.get m o) refl (sym (in_n o) ∙ h));
  }
    where
      in_n : (o : ObjId) → world_of n o ≡ world_of (joined m (owned_objects q es)) o
      in_n o = ap (λ (z : Objects). world_of z o) is

      there : (w : WorldId) (o : ObjId) (b : Bool) → (w.owner == q) ≡ b → cond (w.owner == q) (get world_cmp tree w) (map.get ws w) ≡ Some o → world_of n o ≡ Some w
      there w o true e h =
          let of = eqb-true w.owner q e in
          let here = (owned.worlds w o of).0 (sym (ap (λ b. cond b (get world_cmp tree w) (map.get ws w)) e) ∙ h) in
          let mine = rows_own q es o (is_there (map.get (owned_objects q es) o) w here) in
          in_n o ∙ world_found (map.get (joined m (owned_objects q es)) o) (map.get (owned_objects q es) o) (joined_second m (owned_objects q es) o (none_of o mine)) ∙ here
      there w o false e h =
          let here = (kept.worlds w o).0 (sym (ap (λ b. cond b (get world_cmp tree w) (map.get ws w)) e) ∙ h) in
          in_n o ∙ by (map.get m o) refl here
        where
          by : (r : Option Entry) → map.get m o ≡ r → option_and_then (λ (x : Entry). x.object.world) r ≡ Some w → world_of (joined m (owned_objects q es)) o ≡ Some w
          by None at k = absurd (cc)
          by (Some x) at k = world_found (map.get (joined m (owned_objects q es)) o) (Some x) (joined_first m (owned_objects q es) o x at) ∙ k

      back : (w : WorldId) (o : ObjId) (r : Option Entry) → map.get m o ≡ r → world_of (joined m (owned_objects q es)) o ≡ Some w → map.get ns w ≡ Some o
      back w o None at h =
          let here : world_of (owned_objects q es) o ≡ Some w = sym (world_found (map.get (joined m (owned_objects q es)) o) (map.get (owned_objects q es) o) (joined_second m (owned_objects q es) o at)) ∙ h in
          let of = owned.own o w here in
          look w ∙ ap (λ b. cond b (get world_cmp tree w) (map.get ws w)) (eq-eqb w.owner q of) ∙ (owned.worlds w o of).1 here
      back w o (Some x) at h =
          let here : world_of m o ≡ Some w = world_found (map.get m o) (Some x) at ∙ sym (world_found (map.get (joined m (owned_objects q es)) o) (Some x) (joined_first m (owned_objects q es) o x at)) ∙ h in
          let far : (w.owner == q) ≡ false = owner_apart w.owner q (λ k. away o (ap is_some at) (sym (own o w here) ∙ k)) in
          look w ∙ ap (λ b. cond b (get world_cmp tree w) (map.get ws w)) far ∙ (kept.worlds w o).1 here

-- what was put and taken out again left all as it was
pub taken_again : (ws mid new : WorldObjects) (q : ℕ) (tree : BTreeMap WorldId ObjId) → ((w : WorldId) → w.owner ≡ q → map.get ws w ≡ None) → ((w : WorldId) → map.get mid w ≡ cond (w.owner == q) (get world_cmp tree w) (map.get ws w))
    → ((w : WorldId) → map.get new w ≡ cond (w.owner == q) None (map.get mid w)) → new ≡ ws
taken_again ws mid new q tree none put taken = map.same_map world_total world_exact new ws (λ w. taken w ∙ ap (cond (w.owner == q) None) (put w) ∙ by w (w.owner == q) refl)
  where
    by : (w : WorldId) (b : Bool) → (w.owner == q) ≡ b → cond (w.owner == q) None (cond (w.owner == q) (get world_cmp tree w) (map.get ws w)) ≡ map.get ws w
    by w true e = ap (λ b. cond b None (cond b (get world_cmp tree w) (map.get ws w))) e ∙ sym (none w (eqb-true w.owner q e))
    by w false e = ap (λ b. cond b None (cond b (get world_cmp tree w) (map.get ws w))) e

-- A read, a write and a listing in one world: its marks grow, and its own view stays.
use Rattle.std.proofs.Common.{◌≡◌, Bool, true, false, cond, not, ◌&&◌, ◌||◌, List, [], ◌∷◌, refl, ap, sym, ◌∙◌, subst, filter, Option, None, Some, is_some, unwrap_or}
use Rattle.std.specs.Ordering.{eq_by_cmp, is_eq}
use Rattle.std.specs.Cmp.{tied_itself}
use Rattle.std.specs.List.{list_any}
use Rattle.std.specs.FinMap as map
use Rattle.std.proofs.lemmas.Bool.{and_parts, true≢false, false≢true, not-true, or_left, or_right, true_from_ne_false, false_from_ne_true, or_parts}
use Rattle.std.proofs.Math.Bool.{and-false}
use Rattle.wjs_base.specs.declared.ids.ObjId.{ObjId}
use Rattle.wjs_base.specs.declared.ids.WorldId.{WorldId}
use Rattle.wjs_base.specs.declared.values.Slot.{Slot}
use Rattle.wjs_base.specs.declared.values.Value.{Value}
use Rattle.wjs_base.specs.Order.{slot_cmp, slot_total, slot_exact, obj_cmp, obj_total, obj_exact}
use Rattle.wjs_base.specs.Same.{object_Decides}
use Rattle.wjs_base.proofs.Options.{none_of, with_some}
use Rattle.wjs_base.proofs.Booleans.{by_bool}
use Rattle.wjs_store.specs.Naming.{plain}
use Rattle.wjs_store.specs.Meaning.{View}
use Rattle.wjs_store.specs.State.{World, has_row, is_touched, same_object, read_in, read_all, close_in, list_in, slots_in, put, write_in}
use Rattle.wjs_store.proofs.Marks.{Local, MarksOf, contains_insert, key_is, none_some, or_case, none_or_some, closed_only, any_filter, marks_first, marks_read, marks_read_all, stays_touched, touched_all, marks_closed}
use Rattle.wjs_store.proofs.Writes.{get_put, local_write}
use Rattle.wjs_store.proofs.Commits.{row_new}
use Rattle.wjs_session.specs.Session.{passes, owned}
use Rattle.wjs_session.specs.Owned.{own_recorded, own_hidden}
use Rattle.wjs_session.specs.Maps.{own_by, get_owned, same_view, view_read, view_closed, passes_by}

-- x is a child, not strict, of a first world that holds this
pub record Stands (base : View) (x : World plain) : Type 0 where
  pub local : Local x
  pub inherits : (s : Slot) → is_touched x s ≡ false → map.get x.copy s ≡ map.get base s
  pub child : is_some x.parent ≡ true
  pub plain : x.strict ≡ false

-- y is x with more marks
pub record Marked (base : View) (x y : World plain) : Type 0 where
  pub touches : (s : Slot) → is_touched x s ≡ true → is_touched y s ≡ true
  pub narrows : (v : View) → passes y v ≡ true → passes x v ≡ true
  pub own : owned y base ≡ owned x base

marked_same : (base : View) (x : World plain) → Marked base x x
marked_same base x = record { touches = λ s h. h; narrows = λ v h. h; own = refl }

marked_then : (base : View) (x y z : World plain) → Marked base x y → Marked base y z → Marked base x z
marked_then base x y z a b = record {
  touches = λ s h. b.touches s (a.touches s h);
  narrows = λ v h. a.narrows v (b.narrows v h);
  own = b.own ∙ a.own;
}

marked_cond : (base : View) (b : Bool) (x y : World plain) → (b ≡ true → Marked base x y) → Marked base x (cond b y x)
marked_cond base true x y f = f refl
marked_cond base false x y f = marked_same base x

-- a slot that is marked alike is owned alike
own_alike : (base : View) (x y : World plain) (t : Slot) → map.get y.first t ≡ map.get x.first t → has_row y t ≡ has_row x t → map.contains_key y.closed t.object ≡ map.contains_key x.closed t.object → map.get (owned y base) t ≡ map.get (owned x base) t
own_alike base x y t f r c = get_owned y base t ∙ (λ k. own_by (f k) (c k) (r k) (map.get base t)) ∙ sym (get_owned x base t)

own_base : (base : View) (x : World plain) (t : Slot) → map.get x.first t ≡ None → (map.contains_key x.closed t.object && not (has_row x t)) ≡ false → map.get (owned x base) t ≡ map.get base t
own_base base x t f h =
    get_owned x base t
    ∙ ap (λ o. own_by o (map.contains_key x.closed t.object) (has_row x t) (map.get base t)) f
    ∙ ap (λ b. cond (not b) (map.get base t) None) h

-- what is untouched has no row, is not recorded and is not listed
pub record Fresh (x : World plain) (t : Slot) : Type 0 where
  pub row : has_row x t ≡ false
  pub closed : map.contains_key x.closed t.object ≡ false
  pub first : map.get x.first t ≡ None

pub fresh_at : (x : World plain) (t : Slot) → is_touched x t ≡ false → Fresh x t
fresh_at x t u =
    let v = or_parts (has_row x t) (map.contains_key x.closed t.object) u in
    record { row = v.0; closed = v.1; first = none_of (map.get x.first t) (or_parts (map.contains_key x.first t) (map.contains_key x.written t) v.0).0 }

pub own_fresh : (base : View) (x : World plain) (t : Slot) → is_touched x t ≡ false → map.get (owned x base) t ≡ map.get base t
own_fresh base x t u = let f = fresh_at x t u in own_base base x t f.first (ap (λ b. b && not (has_row x t)) f.closed)

-- a view that is admitted holds what the world does where it is touched and not written
pub view_touched : (x : World plain) → Local x → (v : View) (s : Slot) → passes x v ≡ true → is_touched x s ≡ true → map.contains_key x.written s ≡ false → map.get v s ≡ map.get x.copy s
view_touched x local v s p t unwritten = by_bool (map.contains_key x.first s)
    (λ f. with_some (map.get x.first s) f (λ c e. view_read x v s c p e ∙ sym (local.kept s c e unwritten)))
    (λ f.
    let row : has_row x s ≡ false = ap (λ b. b || map.contains_key x.written s) f ∙ unwritten in
    let listed = closed_only (has_row x s) (map.contains_key x.closed s.object) t row in
    view_closed x v s p listed row ∙ sym (local.absent s listed row))

-- ---- a read

module _ (base : View) (x : World plain) (st : Stands base x) (s : Slot) where
  abbrev read_of : World plain
  read_of = record x { first = map.insert x.first s (map.get x.copy s) }

  marked_first : is_touched x s ≡ false → Marked base x read_of
  marked_first u = record {
    touches = λ t h. stays_touched x read_of t (marks_first x s st.child) h;
    narrows = λ v p. passes_by x v
        (λ t c e. view_read read_of v t c p (past t (λ q. absurd (taken t q (ap is_some e))) e))
        (λ t cl r. view_closed read_of v t p cl (map_row t (apart t (λ q. closed_not t q cl)) ∙ r));
    own = same_view (owned read_of base) (owned x base) (λ t. by_bool (eq_by_cmp slot_cmp t s)
        (λ q.
        let is = key_is slot_exact t s q in
        own_recorded base read_of t (map.get x.copy s) (map.get-insert slot_total x.first s (map.get x.copy s) t ∙ ap (λ b. cond b (Some (map.get x.copy s)) (map.get x.first t)) q)
        ∙ st.inherits s u
        ∙ ap (map.get base) (sym is)
        ∙ sym (own_fresh base x t (ap (is_touched x) is ∙ u)))
        (λ q. own_alike base x read_of t (other t q) (map_row t q) refl));
  }
    where
      other : (t : Slot) → eq_by_cmp slot_cmp t s ≡ false → map.get (map.insert x.first s (map.get x.copy s)) t ≡ map.get x.first t
      other t q = map.get-insert slot_total x.first s (map.get x.copy s) t ∙ ap (λ b. cond b (Some (map.get x.copy s)) (map.get x.first t)) q

      map_row : (t : Slot) → eq_by_cmp slot_cmp t s ≡ false → has_row read_of t ≡ has_row x t
      map_row t q = ap (λ o. is_some o || map.contains_key x.written t) (other t q)

      apart : (t : Slot) → (eq_by_cmp slot_cmp t s ≡ true → ⊥) → eq_by_cmp slot_cmp t s ≡ false
      apart t f = false_from_ne_true (eq_by_cmp slot_cmp t s) f

      past : (t : Slot) {c : Option Value} → (eq_by_cmp slot_cmp t s ≡ true → ⊥) → map.get x.first t ≡ Some c → map.get (map.insert x.first s (map.get x.copy s)) t ≡ Some c
      past t f e = other t (apart t f) ∙ e

      taken : (t : Slot) → eq_by_cmp slot_cmp t s ≡ true → is_some (map.get x.first t) ≡ true → ⊥
      taken t q h = true≢false (sym h ∙ ap (λ (k : Slot). is_some (map.get x.first k)) (key_is slot_exact t s q) ∙ ap is_some (fresh_at x s u).first)

      closed_not : (t : Slot) → eq_by_cmp slot_cmp t s ≡ true → map.contains_key x.closed t.object ≡ true → ⊥
      closed_not t q cl = true≢false (sym cl ∙ ap (λ (k : Slot). map.contains_key x.closed k.object) (key_is slot_exact t s q) ∙ (fresh_at x s u).closed)

  pub marked_read : Marked base x (read_in s x)
  marked_read = marked_cond base (is_some x.parent && not (is_touched x s)) x read_of (λ b. marked_first (not-true (is_touched x s) (and_parts (is_some x.parent) (not (is_touched x s)) b).1))

strict_read : (s : Slot) (x : World plain) → (read_in s x).strict ≡ x.strict
strict_read s x = by (is_some x.parent && not (is_touched x s))
  where
    by : (b : Bool) → (cond b (record x { first = map.insert x.first s (map.get x.copy s) }) x).strict ≡ x.strict
    by true = refl
    by false = refl

stands_read : (base : View) (x : World plain) (s : Slot) → Stands base x → Stands base (read_in s x)
stands_read base x s st =
    let m = marks_read s x in
    record {
      local = m.local st.local;
      inherits = λ t u. ap (λ c. map.get c t) m.copy ∙ st.inherits t (m.touched t u);
      child = ap is_some m.parent ∙ st.child;
      plain = strict_read s x ∙ st.plain;
    }

-- ---- a listing

marked_read_all : (base : View) (ss : List Slot) (x : World plain) → Stands base x → Marked base x (read_all ss x) × Stands base (read_all ss x)
marked_read_all base [] x st = (marked_same base x, st)
marked_read_all base (s ∷ ss) x st =
    let r = marked_read_all base ss (read_in s x) (stands_read base x s st) in
    (marked_then base x (read_in s x) (read_all ss (read_in s x)) (marked_read base x st s) r.0, r.1)

module _ (base : View) (x : World plain) (st : Stands base x) (o : ObjId) (none : (t : Slot) → t.object ≡ o → has_row x t ≡ false → map.get x.copy t ≡ None) where
  abbrev closed_of : World plain
  closed_of = record x { closed = map.insert x.closed o tt }

  more : (p : ObjId) → map.contains_key x.closed p ≡ true → map.contains_key (map.insert x.closed o tt) p ≡ true
  more p h = contains_insert obj_total x.closed o tt p ∙ or_right (eq_by_cmp obj_cmp p o) (map.contains_key x.closed p) h

  own_close : (t : Slot) → map.get (owned closed_of base) t ≡ map.get (owned x base) t
  own_close t = by_bool (eq_by_cmp obj_cmp t.object o)
      (λ q. by_bool (has_row x t) (rowed q) (free q))
      (λ q. own_alike base x closed_of t refl refl (contains_insert obj_total x.closed o tt t.object ∙ ap (λ b. b || map.contains_key x.closed t.object) q))
    where
      -- with a row it makes no difference whether its object is listed
      rowed : eq_by_cmp obj_cmp t.object o ≡ true → has_row x t ≡ true → map.get (owned closed_of base) t ≡ map.get (owned x base) t
      rowed q r =
          get_owned closed_of base t
          ∙ ap (λ b. own_by (map.get x.first t) (map.contains_key (map.insert x.closed o tt) t.object) b (map.get base t)) r
          ∙ ap (λ b. cond (is_some (map.get x.first t)) (unwrap_or (map.get x.first t) None) (cond (not b) (map.get base t) None)) (and-false (map.contains_key (map.insert x.closed o tt) t.object) ∙ sym (and-false (map.contains_key x.closed t.object)))
          ∙ ap (λ b. own_by (map.get x.first t) (map.contains_key x.closed t.object) b (map.get base t)) (sym r)
          ∙ sym (get_owned x base t)

      free : eq_by_cmp obj_cmp t.object o ≡ true → has_row x t ≡ false → map.get (owned closed_of base) t ≡ map.get (owned x base) t
      free q r =
          own_hidden base closed_of t (contains_insert obj_total x.closed o tt t.object ∙ ap (λ b. b || map.contains_key x.closed t.object) q) r
          ∙ by_bool (map.contains_key x.closed t.object)
          (λ c. sym (own_hidden base x t c r))
          (λ c.
          let u : is_touched x t ≡ false = ap (λ b. b || map.contains_key x.closed t.object) r ∙ c in
          sym (none t (key_is obj_exact t.object o q) r) ∙ st.inherits t u ∙ sym (own_fresh base x t u))

  marked_close : Marked base x closed_of
  marked_close = record {
    touches = λ t h. or_case (has_row x t) (map.contains_key x.closed t.object) h
        (λ e. or_left (has_row x t) (map.contains_key (map.insert x.closed o tt) t.object) e)
        (λ e. or_right (has_row x t) (map.contains_key (map.insert x.closed o tt) t.object) (more t.object e));
    narrows = λ v p. passes_by x v (λ t c e. view_read closed_of v t c p e) (λ t cl r. view_closed closed_of v t p (more t.object cl) r);
    own = same_view (owned closed_of base) (owned x base) own_close;
  }

-- a present slot of the object is among those that are listed
pub listed_slot : (x : World plain) (o : ObjId) (t : Slot) → t.object ≡ o → map.contains_key x.copy t ≡ true → list_any (eq_by_cmp slot_cmp t) (slots_in o x) ≡ true
listed_slot x o t e h = any_filter (eq_by_cmp slot_cmp t) (λ (s : Slot). same_object s.object o) (map.keys x.copy)
    (λ k p. (object_Decides k.object o).1 (ap (λ (q : Slot). q.object) (sym (key_is slot_exact t k p)) ∙ e))
    (sym (map.contains_key-keys x.copy t) ∙ h)

-- what a listing leaves without a row is absent
listed_none : (base : View) (x : World plain) (o : ObjId) → Stands base x → (t : Slot) → t.object ≡ o → has_row (read_all (slots_in o x) x) t ≡ false → map.get (read_all (slots_in o x) x).copy t ≡ None
listed_none base x o st t e r =
    let ss = slots_in o x in
    let m = marks_read_all ss x in
    none_or_some (map.get (read_all ss x).copy t) (λ z. z) (λ h.
    let here : map.contains_key x.copy t ≡ true = ap (λ c. is_some (map.get c t)) (sym m.copy) ∙ h in
    (m.local st.local).absent t (closed_only (has_row (read_all ss x) t) (map.contains_key (read_all ss x).closed t.object) (touched_all ss x t st.child (listed_slot x o t e here)) r) r)

pub marked_list : (base : View) (x : World plain) (o : ObjId) → Stands base x → Marked base x (list_in o x)
marked_list base x o st =
    let ss = slots_in o x in
    let r = marked_read_all base ss x st in
    let z = read_all ss x in
    marked_then base x z (list_in o x) r.0
    (marked_cond base (is_some z.parent) z (record z { closed = map.insert z.closed o tt }) (λ p. marked_close base z r.1 o (listed_none base x o st)))

-- ---- a write

module _ (base : View) (x : World plain) (st : Stands base x) (s : Slot) (c : Option Value) where
  -- whether it records what was there
  abbrev recording : Bool
  recording = is_some x.parent && (not (has_row x s) && (map.contains_key x.closed s.object || x.strict))

  first_other : (t : Slot) → eq_by_cmp slot_cmp t s ≡ false → map.get (write_in s c x).first t ≡ map.get x.first t
  first_other t q = by recording
    where
      by : (b : Bool) → map.get (cond b (map.insert x.first s (map.get x.copy s)) x.first) t ≡ map.get x.first t
      by true = map.get-insert slot_total x.first s (map.get x.copy s) t ∙ ap (λ e. cond e (Some (map.get x.copy s)) (map.get x.first t)) q
      by false = refl

  written_other : (t : Slot) → eq_by_cmp slot_cmp t s ≡ false → map.contains_key (write_in s c x).written t ≡ map.contains_key x.written t
  written_other t q = by (is_some x.parent)
    where
      by : (b : Bool) → map.contains_key (cond b (map.insert x.written s tt) x.written) t ≡ map.contains_key x.written t
      by true = contains_insert slot_total x.written s tt t ∙ ap (λ e. e || map.contains_key x.written t) q
      by false = refl

  row_other : (t : Slot) → eq_by_cmp slot_cmp t s ≡ false → has_row (write_in s c x) t ≡ has_row x t
  row_other t q = λ k. is_some (first_other t q k) || written_other t q k

  -- what is touched after it
  pub touched_write : (t : Slot) → is_touched (write_in s c x) t ≡ (eq_by_cmp slot_cmp t s || is_touched x t)
  touched_write t = by_bool (eq_by_cmp slot_cmp t s)
      (λ q. ap (λ b. b || map.contains_key x.closed t.object) (row_new s c x t st.child q) ∙ sym (ap (λ b. b || is_touched x t) q))
      (λ q. ap (λ b. b || map.contains_key x.closed t.object) (row_other t q) ∙ sym (ap (λ b. b || is_touched x t) q))

  -- a slot of a listed object without a row is recorded as absent
  recorded_none : map.contains_key x.closed s.object ≡ true → has_row x s ≡ false → map.get (write_in s c x).first s ≡ Some None
  recorded_none cl r =
      let records : recording ≡ true = (λ k. st.child k && (not (r k) && (cl k || x.strict))) in
      ap (λ b. map.get (cond b (map.insert x.first s (map.get x.copy s)) x.first) s) records
      ∙ map.get-insert slot_total x.first s (map.get x.copy s) s
      ∙ ap (λ o. cond (is_eq o) (Some (map.get x.copy s)) (map.get x.first s)) (tied_itself slot_total s)
      ∙ ap (λ d. Some d) (st.local.absent s cl r)

  -- else nothing new is recorded
  recorded_same : (map.contains_key x.closed s.object && not (has_row x s)) ≡ false → map.get (write_in s c x).first s ≡ map.get x.first s
  recorded_same h = ap (λ b. map.get (cond b (map.insert x.first s (map.get x.copy s)) x.first) s) (no (is_some x.parent) (has_row x s) (map.contains_key x.closed s.object) h)
    where
      no : (a r cl : Bool) → (cl && not r) ≡ false → (a && (not r && (cl || x.strict))) ≡ false
      no a true cl h = and-false a
      no a false true h = absurd (true≢false h)
      no a false false h = ap (λ b. a && b) st.plain ∙ and-false a

  own_here : map.get (owned (write_in s c x) base) s ≡ map.get (owned x base) s
  own_here = by_bool (map.contains_key x.closed s.object && not (has_row x s))
      (λ h.
      let v = and_parts (map.contains_key x.closed s.object) (not (has_row x s)) h in
      let r = not-true (has_row x s) v.1 in
      own_recorded base (write_in s c x) s None (recorded_none v.0 r) ∙ sym (own_hidden base x s v.0 r))
      (λ h. none_or_some (map.get x.first s)
      (λ e.
      own_base base (write_in s c x) s (recorded_same h ∙ e) (ap (λ b. map.contains_key x.closed s.object && not b) (row_new s c x s st.child (ap is_eq (tied_itself slot_total s))) ∙ and-false (map.contains_key x.closed s.object))
      ∙ sym (own_base base x s e h))
      (λ e. get_owned (write_in s c x) base s
      ∙ ap (λ o. own_by o (map.contains_key x.closed s.object) (has_row (write_in s c x) s) (map.get base s)) (recorded_same h)
      ∙ either (map.get x.first s) e
      ∙ sym (get_owned x base s)))
    where
      either : (o : Option (Option Value)) → is_some o ≡ true → own_by o (map.contains_key x.closed s.object) (has_row (write_in s c x) s) (map.get base s) ≡ own_by o (map.contains_key x.closed s.object) (has_row x s) (map.get base s)
      either None e = absurd (false≢true e)
      either (Some d) e = refl

  narrows_write : (v : View) → passes (write_in s c x) v ≡ true → passes x v ≡ true
  narrows_write v p = passes_by x v read hidden
    where
      read : (t : Slot) (d : Option Value) → map.get x.first t ≡ Some d → map.get v t ≡ d
      read t d e = view_read (write_in s c x) v t d p (by_bool (eq_by_cmp slot_cmp t s)
          (λ q.
          let is = key_is slot_exact t s q in
          let row : has_row x s ≡ true = or_left (map.contains_key x.first s) (map.contains_key x.written s) (ap (λ (k : Slot). map.contains_key x.first k) (sym is) ∙ ap is_some e) in
          ap (map.get (write_in s c x).first) is
          ∙ recorded_same (ap (λ b. map.contains_key x.closed s.object && not b) row ∙ and-false (map.contains_key x.closed s.object))
          ∙ ap (map.get x.first) (sym is) ∙ e)
          (λ q. first_other t q ∙ e))

      hidden : (t : Slot) → map.contains_key x.closed t.object ≡ true → has_row x t ≡ false → map.get v t ≡ None
      hidden t cl r = by_bool (eq_by_cmp slot_cmp t s)
          (λ q.
          let is = key_is slot_exact t s q in
          view_read (write_in s c x) v t None p (ap (map.get (write_in s c x).first) is ∙ recorded_none (ap (λ (k : Slot). map.contains_key x.closed k.object) (sym is) ∙ cl) (ap (has_row x) (sym is) ∙ r)))
          (λ q. view_closed (write_in s c x) v t p cl (row_other t q ∙ r))

  pub marked_write : Marked base x (write_in s c x)
  marked_write = record {
    touches = λ t h. touched_write t ∙ or_right (eq_by_cmp slot_cmp t s) (is_touched x t) h;
    narrows = narrows_write;
    own = same_view (owned (write_in s c x) base) (owned x base) (λ t. by_bool (eq_by_cmp slot_cmp t s)
        (λ q.
        let is = key_is slot_exact t s q in
        ap (map.get (owned (write_in s c x) base)) is ∙ own_here ∙ ap (map.get (owned x base)) (sym is))
        (λ q. own_alike base x (write_in s c x) t (first_other t q) (row_other t q) refl));
  }

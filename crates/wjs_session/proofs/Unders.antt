-- The session's world under a view: what is done in the shared store is done in it.
use Rattle.std.proofs.Common.{◌≡◌, Bool, true, false, cond, not, ◌&&◌, ◌||◌, List, [], ◌∷◌, refl, ap, sym, ◌∙◌, subst, filter, Option, is_some}
use Rattle.std.specs.List.{AllByRecursion}
use Rattle.std.specs.FinMap as map
use Rattle.std.proofs.lemmas.Bool.{and_parts, or_right, true≢false}
use Rattle.wjs_base.specs.declared.ids.ObjId.{ObjId}
use Rattle.wjs_base.specs.declared.ids.WorldId.{WorldId}
use Rattle.wjs_base.specs.declared.values.Slot.{Slot}
use Rattle.wjs_base.specs.declared.values.Value.{Value}
use Rattle.wjs_base.specs.Order.{slot_total, slot_exact}
use Rattle.wjs_base.specs.Same.{object_Decides}
use Rattle.wjs_store.specs.Naming.{plain}
use Rattle.wjs_store.specs.Reached.{IsReached}
use Rattle.wjs_store.specs.Meaning.{View, Worlds}
use Rattle.wjs_store.specs.State.{World, same_object, has_row, is_touched, put, read_in, read_all, close_in, list_in, slots_in, write_in, write_all, after_read, after_list, after_write}
use Rattle.wjs_store.proofs.Ascending.{same_listed}
use Rattle.wjs_store.proofs.Marks.{or_case, marks_read}
use Rattle.wjs_store.proofs.Writes.{get_put}
use Rattle.wjs_session.specs.Session.{world_at, outer, passes}
use Rattle.wjs_session.specs.Kept.{IsChild, IsSession}
use Rattle.wjs_session.specs.Along.{write_each}
use Rattle.wjs_session.specs.Tells.{under}
use Rattle.wjs_session.specs.Maps.{get_outer, same_view}
use Rattle.wjs_session.specs.Calls.{AllTouched}
use Rattle.wjs_session.proofs.Worlds.{parent_some}
use Rattle.wjs_session.proofs.Growing.{stands_at, read_world, list_world, write_world, write_outer, grows_write}
use Rattle.wjs_session.proofs.Looking.{outer_read, outer_list, read_copy, list_copy}
use Rattle.wjs_session.proofs.Owning.{listed_touched}
use Rattle.wjs_session.proofs.Bringing.{read_touched}

all_filter : {A : Type 0} (P : A → Type 0) (p : A → Bool) → ((y : A) → p y ≡ true → P y) → (xs : List A) → AllByRecursion P (filter p xs)
all_filter P p e [] = tt
all_filter P p e (y ∷ xs) = by (p y) refl (all_filter P p e xs)
  where
    by : (b : Bool) → p y ≡ b → AllByRecursion P (filter p xs) → AllByRecursion P (cond b (y ∷ filter p xs) (filter p xs))
    by true h r = (e y h, r)
    by false h r = r

-- ---- a world whose copy is another: an action in it, where both hold the same in what it asks for

module _ (o : View) where
  read_over : (s : Slot) (x : World plain) → map.get x.copy s ≡ map.get o s → record (read_in s x) { copy = o } ≡ read_in s (record x { copy = o })
  read_over s x e = by (is_some x.parent && not (is_touched x s))
    where
      by : (b : Bool) → record (cond b (record x { first = map.insert x.first s (map.get x.copy s) }) x) { copy = o } ≡ cond b (record x { copy = o; first = map.insert x.first s (map.get o s) }) (record x { copy = o })
      by true = ap (λ c. record x { copy = o; first = map.insert x.first s c }) e
      by false = refl

  reads_over : (ss : List Slot) (x : World plain) → AllByRecursion (λ (s : Slot). map.get x.copy s ≡ map.get o s) ss → record (read_all ss x) { copy = o } ≡ read_all ss (record x { copy = o })
  reads_over [] x h = refl
  reads_over (s ∷ ss) x h =
      reads_over ss (read_in s x) (subst (λ (m : View). AllByRecursion (λ (t : Slot). map.get m t ≡ map.get o t) ss) (sym (marks_read s x).copy) h.1)
      ∙ ap (read_all ss) (read_over s x h.0)

  close_over : (q : ObjId) (z : World plain) → record (close_in q z) { copy = o } ≡ close_in q (record z { copy = o })
  close_over q z = by (is_some z.parent)
    where
      by : (b : Bool) → record (cond b (record z { closed = map.insert z.closed q tt }) z) { copy = o } ≡ cond b (record z { copy = o; closed = map.insert z.closed q tt }) (record z { copy = o })
      by true = refl
      by false = refl

  list_over : (q : ObjId) (x : World plain) → ((t : Slot) → t.object ≡ q → map.get x.copy t ≡ map.get o t) → record (list_in q x) { copy = o } ≡ list_in q (record x { copy = o })
  list_over q x e =
      let ss = slots_in q x in
      close_over q (read_all ss x)
      ∙ ap (close_in q) (reads_over ss x (all_filter (λ (s : Slot). map.get x.copy s ≡ map.get o s) (λ (s : Slot). same_object s.object q) (λ s h. e s ((object_Decides s.object q).0 h)) (map.keys x.copy)))
      ∙ ap (λ ts. close_in q (read_all ts (record x { copy = o }))) (same_listed slot_total slot_exact (λ (s : Slot). same_object s.object q) x.copy o (λ t p. ap is_some (e t ((object_Decides t.object q).0 p))))

  write_over : (s : Slot) (c : Option Value) (x : World plain) → x.strict ≡ false → (is_touched x s ≡ true → map.get x.copy s ≡ map.get o s) → record (write_in s c x) { copy = put o s c } ≡ write_in s c (record x { copy = o })
  write_over s c x loose e = ap (λ f. record x { copy = put o s c; first = f; written = cond (is_some x.parent) (map.insert x.written s tt) x.written }) (by (is_some x.parent && (not (has_row x s) && (map.contains_key x.closed s.object || x.strict))) refl)
    where
      -- what it records was touched
      held : (is_some x.parent && (not (has_row x s) && (map.contains_key x.closed s.object || x.strict))) ≡ true → map.get x.copy s ≡ map.get o s
      held h =
          let p = and_parts (is_some x.parent) (not (has_row x s) && (map.contains_key x.closed s.object || x.strict)) h in
          let q = and_parts (not (has_row x s)) (map.contains_key x.closed s.object || x.strict) p.1 in
          or_case (map.contains_key x.closed s.object) x.strict q.1
          (λ l. e (or_right (has_row x s) (map.contains_key x.closed s.object) l))
          (λ t. absurd (true≢false (sym t ∙ loose)))

      by : (b : Bool) → (is_some x.parent && (not (has_row x s) && (map.contains_key x.closed s.object || x.strict))) ≡ b → cond b (map.insert x.first s (map.get x.copy s)) x.first ≡ cond b (map.insert x.first s (map.get o s)) x.first
      by true h = ap (λ d. map.insert x.first s d) (held h)
      by false h = refl

-- ---- reads and listings

pub listed_all : (F : Worlds) (i : WorldId) → IsReached F → IsChild F i → (q : ObjId) → AllTouched (after_list F i q) i q
listed_all F i r c q t e = ap (λ (y : World plain). is_touched y t) (list_world F i r c q) ∙ listed_touched q (world_at F i) (parent_some F i r c) t e

module _ (F : Worlds) (i : WorldId) (G : Worlds) (k : IsSession F i G) (v : View) where
  -- a slot that is touched afterwards, and held as before, was held so
  held_as : (y : World plain) (t : Slot) → y.copy ≡ (world_at F i).copy → is_touched y t ≡ true → map.get (outer y v) t ≡ map.get (outer (world_at F i) v) t → map.get (world_at F i).copy t ≡ map.get (outer (world_at F i) v) t
  held_as y t copies touched same =
      ap (λ c. map.get c t) (sym copies)
      ∙ sym (get_outer y v t ∙ ap (λ b. cond b (map.get y.copy t) (map.get v t)) touched)
      ∙ same

  pub under_read : (s : Slot) → passes (world_at (after_read F i s) i) v ≡ true → under (world_at (after_read F i s) i) v ≡ read_in s (under (world_at F i) v)
  under_read s p =
      let x = world_at F i in
      let y = world_at (after_read F i s) i in
      let same : outer y v ≡ outer x v = same_view (outer y v) (outer x v) (outer_read F i G k s v p) in
      (λ j. record (read_world F i k.shared k.child s j) { copy = same j })
      ∙ read_over (outer x v) s x (held_as y s (read_copy F i G k s) (read_touched F i G k s) (outer_read F i G k s v p s))

  pub under_list : (q : ObjId) → passes (world_at (after_list F i q) i) v ≡ true → under (world_at (after_list F i q) i) v ≡ list_in q (under (world_at F i) v)
  under_list q p =
      let x = world_at F i in
      let y = world_at (after_list F i q) i in
      let same : outer y v ≡ outer x v = same_view (outer y v) (outer x v) (outer_list F i G k q v p) in
      (λ j. record (list_world F i k.shared k.child q j) { copy = same j })
      ∙ list_over (outer x v) q x (λ t e. held_as y t (list_copy F i G k q) (listed_all F i k.shared k.child q t e) (outer_list F i G k q v p t))

-- ---- writes

module _ (i : WorldId) (v : View) where
  pub under_write : (F : Worlds) → IsReached F → IsChild F i → (s : Slot) (d : Option Value) → under (world_at (after_write F i s d) i) v ≡ write_in s d (under (world_at F i) v)
  under_write F r c s d =
      let x = world_at F i in
      let y = world_at (after_write F i s d) i in
      let same : outer y v ≡ put (outer x v) s d = same_view (outer y v) (put (outer x v) s d) (λ t. write_outer F i r c s d v t ∙ sym (get_put slot_total (outer x v) s d t)) in
      (λ j. record (write_world F i r c s d j) { copy = same j })
      ∙ write_over (outer x v) s d x (stands_at F i r c).plain (λ t. sym (get_outer x v s ∙ ap (λ b. cond b (map.get x.copy s) (map.get v s)) t))

  pub under_writes : (es : List (Slot × Option Value)) (F : Worlds) → IsReached F → IsChild F i → under (world_at (write_all i es F) i) v ≡ write_each es (under (world_at F i) v)
  under_writes [] F r c = refl
  under_writes (e ∷ es) F r c =
      let g = grows_write F i r c e.0 e.1 in
      under_writes es (after_write F i e.0 e.1) g.reached g.child ∙ ap (write_each es) (under_write F r c e.0 e.1)

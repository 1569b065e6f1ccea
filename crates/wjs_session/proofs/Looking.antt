-- A read and a listing in a session's own world leave its worlds.
use Rattle.std.proofs.Common.{◌≡◌, Bool, true, false, cond, not, ◌&&◌, ◌||◌, List, [], ◌∷◌, refl, ap, sym, ◌∙◌, map as each, Option, None, Some, is_some}
use Rattle.std.specs.Option.{option_map, option_and_then}
use Rattle.std.specs.List.{AllByRecursion}
use Rattle.std.specs.FinMap as map
use Rattle.std.proofs.lemmas.Bool.{and_parts, and_from, true≢false, or_parts}
use Rattle.wjs_base.specs.declared.ids.ObjId.{ObjId}
use Rattle.wjs_base.specs.declared.ids.WorldId.{WorldId}
use Rattle.wjs_base.specs.declared.values.Slot.{Slot}
use Rattle.wjs_base.specs.Same.{same_value}
use Rattle.wjs_base.proofs.Booleans.{by_bool}
use Rattle.wjs_store.specs.Naming.{plain}
use Rattle.wjs_store.specs.Meaning.{View, Worlds}
use Rattle.wjs_store.specs.State.{World, same_world, find_world, has_world, content_at, has_row, is_touched, same_content, at_world, read_in, read_all, list_in, slots_in, after_read, after_list}
use Rattle.wjs_store.proofs.Marks.{marks_read, marks_list}
use Rattle.wjs_store.proofs.Writes.{by_one}
use Rattle.wjs_session.specs.Filled.{filled}
use Rattle.wjs_session.specs.Session.{world_at, first_copy, settled, outer, widened, full_of, passes}
use Rattle.wjs_session.specs.Kept.{IsShut, IsSession}
use Rattle.wjs_session.specs.Grown.{Grows}
use Rattle.wjs_session.specs.Calls.{Brought}
use Rattle.wjs_session.proofs.Worlds.{each_on, all_weaker, all_find, found_at, content_is, first_there, first_content}
use Rattle.wjs_session.proofs.Marking.{fresh_at, view_touched}
use Rattle.wjs_session.proofs.Growing.{stands_at, grows_read, grows_list, read_world, list_world}
use Rattle.wjs_session.specs.Maps.{get_filled, get_outer, same_view, same_content_is}
use Rattle.wjs_session.specs.Fills.{fill, find_fill}

-- ---- what is settled

module _ (F : Worlds) (i : WorldId) (G : Worlds) (k : IsSession F i G) where
  pub inner_there : has_world G i ≡ true
  inner_there = first_there G i k.inner k.first

  -- what isn't settled the inner first world doesn't hold
  unsettled_first : (s : Slot) → settled (world_at F i) G s ≡ false → map.get (first_copy G) s ≡ None
  unsettled_first s e =
      first_content G i s k.first ∙ content_is G i s
      ∙ (all_find (IsShut (settled (world_at F i) G)) G i (world_at G i) k.shut (found_at G i inner_there)).absent s e

  -- what is settled is touched, and both hold the same
  pub settled_touched : (s : Slot) → settled (world_at F i) G s ≡ true → is_touched (world_at F i) s ≡ true
  settled_touched s e = (and_parts (is_touched (world_at F i) s) (same_content same_value (map.get (first_copy G) s) (map.get (world_at F i).copy s)) e).0

  pub settled_same : (s : Slot) → settled (world_at F i) G s ≡ true → map.get (first_copy G) s ≡ map.get (world_at F i).copy s
  settled_same s e = same_content_is (map.get (first_copy G) s) (map.get (world_at F i).copy s) (and_parts (is_touched (world_at F i) s) (same_content same_value (map.get (first_copy G) s) (map.get (world_at F i).copy s)) e).1

  -- a slot that is touched and absent is settled
  pub absent_settled : (s : Slot) → is_touched (world_at F i) s ≡ true → map.get (world_at F i).copy s ≡ None → settled (world_at F i) G s ≡ true
  absent_settled s t n = by_bool (settled (world_at F i) G s) (λ e. e) (λ e j. t j && same_content same_value (unsettled_first s e j) (n j))

  -- the session's own world holds under a view what the shared one does
  pub own_content : (v : View) (s : Slot) → content_at (full_of (world_at F i) G v) i s ≡ map.get (outer (world_at F i) v) s
  own_content v s =
      let x = world_at F i in
      ap (option_and_then (λ (y : World plain). map.get y.copy s)) (find_fill (settled x G) (outer x v) G i ∙ ap (option_map (fill (settled x G) (outer x v))) (found_at G i inner_there))
      ∙ get_filled (settled x G) (world_at G i).copy (outer x v) s
      ∙ by_bool (settled x G s)
      (λ e.
      ap (λ b. cond b (map.get (world_at G i).copy s) (map.get (outer x v) s)) e
      ∙ sym (first_content G i s k.first ∙ content_is G i s) ∙ settled_same s e
      ∙ sym (get_outer x v s ∙ ap (λ b. cond b (map.get x.copy s) (map.get v s)) (settled_touched s e)))
      (λ e. ap (λ b. cond b (map.get (world_at G i).copy s) (map.get (outer x v) s)) e)

-- ---- marks alone are changed

module _ (F : Worlds) (i : WorldId) (G : Worlds) (k : IsSession F i G) (F' : Worlds) (g : Grows F i F') (copies : (world_at F' i).copy ≡ (world_at F i).copy) (writes : (world_at F' i).written ≡ (world_at F i).written) where
  still_settled : (s : Slot) → settled (world_at F i) G s ≡ true → settled (world_at F' i) G s ≡ true
  still_settled s e =
      let p = and_parts (is_touched (world_at F i) s) (same_content same_value (map.get (first_copy G) s) (map.get (world_at F i).copy s)) e in
      and_from (is_touched (world_at F' i) s) (same_content same_value (map.get (first_copy G) s) (map.get (world_at F' i).copy s)) (g.touches s p.0) (ap (λ c. same_content same_value (map.get (first_copy G) s) (map.get c s)) copies ∙ p.1)

  back : (s : Slot) → settled (world_at F' i) G s ≡ false → settled (world_at F i) G s ≡ false
  back s e = by_bool (settled (world_at F i) G s) (λ t. absurd (true≢false (sym (still_settled s t) ∙ e))) (λ t. t)

  -- where it is newly touched, a view that is admitted holds what the world does
  view_is : (v : View) → passes (world_at F' i) v ≡ true → (s : Slot) → is_touched (world_at F i) s ≡ false → is_touched (world_at F' i) s ≡ true → map.get v s ≡ map.get (world_at F' i).copy s
  view_is v p s u t =
      view_touched (world_at F' i) (stands_at F' i g.reached g.child).local v s p t (ap (λ m. map.contains_key m s) writes ∙ no_write s u)
    where
      no_write : (s : Slot) → is_touched (world_at F i) s ≡ false → map.contains_key (world_at F i).written s ≡ false
      no_write s u = (or_parts (map.contains_key (world_at F i).first s) (map.contains_key (world_at F i).written s) (fresh_at (world_at F i) s u).row).1

  outer_same : (v : View) → passes (world_at F' i) v ≡ true → (s : Slot) → map.get (outer (world_at F' i) v) s ≡ map.get (outer (world_at F i) v) s
  outer_same v p s =
      let x = world_at F i in
      let y = world_at F' i in
      get_outer y v s
      ∙ by_bool (is_touched x s)
      (λ t. ap (λ b. cond b (map.get y.copy s) (map.get v s)) (g.touches s t) ∙ ap (λ c. map.get c s) copies ∙ sym (ap (λ b. cond b (map.get x.copy s) (map.get v s)) t))
      (λ t. by_bool (is_touched y s)
      (λ u. ap (λ b. cond b (map.get y.copy s) (map.get v s)) u ∙ sym (view_is v p s t u) ∙ sym (ap (λ b. cond b (map.get x.copy s) (map.get v s)) t))
      (λ u. ap (λ b. cond b (map.get y.copy s) (map.get v s)) u ∙ sym (ap (λ b. cond b (map.get x.copy s) (map.get v s)) t)))
      ∙ sym (get_outer x v s)

  -- what is newly settled is absent under the view
  newly : (v : View) → passes (world_at F' i) v ≡ true → (s : Slot) → settled (world_at F i) G s ≡ false → settled (world_at F' i) G s ≡ true → map.get (outer (world_at F i) v) s ≡ None
  newly v p s e f =
      let y = world_at F' i in
      let q = and_parts (is_touched y s) (same_content same_value (map.get (first_copy G) s) (map.get y.copy s)) f in
      sym (outer_same v p s) ∙ get_outer y v s ∙ ap (λ b. cond b (map.get y.copy s) (map.get v s)) q.0
      ∙ sym (same_content_is (map.get (first_copy G) s) (map.get y.copy s) q.1)
      ∙ unsettled_first F i G k s e

  look_one : (v : View) → passes (world_at F' i) v ≡ true → (z : World plain) → IsShut (settled (world_at F i) G) z → (s : Slot) → map.get (filled (settled (world_at F' i) G) z.copy (outer (world_at F' i) v)) s ≡ map.get (filled (settled (world_at F i) G) z.copy (outer (world_at F i) v)) s
  look_one v p z h s =
      let a = map.get z.copy s in
      let b = map.get (outer (world_at F i) v) s in
      get_filled (settled (world_at F' i) G) z.copy (outer (world_at F' i) v) s
      ∙ ap (cond (settled (world_at F' i) G s) a) (outer_same v p s)
      ∙ by_bool (settled (world_at F i) G s)
      (λ e. ap (λ q. cond q a b) (still_settled s e) ∙ sym (ap (λ q. cond q a b) e))
      (λ e. by_bool (settled (world_at F' i) G s)
      (λ f. ap (λ q. cond q a b) f ∙ h.absent s e ∙ sym (newly v p s e f) ∙ sym (ap (λ q. cond q a b) e))
      (λ f. ap (λ q. cond q a b) f ∙ sym (ap (λ q. cond q a b) e)))
      ∙ sym (get_filled (settled (world_at F i) G) z.copy (outer (world_at F i) v) s)

  same_looked : (v : View) → passes (world_at F' i) v ≡ true → full_of (world_at F' i) G v ≡ full_of (world_at F i) G v
  same_looked v p =
      let x = world_at F i in
      let y = world_at F' i in
      each_on (IsShut (settled x G)) (widened y G v) (widened x G v) (λ z h. ap (λ m. record z { copy = m }) (same_view (filled (settled y G) z.copy (outer y v)) (filled (settled x G) z.copy (outer x v)) (look_one v p z h))) G k.shut

  kept_looked : IsSession F' i G
  kept_looked = record {
    shared = g.reached;
    child = g.child;
    inner = k.inner;
    first = k.first;
    shut = all_weaker (IsShut (settled (world_at F i) G)) (IsShut (settled (world_at F' i) G)) (λ z h. record { absent = λ s e. h.absent s (back s e); untouched = λ s e. h.untouched s (back s e) }) G k.shut;
  }

  brought_looked : Brought F i G F' G
  brought_looked = record { kept = kept_looked; grows = g; same = same_looked; holds = copies; there = λ d h. h; settles = still_settled }

-- ---- the two calls

written_read : (s : Slot) (x : World plain) → (read_in s x).written ≡ x.written
written_read s x = by_one (is_some x.parent && not (is_touched x s)) (λ (y : World plain). y.written ≡ x.written) refl refl

written_all : (ss : List Slot) (x : World plain) → (read_all ss x).written ≡ x.written
written_all [] x = refl
written_all (s ∷ ss) x = written_all ss (read_in s x) ∙ written_read s x

written_list : (o : ObjId) (x : World plain) → (list_in o x).written ≡ x.written
written_list o x =
    let z = read_all (slots_in o x) x in
    by_one (is_some z.parent) (λ (y : World plain). y.written ≡ z.written) refl refl ∙ written_all (slots_in o x) x

module _ (F : Worlds) (i : WorldId) (G : Worlds) (k : IsSession F i G) where
  pub read_copy : (s : Slot) → (world_at (after_read F i s) i).copy ≡ (world_at F i).copy
  read_copy s = ap (λ (y : World plain). y.copy) (read_world F i k.shared k.child s) ∙ (marks_read s (world_at F i)).copy

  pub list_copy : (o : ObjId) → (world_at (after_list F i o) i).copy ≡ (world_at F i).copy
  list_copy o = ap (λ (y : World plain). y.copy) (list_world F i k.shared k.child o) ∙ (marks_list o (world_at F i)).copy

  pub brought_read : (s : Slot) → Brought F i G (after_read F i s) G
  brought_read s = brought_looked F i G k (after_read F i s) (grows_read F i k.shared k.child s) (read_copy s) (ap (λ (y : World plain). y.written) (read_world F i k.shared k.child s) ∙ written_read s (world_at F i))

  pub brought_list : (o : ObjId) → Brought F i G (after_list F i o) G
  brought_list o = brought_looked F i G k (after_list F i o) (grows_list F i k.shared k.child o) (list_copy o) (ap (λ (y : World plain). y.written) (list_world F i k.shared k.child o) ∙ written_list o (world_at F i))

  pub outer_read : (s : Slot) (v : View) → passes (world_at (after_read F i s) i) v ≡ true → (t : Slot) → map.get (outer (world_at (after_read F i s) i) v) t ≡ map.get (outer (world_at F i) v) t
  outer_read s = outer_same F i G k (after_read F i s) (grows_read F i k.shared k.child s) (read_copy s) (ap (λ (y : World plain). y.written) (read_world F i k.shared k.child s) ∙ written_read s (world_at F i))

  pub outer_list : (o : ObjId) (v : View) → passes (world_at (after_list F i o) i) v ≡ true → (t : Slot) → map.get (outer (world_at (after_list F i o) i) v) t ≡ map.get (outer (world_at F i) v) t
  outer_list o = outer_same F i G k (after_list F i o) (grows_list F i k.shared k.child o) (list_copy o) (ap (λ (y : World plain). y.written) (list_world F i k.shared k.child o) ∙ written_list o (world_at F i))

-- What a read, a write and a listing in a session's world leave of the shared worlds.
use Rattle.std.proofs.Common.{◌≡◌, Bool, true, false, cond, not, ◌&&◌, ◌||◌, List, [], ◌∷◌, refl, ap, sym, ◌∙◌, subst, map as each, Option, None, Some, is_some, unwrap_or}
use Rattle.std.specs.Option.{option_map, option_map_or, option_and_then}
use Rattle.std.specs.Ordering.{eq_by_cmp}
use Rattle.std.specs.List.{list_any}
use Rattle.std.specs.FinMap as map
use Rattle.wjs_base.specs.declared.ids.ObjId.{ObjId}
use Rattle.wjs_base.specs.declared.ids.WorldId.{WorldId}
use Rattle.wjs_base.specs.declared.values.Slot.{Slot}
use Rattle.wjs_base.specs.declared.values.Value.{Value}
use Rattle.wjs_base.specs.Order.{slot_cmp, slot_total}
use Rattle.wjs_store.specs.Naming.{plain}
use Rattle.wjs_store.specs.Reached.{IsReached}
use Rattle.wjs_store.specs.Marked.{is_strict}
use Rattle.wjs_store.specs.Shown.{first_of}
use Rattle.wjs_store.specs.Meaning.{View, Worlds}
use Rattle.wjs_store.specs.State.{World, same_world, find_world, has_world, parent_of, content_at, at_world, is_touched, slots_in, read_in, read_all, list_in, write_in, after_read, after_list, after_write}
use Rattle.wjs_store.proofs.Keeps.{reached_read, reached_list}
use Rattle.wjs_store.proofs.MovedMarks.{kept_parts, past_at}
use Rattle.wjs_store.proofs.Writes.{by_one, same_self, get_put, has_at, reached_write}
use Rattle.wjs_store.proofs.Commits.{local_find, inherits_find, find_at_here}
use Rattle.wjs_session.specs.Session.{holding, world_at, first_copy, has_child, outer, passes, owned, around_of}
use Rattle.wjs_session.specs.Kept.{IsChild}
use Rattle.wjs_session.specs.Grown.{Grows}
use Rattle.wjs_session.proofs.Worlds.{found_at, at_found, id_at, content_is, first_each, Above, above, write_leaf}
use Rattle.wjs_session.proofs.Marking.{Stands, Marked, marked_read, marked_list, touched_write, marked_write}
use Rattle.wjs_session.specs.Fills.{each_twice}
use Rattle.wjs_session.specs.Maps.{get_outer}

-- ---- one world is changed, and its number, its parent and whether it is strict stay

module _ (i : WorldId) (f : World plain → World plain) (parts : (y : World plain) → kept_parts (f y) ≡ kept_parts y) where
  ids : (y : World plain) → (f y).id ≡ y.id
  ids y = ap (λ k. k.0) (parts y)

  abbrev at_one : World plain → World plain
  at_one y = cond (same_world y.id i) (f y) y

  parts_one : (y : World plain) → kept_parts (at_one y) ≡ kept_parts y
  parts_one y = by_one (same_world y.id i) (λ (z : World plain). kept_parts z ≡ kept_parts y) (parts y) refl

  -- the surroundings
  abbrev hidden : World plain → World plain
  hidden y = record y { copy = map.empty; first = map.empty; written = map.empty; closed = map.empty }

  hidden_one : (y : World plain) → cond (same_world (at_one y).id i) (hidden (at_one y)) (at_one y) ≡ cond (same_world y.id i) (hidden y) y
  hidden_one y = by (same_world y.id i) refl
    where
      by : (b : Bool) → same_world y.id i ≡ b → cond (same_world (cond b (f y) y).id i) (hidden (cond b (f y) y)) (cond b (f y) y) ≡ cond b (hidden y) y
      by true e =
          ap (λ c. cond c (hidden (f y)) (f y)) (ap (λ j. same_world j i) (ids y) ∙ e)
          ∙ ap (λ (k : WorldId × Option WorldId × Bool). record { id = k.0; parent = k.1; strict = k.2; copy = map.empty; first = map.empty; written = map.empty; closed = map.empty }) (parts y)
      by false e = ap (λ c. cond c (hidden y) y) e

  around_one : (F : Worlds) → around_of (at_world i f F) i ≡ around_of F i
  around_one F = each_twice (λ (y : World plain). cond (same_world y.id i) (hidden y) y) at_one F ∙ (λ k. each (λ (y : World plain). hidden_one y k) F)

  child_one : (F : Worlds) → has_child (at_world i f F) i ≡ has_child F i
  child_one [] = refl
  child_one (y ∷ F) = λ k. option_map_or (λ p. same_world p i) (parts_one y k).1 false || child_one F k

  module _ (F : Worlds) (r : IsReached F) (c : IsChild F i) where
    abbrev x : World plain
    x = world_at F i

    found_one : find_world (at_world i f F) i ≡ Some (f x)
    found_one = find_at_here i f ids F x (found_at F i c.there)

    world_one : world_at (at_world i f F) i ≡ f x
    world_one = at_found (at_world i f F) i (f x) found_one

    -- the first world stays
    first_one : first_of (at_world i f F) ≡ first_of F
    first_one = first_each at_one (λ y. ap (λ k. k.0) (parts_one y)) F

    base_one : first_copy (at_world i f F) ≡ first_copy F
    base_one =
        let a = above F i r c in
        ap (λ o. option_map_or (λ j. (world_at (at_world i f F) j).copy) o map.empty) (first_one ∙ a.first)
        ∙ ap (λ (o : Option (World plain)). (unwrap_or o (holding a.id map.empty)).copy) (past_at i f ids F a.id a.other)
        ∙ sym (ap (λ o. option_map_or (λ j. (world_at F j).copy) o map.empty) a.first)

    child_at : IsChild (at_world i f F) i
    child_at = record {
      there = has_at i f ids F i ∙ c.there;
      up = ap (option_and_then (λ (y : World plain). y.parent)) found_one ∙ ap (λ k. k.1) (parts x) ∙ sym (ap (option_and_then (λ (y : World plain). y.parent)) (found_at F i c.there)) ∙ c.up ∙ sym first_one;
      plain = ap (λ o. option_map_or (λ (y : World plain). y.strict) o false) found_one ∙ ap (λ k. k.2) (parts x) ∙ sym (ap (λ o. option_map_or (λ (y : World plain). y.strict) o false) (found_at F i c.there)) ∙ c.plain;
      leaf = child_one F ∙ c.leaf;
    }

    grows_at : IsReached (at_world i f F) → Marked (first_copy F) x (f x) → Grows F i (at_world i f F)
    grows_at q m = record {
      reached = q;
      child = child_at;
      touches = λ s h. ap (λ (y : World plain). is_touched y s) world_one ∙ m.touches s h;
      narrows = λ v h. m.narrows v (sym (ap (λ y. passes y v) world_one) ∙ h);
      own = (λ k. owned (world_one k) (base_one k)) ∙ m.own;
      around = around_one F;
    }

-- ---- the session's world stands over the first

pub stands_at : (F : Worlds) (i : WorldId) → IsReached F → IsChild F i → Stands (first_copy F) (world_at F i)
stands_at F i r c =
    let a = above F i r c in
    let found = found_at F i c.there in
    record {
      local = local_find F i (world_at F i) r found;
      inherits = λ s u. inherits_find F i a.id (world_at F i) s r found a.up u ∙ content_is F a.id s ∙ sym (ap (λ o. map.get (option_map_or (λ j. (world_at F j).copy) o map.empty) s) a.first);
      child = ap is_some a.up;
      plain = sym (ap (λ o. option_map_or (λ (y : World plain). y.strict) o false) found) ∙ c.plain;
    }

-- ---- number, parent and strictness stay

parts_read : (s : Slot) (y : World plain) → kept_parts (read_in s y) ≡ kept_parts y
parts_read s y = by_one (is_some y.parent && not (is_touched y s)) (λ (z : World plain). kept_parts z ≡ kept_parts y) refl refl

parts_read_all : (ss : List Slot) (y : World plain) → kept_parts (read_all ss y) ≡ kept_parts y
parts_read_all [] y = refl
parts_read_all (s ∷ ss) y = parts_read_all ss (read_in s y) ∙ parts_read s y

parts_list : (o : ObjId) (y : World plain) → kept_parts (list_in o y) ≡ kept_parts y
parts_list o y =
    let z = read_all (slots_in o y) y in
    by_one (is_some z.parent) (λ (v : World plain). kept_parts v ≡ kept_parts z) refl refl ∙ parts_read_all (slots_in o y) y

parts_write : (s : Slot) (c : Option Value) (y : World plain) → kept_parts (write_in s c y) ≡ kept_parts y
parts_write s c y = refl

-- ---- the three calls

module _ (F : Worlds) (i : WorldId) (r : IsReached F) (c : IsChild F i) where
  pub read_world : (s : Slot) → world_at (after_read F i s) i ≡ read_in s (world_at F i)
  unfolding after_read
  read_world s = world_one i (read_in s) (parts_read s) F r c

  pub list_world : (o : ObjId) → world_at (after_list F i o) i ≡ list_in o (world_at F i)
  unfolding after_list
  list_world o = world_one i (list_in o) (parts_list o) F r c

  pub write_world : (s : Slot) (d : Option Value) → world_at (after_write F i s d) i ≡ write_in s d (world_at F i)
  write_world s d = ap (λ G. world_at G i) (write_leaf F i s d c.leaf) ∙ world_one i (write_in s d) (parts_write s d) F r c

  pub write_touched : (s : Slot) (d : Option Value) (t : Slot) → is_touched (world_at (after_write F i s d) i) t ≡ (eq_by_cmp slot_cmp t s || is_touched (world_at F i) t)
  write_touched s d t = ap (λ (y : World plain). is_touched y t) (write_world s d) ∙ touched_write (first_copy F) (world_at F i) (stands_at F i r c) s d t

  pub write_copy : (s : Slot) (d : Option Value) (t : Slot) → map.get (world_at (after_write F i s d) i).copy t ≡ cond (eq_by_cmp slot_cmp t s) d (map.get (world_at F i).copy t)
  write_copy s d t = ap (λ (y : World plain). map.get y.copy t) (write_world s d) ∙ get_put slot_total (world_at F i).copy s d t

  -- what it holds then under a view
  pub write_outer : (s : Slot) (d : Option Value) (v : View) (t : Slot) → map.get (outer (world_at (after_write F i s d) i) v) t ≡ cond (eq_by_cmp slot_cmp t s) d (map.get (outer (world_at F i) v) t)
  write_outer s d v t =
      get_outer (world_at (after_write F i s d) i) v t
      ∙ (λ j. cond (write_touched s d t j) (write_copy s d t j) (map.get v t))
      ∙ by (eq_by_cmp slot_cmp t s)
      ∙ ap (cond (eq_by_cmp slot_cmp t s) d) (sym (get_outer (world_at F i) v t))
    where
      by : (b : Bool) → cond (b || is_touched (world_at F i) t) (cond b d (map.get (world_at F i).copy t)) (map.get v t) ≡ cond b d (cond (is_touched (world_at F i) t) (map.get (world_at F i).copy t) (map.get v t))
      by true = refl
      by false = refl

  pub grows_read : (s : Slot) → Grows F i (after_read F i s)
  unfolding after_read
  grows_read s = grows_at i (read_in s) (parts_read s) F r c (reached_read_at s) (marked_read (first_copy F) (world_at F i) (stands_at F i r c) s)
    where
      reached_read_at : (s : Slot) → IsReached (at_world i (read_in s) F)
      reached_read_at s = reached_read F i s r

  pub grows_list : (o : ObjId) → Grows F i (after_list F i o)
  unfolding after_list
  grows_list o = grows_at i (list_in o) (parts_list o) F r c (reached_list_at o) (marked_list (first_copy F) (world_at F i) o (stands_at F i r c))
    where
      reached_list_at : (o : ObjId) → IsReached (at_world i (list_in o) F)
      reached_list_at o = reached_list F i o r

  pub grows_write : (s : Slot) (d : Option Value) → Grows F i (after_write F i s d)
  grows_write s d =
      let alone = write_leaf F i s d c.leaf in
      subst (Grows F i) (sym alone)
      (grows_at i (write_in s d) (parts_write s d) F r c (subst IsReached alone (reached_write F i s d r)) (marked_write (first_copy F) (world_at F i) (stands_at F i r c) s d))

pub grows_same : (F : Worlds) (i : WorldId) → IsReached F → IsChild F i → Grows F i F
grows_same F i r c = record { reached = r; child = c; touches = λ s h. h; narrows = λ v h. h; own = refl; around = refl }

pub grows_then : (F G H : Worlds) (i : WorldId) → Grows F i G → Grows G i H → Grows F i H
grows_then F G H i a b = record {
  reached = b.reached;
  child = b.child;
  touches = λ s h. b.touches s (a.touches s h);
  narrows = λ v h. a.narrows v (b.narrows v h);
  own = b.own ∙ a.own;
  around = b.around ∙ a.around;
}

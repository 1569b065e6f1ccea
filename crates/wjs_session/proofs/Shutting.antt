-- Slots that no world holds or has touched stay so, where the machine acts on others.
use Rattle.std.proofs.Common.{◌≡◌, Bool, true, false, cond, not, ◌&&◌, ◌||◌, ℕ, List, [], ◌∷◌, refl, ap, sym, ◌∙◌, fold, filter, map as each, Option, None, Some, is_some}
use Rattle.std.specs.Option.{option_map_or}
use Rattle.std.specs.Ordering.{eq_by_cmp, is_eq}
use Rattle.std.specs.declared.cmp.Ordering.{Ordering}
use Rattle.std.specs.Cmp.{IsTotalOrder, tied_itself}
use Rattle.std.specs.List.{AllByRecursion, list_any}
use Rattle.std.specs.FinMap as map
use Rattle.std.specs.FinMap.{FinMap}
use Rattle.std.proofs.lemmas.Bool.{true≢false, false≢true, or_left, or_right, true_from_ne_false, or_parts}
use Rattle.wjs_base.specs.declared.ids.ObjId.{ObjId}
use Rattle.wjs_base.specs.declared.ids.WorldId.{WorldId}
use Rattle.wjs_base.specs.declared.values.Slot.{Slot}
use Rattle.wjs_base.specs.declared.values.Value.{Value}
use Rattle.wjs_base.specs.Order.{slot_cmp, slot_total, slot_exact, obj_cmp, obj_total, obj_exact}
use Rattle.wjs_base.proofs.Booleans.{by_bool}
use Rattle.wjs_store.specs.Naming.{plain}
use Rattle.wjs_store.specs.Meaning.{Worlds}
use Rattle.wjs_store.specs.State.{World, same_world, find_world, has_row, is_touched, is_below, put, read_in, read_all, close_in, list_in, slots_in, write_in, write_at, at_world, after_read, after_list, after_write, next_id, child_of, after_sprout}
use Rattle.wjs_store.proofs.Marks.{contains_insert, key_is}
use Rattle.wjs_store.proofs.Writes.{get_put}
use Rattle.wjs_session.specs.Kept.{IsShut}
use Rattle.wjs_session.proofs.Worlds.{all_each, all_find}

-- ---- keys

over_keys : {K : Type 0} (R : K → K → Ordering) → IsTotalOrder R → (P : K → Type 0) (ks : List K) → ((k : K) → list_any (eq_by_cmp R k) ks ≡ true → P k) → AllByRecursion P ks
over_keys R total P [] f = tt
over_keys R total P (k ∷ ks) f = (
  f k (or_left (eq_by_cmp R k k) (list_any (eq_by_cmp R k) ks) (ap is_eq (tied_itself total k))),
  over_keys R total P ks (λ j e. f j (or_right (eq_by_cmp R j k) (list_any (eq_by_cmp R j) ks) e)),
)

-- P holds of each key where it holds of those that are there
pub all_keys : {K X : Type 0} {R : K → K → Ordering} → IsTotalOrder R → (P : K → Type 0) (m : FinMap R X) → ((k : K) → map.contains_key m k ≡ true → P k) → AllByRecursion P (map.keys m)
all_keys {R = R} total P m h = over_keys R total P (map.keys m) (λ k e. h k (map.contains_key-keys m k ∙ e))

module _ (w : Slot → Bool) where
  -- a slot that doesn't pass is none that does
  other_slot : (s t : Slot) → w s ≡ true → w t ≡ false → eq_by_cmp slot_cmp t s ≡ false
  other_slot s t h e = by_bool (eq_by_cmp slot_cmp t s) (λ q. absurd (true≢false (sym h ∙ ap w (sym (key_is slot_exact t s q)) ∙ e))) (λ q. q)

  held_passes : (y : World plain) (s : Slot) → IsShut w y → map.contains_key y.copy s ≡ true → w s ≡ true
  held_passes y s h t = true_from_ne_false (w s) (λ e. true≢false (sym t ∙ ap is_some (h.absent s e)))

  pub shut_cond : (b : Bool) (y z : World plain) → IsShut w y → IsShut w z → IsShut w (cond b z y)
  shut_cond true y z p q = q
  shut_cond false y z p q = p

  -- ---- read

  pub shut_first : (y : World plain) (s : Slot) (c : Option Value) → w s ≡ true → IsShut w y → IsShut w (record y { first = map.insert y.first s c })
  shut_first y s c h p = record {
    absent = p.absent;
    untouched = λ t e.
        ap (λ b. (b || map.contains_key y.written t) || map.contains_key y.closed t.object) (contains_insert slot_total y.first s c t ∙ ap (λ b. b || map.contains_key y.first t) (other_slot s t h e))
        ∙ p.untouched t e;
  }

  shut_read : (s : Slot) → w s ≡ true → (y : World plain) → IsShut w y → IsShut w (read_in s y)
  shut_read s h y p = shut_cond (is_some y.parent && not (is_touched y s)) y (record y { first = map.insert y.first s (map.get y.copy s) }) p (shut_first y s (map.get y.copy s) h p)

  pub shut_at : (d : WorldId) (f : World plain → World plain) → ((y : World plain) → IsShut w y → IsShut w (f y)) → (G : Worlds) → AllByRecursion (IsShut w) G → AllByRecursion (IsShut w) (at_world d f G)
  shut_at d f h G p = all_each (IsShut w) (IsShut w) (λ (y : World plain). cond (same_world y.id d) (f y) y) (λ y q. shut_cond (same_world y.id d) y (f y) q (h y q)) G p

  pub shut_after_read : (G : Worlds) (d : WorldId) (s : Slot) → w s ≡ true → AllByRecursion (IsShut w) G → AllByRecursion (IsShut w) (after_read G d s)
  unfolding after_read
  shut_after_read G d s h p = shut_at d (read_in s) (shut_read s h) G p

  -- ---- write

  absent_put : (y : World plain) (s : Slot) (c : Option Value) → w s ≡ true → IsShut w y → (t : Slot) → w t ≡ false → map.get (put y.copy s c) t ≡ None
  absent_put y s c h p t e = get_put slot_total y.copy s c t ∙ ap (λ b. cond b c (map.get y.copy t)) (other_slot s t h e) ∙ p.absent t e

  shut_put : (s : Slot) (c : Option Value) → w s ≡ true → (y : World plain) → IsShut w y → IsShut w (record y { copy = put y.copy s c })
  shut_put s c h y p = record { absent = absent_put y s c h p; untouched = p.untouched }

  shut_write : (s : Slot) (c : Option Value) → w s ≡ true → (y : World plain) → IsShut w y → IsShut w (write_in s c y)
  shut_write s c h y p = record {
    absent = absent_put y s c h p;
    untouched = λ t e. (λ k. (first (is_some y.parent && (not (has_row y s) && (map.contains_key y.closed s.object || y.strict))) t (other_slot s t h e) k || written (is_some y.parent) t (other_slot s t h e) k) || map.contains_key y.closed t.object) ∙ p.untouched t e;
  }
    where
      first : (b : Bool) (t : Slot) → eq_by_cmp slot_cmp t s ≡ false → map.contains_key (cond b (map.insert y.first s (map.get y.copy s)) y.first) t ≡ map.contains_key y.first t
      first true t q = contains_insert slot_total y.first s (map.get y.copy s) t ∙ ap (λ b. b || map.contains_key y.first t) q
      first false t q = refl

      written : (b : Bool) (t : Slot) → eq_by_cmp slot_cmp t s ≡ false → map.contains_key (cond b (map.insert y.written s tt) y.written) t ≡ map.contains_key y.written t
      written true t q = contains_insert slot_total y.written s tt t ∙ ap (λ b. b || map.contains_key y.written t) q
      written false t q = refl

  pub shut_after_write : (G : Worlds) (d : WorldId) (s : Slot) (c : Option Value) → w s ≡ true → AllByRecursion (IsShut w) G → AllByRecursion (IsShut w) (after_write G d s c)
  unfolding after_write
  shut_after_write G d s c h p = all_each (IsShut w) (IsShut w) (write_at G d s c) (λ y q.
      shut_cond (same_world y.id d) (cond (is_below d s G y.id) (record y { copy = put y.copy s c }) y) (write_in s c y)
      (shut_cond (is_below d s G y.id) y (record y { copy = put y.copy s c }) q (shut_put s c h y q))
      (shut_write s c h y q)) G p

  -- ---- list

  shut_read_all : (ss : List Slot) → AllByRecursion (λ (s : Slot). w s ≡ true) ss → (y : World plain) → IsShut w y → IsShut w (read_all ss y)
  shut_read_all [] a y p = p
  shut_read_all (s ∷ ss) a y p = shut_read_all ss a.1 (read_in s y) (shut_read s a.0 y p)

  pub shut_closed : (q : ObjId) → ((s : Slot) → s.object ≡ q → w s ≡ true) → (y : World plain) → IsShut w y → IsShut w (record y { closed = map.insert y.closed q tt })
  shut_closed q on y p = record {
    absent = p.absent;
    untouched = λ t e.
        ap (λ b. has_row y t || b) (contains_insert obj_total y.closed q tt t.object ∙ ap (λ b. b || map.contains_key y.closed t.object) (by_bool (eq_by_cmp obj_cmp t.object q) (λ z. absurd (true≢false (sym (on t (key_is obj_exact t.object q z)) ∙ e))) (λ z. z)))
        ∙ p.untouched t e;
  }

  all_filter : (p : Slot → Bool) (ks : List Slot) → AllByRecursion (λ (s : Slot). w s ≡ true) ks → AllByRecursion (λ (s : Slot). w s ≡ true) (filter p ks)
  all_filter p [] a = tt
  all_filter p (k ∷ ks) a = by (p k) (all_filter p ks a.1)
    where
      by : (b : Bool) → AllByRecursion (λ (s : Slot). w s ≡ true) (filter p ks) → AllByRecursion (λ (s : Slot). w s ≡ true) (cond b (k ∷ filter p ks) (filter p ks))
      by true r = (a.0, r)
      by false r = r

  shut_list : (q : ObjId) → ((s : Slot) → s.object ≡ q → w s ≡ true) → (y : World plain) → IsShut w y → IsShut w (list_in q y)
  shut_list q on y p =
      let z = read_all (slots_in q y) y in
      let held : AllByRecursion (λ (s : Slot). w s ≡ true) (map.keys y.copy) = all_keys slot_total (λ (s : Slot). w s ≡ true) y.copy (λ k e. held_passes y k p e) in
      let r = shut_read_all (slots_in q y) (all_filter _ (map.keys y.copy) held) y p in
      shut_cond (is_some z.parent) z (record z { closed = map.insert z.closed q tt }) r (shut_closed q on z r)

  pub shut_after_list : (G : Worlds) (d : WorldId) (q : ObjId) → ((s : Slot) → s.object ≡ q → w s ≡ true) → AllByRecursion (IsShut w) G → AllByRecursion (IsShut w) (after_list G d q)
  unfolding after_list
  shut_after_list G d q on p = shut_at d (list_in q) (shut_list q on) G p

  -- ---- sprout

  -- a world without marks
  pub shut_bare : (y : World plain) → IsShut w y → IsShut w (record y { first = map.empty; written = map.empty; closed = map.empty })
  shut_bare y p = record {
    absent = p.absent;
    untouched = λ t e. λ k. (is_some (map.get-empty {X = Option Value} slot_cmp t k) || is_some (map.get-empty {X = Unit {0}} slot_cmp t k)) || is_some (map.get-empty {X = Unit {0}} obj_cmp t.object k);
  }

  pub shut_after_sprout : (G : Worlds) (d : WorldId) (owner : ℕ) (strict : Bool) → AllByRecursion (IsShut w) G → AllByRecursion (IsShut w) (after_sprout G d owner strict)
  unfolding after_sprout
  shut_after_sprout G d owner strict p = by (find_world G d) refl
    where
      by : (r : Option (World plain)) → find_world G d ≡ r → AllByRecursion (IsShut w) (option_map_or (λ (x : World plain). child_of x (next_id G owner) strict ∷ G) r G)
      by None e = p
      by (Some y) e = (born y (all_find (IsShut w) G d y p e), p)
        where
          born : (y : World plain) → IsShut w y → IsShut w (child_of y (next_id G owner) strict)
          born y q = let b = shut_bare y q in record { absent = b.absent; untouched = b.untouched }

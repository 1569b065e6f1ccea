-- Contents put from outside into every world, and the machine's actions elsewhere: the two commute.
use Rattle.std.proofs.Common.{◌≡◌, Bool, true, false, cond, not, ◌&&◌, ◌||◌, ℕ, List, [], ◌∷◌, ◌++◌, refl, ap, sym, ◌∙◌, subst, fold, filter, map as each, Option, None, Some, is_some}
use Rattle.std.specs.Option.{option_map, option_map_or, option_and_then, is_none}
use Rattle.std.specs.Ordering.{eq_by_cmp, is_eq}
use Rattle.std.specs.declared.cmp.Ordering.{Ordering}
use Rattle.std.specs.Cmp.{IsTotalOrder, tied_itself}
use Rattle.std.specs.List.{AllByRecursion, list_any}
use Rattle.std.specs.FinMap as map
use Rattle.std.specs.FinMap.{FinMap}
use Rattle.std.proofs.lemmas.Bool.{true≢false, false≢true, or_left, or_right, or_parts}
use Rattle.wjs_base.specs.declared.ids.ObjId.{ObjId}
use Rattle.wjs_base.specs.declared.ids.WorldId.{WorldId}
use Rattle.wjs_base.specs.declared.values.Slot.{Slot}
use Rattle.wjs_base.specs.declared.values.Value.{Value}
use Rattle.wjs_base.specs.Order.{slot_cmp, slot_total, slot_exact, obj_cmp, obj_total}
use Rattle.wjs_base.specs.Same.{object_Decides}
use Rattle.wjs_base.proofs.Booleans.{by_bool}
use Rattle.wjs_store.specs.Naming.{plain}
use Rattle.wjs_store.specs.Meaning.{View, Worlds}
use Rattle.wjs_store.specs.State.{World, same_world, find_world, has_world, content_at, same_object, has_row, is_touched, is_below, put, read_in, read_all, close_in, list_in, slots_in, slots_at, write_in, write_at, after_read, after_list, after_write, count_of, next_id, child_of, after_sprout}
use Rattle.wjs_store.proofs.States.{find_each, has_each, count_each, length_each, content_each}
use Rattle.wjs_store.proofs.Marks.{key_is}
use Rattle.wjs_store.proofs.Writes.{get_put}
use Rattle.wjs_store.proofs.Ascending.{same_listed}
use Rattle.wjs_session.specs.Filled.{filled}
use Rattle.wjs_session.specs.Maps.{get_filled, same_view}
use Rattle.wjs_session.specs.Fills.{each_twice, fill, fill_cond, get_fill, find_fill}

module _ (w : Slot → Bool) (o : View) where
  -- a change of the world d alone
  pub fill_at : (d : WorldId) (f : World plain → World plain) → ((y : World plain) → f (fill w o y) ≡ fill w o (f y)) → (G : Worlds) → each (λ (y : World plain). cond (same_world y.id d) (f y) y) (each (fill w o) G) ≡ each (fill w o) (each (λ (y : World plain). cond (same_world y.id d) (f y) y) G)
  fill_at d f e G =
      each_twice (λ (y : World plain). cond (same_world y.id d) (f y) y) (fill w o) G
      ∙ (λ k. each (λ (y : World plain). fill_cond w o (same_world y.id d) (f (fill w o y)) (f y) y (e y) k) G)
      ∙ sym (each_twice (fill w o) (λ (y : World plain). cond (same_world y.id d) (f y) y) G)

  -- ---- read

  fill_read : (s : Slot) → w s ≡ true → (y : World plain) → read_in s (fill w o y) ≡ fill w o (read_in s y)
  fill_read s h y = fill_cond w o (is_some y.parent && not (is_touched y s)) (record (fill w o y) { first = map.insert y.first s (map.get (fill w o y).copy s) }) (record y { first = map.insert y.first s (map.get y.copy s) }) y
      (ap (λ c. record (fill w o y) { first = map.insert y.first s c }) (get_fill w o y s h))

  pub filled_read : (G : Worlds) (d : WorldId) (s : Slot) → w s ≡ true → after_read (each (fill w o) G) d s ≡ each (fill w o) (after_read G d s)
  unfolding after_read
  filled_read G d s h = fill_at d (read_in s) (fill_read s h) G

  -- ---- write

  below_fill : (d : WorldId) (s : Slot) (G : Worlds) (j : WorldId) → is_below d s (each (fill w o) G) j ≡ is_below d s G j
  unfolding is_below
  below_fill d s [] j = refl
  below_fill d s (y ∷ G) j = λ k. cond (same_world y.id j) (not (is_touched y s) && option_map_or (λ p. same_world p d || below_fill d s G p k) y.parent false) (below_fill d s G j k)

  put_filled : (m : View) (s : Slot) (c : Option Value) → w s ≡ true → put (filled w m o) s c ≡ filled w (put m s c) o
  put_filled m s c h = same_view (put (filled w m o) s c) (filled w (put m s c) o) (λ t.
      get_put slot_total (filled w m o) s c t
      ∙ ap (cond (eq_by_cmp slot_cmp t s) c) (get_filled w m o t)
      ∙ by_bool (eq_by_cmp slot_cmp t s)
      (λ q.
      let is : w t ≡ true = ap w (key_is slot_exact t s q) ∙ h in
      ap (λ b. cond b c (cond (w t) (map.get m t) (map.get o t))) q
      ∙ sym (ap (λ b. cond b (map.get (put m s c) t) (map.get o t)) is ∙ get_put slot_total m s c t ∙ ap (λ b. cond b c (map.get m t)) q))
      (λ q.
      ap (λ b. cond b c (cond (w t) (map.get m t) (map.get o t))) q
      ∙ ap (λ k. cond (w t) k (map.get o t)) (sym (get_put slot_total m s c t ∙ ap (λ b. cond b c (map.get m t)) q)))
      ∙ sym (get_filled w (put m s c) o t))

  -- the content is put in the copy alone
  fill_put : (s : Slot) (c : Option Value) → w s ≡ true → (y : World plain) → record (fill w o y) { copy = put (fill w o y).copy s c } ≡ fill w o (record y { copy = put y.copy s c })
  fill_put s c h y = ap (λ m. record (fill w o y) { copy = m }) (put_filled y.copy s c h)

  fill_write : (s : Slot) (c : Option Value) → w s ≡ true → (y : World plain) → write_in s c (fill w o y) ≡ fill w o (write_in s c y)
  fill_write s c h y = λ k. record (write_in s c y) {
    copy = put_filled y.copy s c h k;
    first = cond (is_some y.parent && (not (has_row y s) && (map.contains_key y.closed s.object || y.strict))) (map.insert y.first s (get_fill w o y s h k)) y.first;
  }

  pub filled_write : (G : Worlds) (d : WorldId) (s : Slot) (c : Option Value) → w s ≡ true → after_write (each (fill w o) G) d s c ≡ each (fill w o) (after_write G d s c)
  unfolding after_write
  filled_write G d s c h =
      each_twice (write_at (each (fill w o) G) d s c) (fill w o) G
      ∙ (λ k. each (λ (y : World plain). one y k) G)
      ∙ sym (each_twice (fill w o) (write_at G d s c) G)
    where
      one : (y : World plain) → write_at (each (fill w o) G) d s c (fill w o y) ≡ fill w o (write_at G d s c y)
      one y =
          ap (λ b. cond (same_world y.id d) (write_in s c (fill w o y)) (cond b (record (fill w o y) { copy = put (fill w o y).copy s c }) (fill w o y))) (below_fill d s G y.id)
          ∙ by (same_world y.id d) (is_below d s G y.id)
        where
          by : (a b : Bool) → cond a (write_in s c (fill w o y)) (cond b (record (fill w o y) { copy = put (fill w o y).copy s c }) (fill w o y)) ≡ fill w o (cond a (write_in s c y) (cond b (record y { copy = put y.copy s c }) y))
          by true b = fill_write s c h y
          by false true = fill_put s c h y
          by false false = refl

  -- ---- list

  module _ (q : ObjId) (on : (s : Slot) → s.object ≡ q → w s ≡ true) where
    slots_fill : (y : World plain) → slots_in q (fill w o y) ≡ slots_in q y
    slots_fill y = same_listed slot_total slot_exact (λ (s : Slot). same_object s.object q) (filled w y.copy o) y.copy (λ t e. ap is_some (get_fill w o y t (on t ((object_Decides t.object q).0 e))))

    pub slots_filled : (G : Worlds) (d : WorldId) → slots_at (each (fill w o) G) d q ≡ slots_at G d q
    slots_filled G d = ap (λ r. option_map_or (slots_in q) r []) (find_fill w o G d) ∙ by (find_world G d)
      where
        by : (r : Option (World plain)) → option_map_or (slots_in q) (option_map (fill w o) r) [] ≡ option_map_or (slots_in q) r []
        by None = refl
        by (Some y) = slots_fill y

    read_all_fill : (ss : List Slot) → AllByRecursion (λ (s : Slot). w s ≡ true) ss → (y : World plain) → read_all ss (fill w o y) ≡ fill w o (read_all ss y)
    read_all_fill [] p y = refl
    read_all_fill (s ∷ ss) p y = ap (read_all ss) (fill_read s p.0 y) ∙ read_all_fill ss p.1 (read_in s y)

    on_object : (ks : List Slot) → AllByRecursion (λ (s : Slot). w s ≡ true) (filter (λ (s : Slot). same_object s.object q) ks)
    on_object [] = tt
    on_object (k ∷ ks) = by (same_object k.object q) refl (on_object ks)
      where
        by : (b : Bool) → same_object k.object q ≡ b → AllByRecursion (λ (s : Slot). w s ≡ true) (filter (λ (s : Slot). same_object s.object q) ks) → AllByRecursion (λ (s : Slot). w s ≡ true) (cond b (k ∷ filter (λ (s : Slot). same_object s.object q) ks) (filter (λ (s : Slot). same_object s.object q) ks))
        by true e r = (on k ((object_Decides k.object q).0 e), r)
        by false e r = r

    fill_list : (y : World plain) → list_in q (fill w o y) ≡ fill w o (list_in q y)
    fill_list y =
        ap (λ ss. close_in q (read_all ss (fill w o y))) (slots_fill y)
        ∙ ap (close_in q) (read_all_fill (slots_in q y) (on_object (map.keys y.copy)) y)
        ∙ fill_cond w o (is_some (read_all (slots_in q y) y).parent) (record (fill w o (read_all (slots_in q y) y)) { closed = map.insert (read_all (slots_in q y) y).closed q tt }) (record (read_all (slots_in q y) y) { closed = map.insert (read_all (slots_in q y) y).closed q tt }) (read_all (slots_in q y) y) refl

    pub filled_list : (G : Worlds) (d : WorldId) → after_list (each (fill w o) G) d q ≡ each (fill w o) (after_list G d q)
    unfolding after_list
    filled_list G d = fill_at d (list_in q) fill_list G

  -- ---- sprout

  pub next_fill : (G : Worlds) (owner : ℕ) → next_id (each (fill w o) G) owner ≡ next_id G owner
  next_fill G owner = ap (λ m. record { owner = owner; serial = m }) (count_each (fill w o) (λ y. refl) owner G)

  pub filled_sprout : (G : Worlds) (d : WorldId) (owner : ℕ) (strict : Bool) → after_sprout (each (fill w o) G) d owner strict ≡ each (fill w o) (after_sprout G d owner strict)
  unfolding after_sprout
  filled_sprout G d owner strict =
      ap (λ r. option_map_or (λ (x : World plain). child_of x (next_id (each (fill w o) G) owner) strict ∷ each (fill w o) G) r (each (fill w o) G)) (find_fill w o G d)
      ∙ ap (λ n. option_map_or (λ (x : World plain). child_of x n strict ∷ each (fill w o) G) (option_map (fill w o) (find_world G d)) (each (fill w o) G)) (next_fill G owner)
      ∙ by (find_world G d)
    where
      by : (r : Option (World plain)) → option_map_or (λ (x : World plain). child_of x (next_id G owner) strict ∷ each (fill w o) G) (option_map (fill w o) r) (each (fill w o) G) ≡ each (fill w o) (option_map_or (λ (x : World plain). child_of x (next_id G owner) strict ∷ G) r G)
      by None = refl
      by (Some y) = refl

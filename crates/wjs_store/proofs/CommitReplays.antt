-- The history of a parent after a commit: its own, and then the child's.
use Rattle.std.proofs.Common.{◌≡◌, Bool, true, false, cond, ◌||◌, List, [], ◌∷◌, ◌++◌, refl, ap, sym, ◌∙◌, subst, Option, Some, is_some}
use Rattle.std.specs.Ordering.{eq_by_cmp}
use Rattle.std.specs.List.{list_any}
use Rattle.std.specs.FinMap as map
use Rattle.std.specs.FinMap.{FinMap}
use Rattle.std.proofs.lemmas.Bool.{or_right, or_left, or_parts}
use Rattle.wjs_base.specs.declared.ids.ObjId.{ObjId}
use Rattle.wjs_base.specs.Order.{obj_cmp, obj_total}
use Rattle.wjs_base.proofs.Booleans.{by_bool}
use Rattle.wjs_store.specs.Naming.{Naming}
use Rattle.wjs_store.specs.State.{World, State, Reply, find_world, is_touched, has_row, write_in, hand_entries, hand_objects, moves, reads_of, fails}
use Rattle.wjs_store.specs.Reached.{IsReached}
use Rattle.wjs_store.proofs.Marks.{Local, contains_insert, stays_touched}
use Rattle.wjs_store.proofs.Writes.{by_one, local_write}
use Rattle.wjs_store.proofs.Commits.{pairs, writes_on, hand_one, hand_on, close_on, parent_on, entries_parents, objects_parents, agree_read, agree_closed, local_find, marks1, marks3, state2, reached2, fy2, copy2, new1}
use Rattle.wjs_store.proofs.Replays.{Entry, Answered, ends, ends-append, Answered-append, Meets, Holds, seen, meets_one, meets_closed, meets_write}

or_moved : (a e w : Bool) → (a || (e || w)) ≡ ((e || a) || w)
or_moved true true w = refl
or_moved true false w = refl
or_moved false true w = refl
or_moved false false w = refl

row_touched : {K V : Type 0} {n : Naming K V} (x : World n) (s : K) → has_row x s ≡ true → is_touched x s ≡ true
row_touched {n = n} x s h = or_left (has_row x s) (map.contains_key x.closed (n.object s)) h

module _ {K V : Type 0} {n : Naming K V} where
  pub hand_on_written : (es : List (K × Option V)) (z : World n) → (hand_on es z).written ≡ z.written
  hand_on_written [] z = refl
  hand_on_written (e ∷ es) z = hand_on_written es (hand_one z e) ∙ by_one (is_touched z e.0) (λ (v : World n). v.written ≡ z.written) refl refl

  hand_written : (es : List (K × Option V)) (z : World n) → (hand_entries es z).written ≡ z.written
  hand_written es z = by_one (is_some z.parent) (λ (v : World n). v.written ≡ z.written) (hand_on_written es z) refl

  written_on : (v : K → Option V) (ks : List K) (z : World n) (t : K) → is_some z.parent ≡ true → map.contains_key (writes_on (pairs v ks) z).written t ≡ (list_any (eq_by_cmp n.cmp t) ks || map.contains_key z.written t)
  written_on v [] z t p = refl
  written_on v (s ∷ ks) z t p =
      written_on v ks (write_in s (v s) z) t p
      ∙ ap (λ b. list_any (eq_by_cmp n.cmp t) ks || b) (ap (λ b. map.contains_key (cond b (map.insert z.written s tt) z.written) t) p ∙ contains_insert n.total z.written s tt t)
      ∙ or_moved (list_any (eq_by_cmp n.cmp t) ks) (eq_by_cmp n.cmp t s) (map.contains_key z.written t)

  close_on_written : (os : List ObjId) (z : World n) → (close_on os z).written ≡ z.written
  close_on_written [] z = refl
  close_on_written (o ∷ os) z = close_on_written os (record z { closed = map.insert z.closed o tt })

  objects_written : (os : List ObjId) (z : World n) → (hand_objects os z).written ≡ z.written
  objects_written os z = by_one (is_some z.parent) (λ (v : World n). v.written ≡ z.written) (close_on_written os z) refl

  pub close_on_closed : (os : List ObjId) (z : World n) (o : ObjId) → map.contains_key (close_on os z).closed o ≡ (list_any (eq_by_cmp obj_cmp o) os || map.contains_key z.closed o)
  close_on_closed [] z o = refl
  close_on_closed (a ∷ os) z o =
      close_on_closed os (record z { closed = map.insert z.closed a tt }) o
      ∙ ap (λ b. list_any (eq_by_cmp obj_cmp o) os || b) (contains_insert obj_total z.closed a tt o)
      ∙ or_moved (list_any (eq_by_cmp obj_cmp o) os) (eq_by_cmp obj_cmp o a) (map.contains_key z.closed o)

  objects_closed : (os : List ObjId) (z : World n) (o : ObjId) → is_some z.parent ≡ true → list_any (eq_by_cmp obj_cmp o) os ≡ true → map.contains_key (hand_objects os z).closed o ≡ true
  objects_closed os z o p h = ap (λ b. map.contains_key (cond b (close_on os z) z).closed o) p ∙ close_on_closed os z o ∙ or_left (list_any (eq_by_cmp obj_cmp o) os) (map.contains_key z.closed o) h

module _ {K V A : Type 0} (n : Naming K V) (shown : Reply K V → A) where
  meets_hand : (es : List (K × Option V)) (z : World n) (m : FinMap n.cmp V) → Meets n shown (hand_on es z) m → Meets n shown z m
  meets_hand [] z m h = h
  meets_hand (e ∷ es) z m h = meets_one n shown (is_touched z e.0) z e.0 e.1 m refl (meets_hand es (hand_one z e) m h)

  meets_entries : (es : List (K × Option V)) (z : World n) (m : FinMap n.cmp V) → Meets n shown (hand_entries es z) m → Meets n shown z m
  meets_entries es z m h = by (is_some z.parent) h
    where
      by : (b : Bool) → Meets n shown (cond b (hand_on es z) z) m → Meets n shown z m
      by true h = meets_hand es z m h
      by false h = h

  meets_writes : (es : List (K × Option V)) (z : World n) (m : FinMap n.cmp V) → is_some z.parent ≡ true → Local z → Meets n shown (writes_on es z) m → Meets n shown z m
  meets_writes [] z m p l h = h
  meets_writes (e ∷ es) z m p l h = meets_write n shown z e.0 e.1 m p l (meets_writes es (write_in e.0 e.1 z) m p (local_write e.0 e.1 z l) h)

  meets_closes : (os : List ObjId) (z : World n) (m : FinMap n.cmp V) → Meets n shown (close_on os z) m → Meets n shown z m
  meets_closes [] z m h = h
  meets_closes (o ∷ os) z m h = meets_closed n shown z o m (meets_closes os (record z { closed = map.insert z.closed o tt }) m h)

  meets_objects : (os : List ObjId) (z : World n) (m : FinMap n.cmp V) → Meets n shown (hand_objects os z) m → Meets n shown z m
  meets_objects os z m h = by (is_some z.parent) h
    where
      by : (b : Bool) → Meets n shown (cond b (close_on os z) z) m → Meets n shown z m
      by true h = meets_closes os z m h
      by false h = h

  -- ---- a commit of x into y that passes

  module _ (F : State n) (x y : World n) (h : IsReached F) (fx : find_world F x.id ≡ Some x) (up : x.parent ≡ Some y.id) (fy : find_world F y.id ≡ Some y) (ok : (t : K) → fails x y t ≡ false) where
    abbrev handed : World n
    handed = hand_entries (reads_of x) y

    abbrev wrote_on : World n
    wrote_on = writes_on (moves x) (hand_entries (reads_of x) y)

    -- the parent, once all is handed up
    abbrev pub settled : World n
    settled = hand_objects (map.keys x.closed) (writes_on (moves x) (hand_entries (reads_of x) y))

    settled_parent : settled.parent ≡ y.parent
    settled_parent = objects_parents (map.keys x.closed) wrote_on ∙ parent_on (moves x) handed ∙ entries_parents (reads_of x) y

    settled_copy : (t : K) → map.get settled.copy t ≡ cond (map.contains_key x.written t) (map.get x.copy t) (map.get y.copy t)
    settled_copy t =
        ap (λ c. map.get c t) (marks3 F x y h fx up fy ok).copy
        ∙ copy2 F x y h fx up fy ok t
        ∙ ap (λ b. cond b (map.get x.copy t) (map.get y.copy t)) (sym (map.contains_key-keys x.written t))

    pub settled_written : (t : K) → is_some y.parent ≡ true → map.contains_key settled.written t ≡ (map.contains_key x.written t || map.contains_key y.written t)
    settled_written t p =
        ap (λ w. map.contains_key w t) (objects_written (map.keys x.closed) wrote_on)
        ∙ written_on (map.get x.copy) (map.keys x.written) handed t (ap is_some (entries_parents (reads_of x) y) ∙ p)
        ∙ ap (λ b. b || map.contains_key handed.written t) (sym (map.contains_key-keys x.written t))
        ∙ ap (λ w. map.contains_key x.written t || map.contains_key w t) (hand_written (reads_of x) y)

    module _ (m : FinMap n.cmp V) (p : is_some y.parent ≡ true) (meets : Meets n shown settled m) where
      meets_handed : Meets n shown handed m
      meets_handed = meets_writes (moves x) handed m (ap is_some (entries_parents (reads_of x) y) ∙ p) ((marks1 F x y h fx up fy ok).local (local_find F y.id y h fy)) (meets_objects (map.keys x.closed) wrote_on m meets)

      meets_parent : Meets n shown y m
      meets_parent = meets_entries (reads_of x) y m meets_handed

      -- what the child read is in the map, or in the parent's own writes
      read_above : (s : K) → map.contains_key x.first s ≡ true → cond (map.contains_key y.written s) (map.get y.copy s) (map.get m s) ≡ map.get y.copy s
      read_above s f =
          let k = marks1 F x y h fx up fy ok in
          let touched : is_touched handed s ≡ true = by_bool (is_touched y s)
          (λ u. stays_touched y handed s k u)
          (λ u. row_touched handed s (new1 F x y h fx up fy ok s p u f)) in
          ap (λ w. cond (map.contains_key w s) (map.get y.copy s) (map.get m s)) (sym (hand_written (reads_of x) y))
          ∙ ap (λ c. cond (map.contains_key handed.written s) (map.get c s) (map.get m s)) (sym k.copy)
          ∙ seen n shown handed m s (k.local (local_find F y.id y h fy)) meets_handed touched
          ∙ ap (λ c. map.get c s) k.copy

      listed_above : (s : K) → map.contains_key x.closed (n.object s) ≡ true → map.contains_key x.written s ≡ false → cond (map.contains_key y.written s) (map.get y.copy s) (map.get m s) ≡ map.get y.copy s
      listed_above s cl w =
          let local = (marks3 F x y h fx up fy ok).local (local_find (state2 F x y h fx up fy ok) y.id wrote_on (reached2 F x y h fx up fy ok) (fy2 F x y h fx up fy ok)) in
          let parent2 = parent_on (moves x) handed ∙ entries_parents (reads_of x) y in
          let touched : is_touched settled s ≡ true = or_right (has_row settled s) (map.contains_key settled.closed (n.object s)) (objects_closed (map.keys x.closed) wrote_on (n.object s) (ap is_some parent2 ∙ p) (sym (map.contains_key-keys x.closed (n.object s)) ∙ cl)) in
          let copied = settled_copy s ∙ ap (λ b. cond b (map.get x.copy s) (map.get y.copy s)) w in
          let written = settled_written s p ∙ ap (λ b. b || map.contains_key y.written s) w in
          ap (λ b. cond b (map.get y.copy s) (map.get m s)) (sym written)
          ∙ ap (λ c. cond (map.contains_key settled.written s) c (map.get m s)) (sym copied)
          ∙ seen n shown settled m s local meets touched
          ∙ copied

      -- so the map at the end of the parent's history meets the child's check
      meets_child : (E : FinMap n.cmp V) → ((t : K) → map.get E t ≡ cond (map.contains_key y.written t) (map.get y.copy t) (map.get m t)) → Meets n shown x E
      meets_child E e = record {
        read = λ s c q. e s ∙ read_above s (ap is_some q) ∙ agree_read x y s c (ok s) q;
        listed = λ s cl r. e s ∙ listed_above s cl (or_parts (map.contains_key x.first s) (map.contains_key x.written s) r).1 ∙ agree_closed x y s (ok s) cl r;
      }

    both_written : (a b : Bool) (u v c : Option V) → cond a u (cond b v c) ≡ cond (a || b) (cond a u v) c
    both_written true b u v c = refl
    both_written false b u v c = refl

    pub holds_settled : (lx ly : List (Entry n shown)) → Holds n shown x lx → Holds n shown y ly → Holds n shown settled (ly ++ lx)
    holds_settled lx ly hx hy = record {
      root = λ e.
          let b = hy.root (sym settled_parent ∙ e) in
          let meets : Meets n shown x y.copy = record { read = λ s c q. agree_read x y s c (ok s) q; listed = λ s cl r. agree_closed x y s (ok s) cl r } in
          let c = hx.child (ap is_some up) y.copy meets in (
            Answered-append n shown ly lx map.empty b.0 (subst (λ k. Answered n shown lx k) (sym b.1) c.0),
            ends-append n shown ly lx map.empty ∙ ap (ends n shown lx) b.1
                ∙ map.same_map n.total n.exact (ends n shown lx y.copy) settled.copy (λ t. c.1 t ∙ sym (settled_copy t)),
          );
      child = λ p m q.
          let py = ap is_some (sym settled_parent) ∙ p in
          let b = hy.child py m (meets_parent m py q) in
          let c = hx.child (ap is_some up) (ends n shown ly m) (meets_child m py q (ends n shown ly m) b.1) in (
            Answered-append n shown ly lx m b.0 c.0,
            λ t.
                ap (λ k. map.get k t) (ends-append n shown ly lx m)
                ∙ c.1 t
                ∙ ap (cond (map.contains_key x.written t) (map.get x.copy t)) (b.1 t)
                ∙ both_written (map.contains_key x.written t) (map.contains_key y.written t) (map.get x.copy t) (map.get y.copy t) (map.get m t)
                ∙ ap (λ k. cond k (cond (map.contains_key x.written t) (map.get x.copy t) (map.get y.copy t)) (map.get m t)) (sym (settled_written t py))
                ∙ ap (λ k. cond (map.contains_key settled.written t) k (map.get m t)) (sym (settled_copy t)),
          );
    }

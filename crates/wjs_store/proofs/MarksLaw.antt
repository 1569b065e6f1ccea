-- The law of the marks after a commit that moved.
use Rattle.std.proofs.Common.{◌≡◌, Bool, true, false, cond, not, ◌&&◌, ◌||◌, refl, ap, sym, ◌∙◌, subst, Option, None, Some, is_some, unwrap_or}
use Rattle.std.specs.Option.{option_map, option_map_or, option_and_then}
use Rattle.std.specs.Ordering.{eq_by_cmp}
use Rattle.std.specs.List.{list_any}
use Rattle.std.specs.FinMap as map
use Rattle.wjs_base.specs.Order.{obj_cmp, slot_cmp}
use Rattle.wjs_base.specs.declared.values.Slot.{Slot}
use Rattle.wjs_base.specs.declared.values.Value.{Value}
use Rattle.wjs_base.specs.declared.ids.ObjId.{ObjId}
use Rattle.wjs_base.specs.declared.ids.WorldId.{WorldId}
use Rattle.wjs_base.proofs.Booleans.{by_bool}
use Rattle.wjs_store.specs.Naming.{Naming, plain}
use Rattle.wjs_store.specs.State.{World, State, same_world, find_world, parent_of, is_touched, has_row, at_world, hand_entries, hand_objects, clear_marks, moves, reads_of, settle, fails, write_all, verdict_at, after_commit, moved}
use Rattle.wjs_store.specs.Reached.{IsReached}
use Rattle.wjs_store.specs.Meaning.{Worlds}
use Rattle.wjs_store.specs.MarksMoved.{MarksMoved}
use Rattle.wjs_store.proofs.Writes.{by_one}
use Rattle.wjs_store.proofs.Commits.{writes_on, hand_on, close_on, recorded_is, kept_hand, parent_on, entries_ids, entries_parents, objects_ids, fx3, fy3, find_at_here, find_at_other, parent_other, no_fault}
use Rattle.wjs_store.proofs.CommitReplays.{settled, settled_written, hand_on_written, close_on_closed}
use Rattle.wjs_store.proofs.Invariant.{same_turned}
use Rattle.wjs_store.proofs.Moved.{pass, parent_is}
use Rattle.wjs_store.proofs.MovedMarks.{hand_closed, hand_first, writes_closed, writes_alone, writes_first, objects_first, bare, past_at, past_writes, parts_settle}

-- what is recorded once reads are handed and slots written: w and r say whether the child wrote and read the slot, c and s whether the parent has listed its object and is strict, o and d what it has recorded and whether it has written
combine : {A : Type 0} (w r c s d : Bool) (o : Option A) (b : A) → cond (w && (not (is_some (cond (not ((is_some o || d) || c) && r) (Some b) o) || d) && (c || s))) (Some b) (cond (not ((is_some o || d) || c) && r) (Some b) o) ≡ cond (not (is_some o || d) && ((r && not c) || (w && (c || s)))) (Some b) o
combine true r c s d (Some a) b = refl
combine false r c s d (Some a) b = refl
combine true r c s true None b = refl
combine false r c s true None b = refl
combine true true true s false None b = refl
combine true false true s false None b = refl
combine false true true s false None b = refl
combine false false true s false None b = refl
combine true true false s false None b = refl
combine false true false s false None b = refl
combine true false false s false None b = refl
combine false false false s false None b = refl

-- one value for another where the test needs it
when : {A : Type 0} (q r : Bool) (a b : A) (o : Option A) → (r ≡ true → a ≡ b) → cond (q && r) (Some a) o ≡ cond (q && r) (Some b) o
when q true a b o f = ap (λ c. cond (q && true) (Some c) o) (f refl)
when true false a b o f = refl
when false false a b o f = refl

module _ {K V : Type 0} {n : Naming K V} (F : State n) (x y : World n) (h : IsReached F) (fx : find_world F x.id ≡ Some x) (up : x.parent ≡ Some y.id) (fy : find_world F y.id ≡ Some y) (ok : (t : K) → fails x y t ≡ false) where
  written_now : (t : K) → map.contains_key (settled n (λ r. r) F x y h fx up fy ok).written t ≡ ((is_some y.parent && map.contains_key x.written t) || map.contains_key y.written t)
  written_now t = by_bool (is_some y.parent)
      (λ p. settled_written n (λ r. r) F x y h fx up fy ok t p ∙ sym (ap (λ b. (b && map.contains_key x.written t) || map.contains_key y.written t) p))
      (λ p.
      ap (λ b. map.contains_key (cond b (close_on (map.keys x.closed) (writes_on (moves x) (hand_entries (reads_of x) y))) (writes_on (moves x) (hand_entries (reads_of x) y))).written t) (ap is_some (parent_on (moves x) (hand_entries (reads_of x) y) ∙ entries_parents (reads_of x) y) ∙ p)
      ∙ ap (λ b. map.contains_key (writes_on (moves x) (cond b (hand_on (reads_of x) y) y)).written t) p
      ∙ ap (λ m. map.contains_key m t) (writes_alone (moves x) y p).1
      ∙ sym (ap (λ b. (b && map.contains_key x.written t) || map.contains_key y.written t) p))

  listed_now : (o : ObjId) → map.contains_key (settled n (λ r. r) F x y h fx up fy ok).closed o ≡ ((is_some y.parent && map.contains_key x.closed o) || map.contains_key y.closed o)
  listed_now o =
      ap (λ b. map.contains_key (cond b (close_on (map.keys x.closed) (writes_on (moves x) (hand_entries (reads_of x) y))) (writes_on (moves x) (hand_entries (reads_of x) y))).closed o) (ap is_some (parent_on (moves x) (hand_entries (reads_of x) y) ∙ entries_parents (reads_of x) y))
      ∙ by_bool (is_some y.parent)
      (λ p.
      ap (λ b. map.contains_key (cond b (close_on (map.keys x.closed) (writes_on (moves x) (hand_entries (reads_of x) y))) (writes_on (moves x) (hand_entries (reads_of x) y))).closed o) p
      ∙ close_on_closed (map.keys x.closed) (writes_on (moves x) (hand_entries (reads_of x) y)) o
      ∙ ap (λ b. b || map.contains_key (writes_on (moves x) (hand_entries (reads_of x) y)).closed o) (sym (map.contains_key-keys x.closed o))
      ∙ ap (λ m. map.contains_key x.closed o || map.contains_key m o) (writes_closed (moves x) (hand_entries (reads_of x) y) ∙ by_one (is_some y.parent) (λ (v : World n). v.closed ≡ y.closed) (hand_closed (reads_of x) y).0 refl)
      ∙ sym (ap (λ b. (b && map.contains_key x.closed o) || map.contains_key y.closed o) p))
      (λ p.
      ap (λ b. map.contains_key (cond b (close_on (map.keys x.closed) (writes_on (moves x) (hand_entries (reads_of x) y))) (writes_on (moves x) (hand_entries (reads_of x) y))).closed o) p
      ∙ ap (λ m. map.contains_key m o) (writes_closed (moves x) (hand_entries (reads_of x) y) ∙ by_one (is_some y.parent) (λ (v : World n). v.closed ≡ y.closed) (hand_closed (reads_of x) y).0 refl)
      ∙ sym (ap (λ b. (b && map.contains_key x.closed o) || map.contains_key y.closed o) p))

  -- the commit records a read of the slot in y
  abbrev hands : K → Bool
  hands t = (map.contains_key x.first t && not (map.contains_key y.closed (n.object t))) || (map.contains_key x.written t && (map.contains_key y.closed (n.object t) || y.strict))

  recorded_now : (t : K) → map.get (settled n (λ r. r) F x y h fx up fy ok).first t ≡ cond (is_some y.parent && (not (has_row y t) && hands t)) (Some (map.get y.copy t)) (map.get y.first t)
  recorded_now t =
      ap (λ m. map.get m t) (objects_first (map.keys x.closed) (writes_on (moves x) (hand_entries (reads_of x) y)))
      ∙ by_bool (is_some y.parent)
      (λ p.
      ap (λ b. map.get (writes_on (moves x) (cond b (hand_on (reads_of x) y) y)).first t) p
      ∙ writes_first (map.get x.copy) (map.keys x.written) (hand_on (reads_of x) y) t (ap is_some (kept_hand (reads_of x) y).0 ∙ p)
      ∙ from_handed (hand_on (reads_of x) y) (kept_hand (reads_of x) y).1 (hand_closed (reads_of x) y).0 (hand_closed (reads_of x) y).1 (hand_on_written (reads_of x) y)
      (hand_first (λ s. unwrap_or (map.get x.first s) None) (map.keys x.first) y t
      ∙ when (not (is_touched y t)) (list_any (eq_by_cmp n.cmp t) (map.keys x.first)) (unwrap_or (map.get x.first t) None) (map.get y.copy t) (map.get y.first t) (recorded_is F x y h fx up fy ok t)
      ∙ ap (λ b. cond (not (is_touched y t) && b) (Some (map.get y.copy t)) (map.get y.first t)) (sym (map.contains_key-keys x.first t)))
      ∙ sym (ap (λ b. cond (b && (not (has_row y t) && hands t)) (Some (map.get y.copy t)) (map.get y.first t)) p))
      (λ p.
      ap (λ b. map.get (writes_on (moves x) (cond b (hand_on (reads_of x) y) y)).first t) p
      ∙ ap (λ m. map.get m t) (writes_alone (moves x) y p).0
      ∙ sym (ap (λ b. cond (b && (not (has_row y t) && hands t)) (Some (map.get y.copy t)) (map.get y.first t)) p))
    where
      from_handed : (z : World n) → z.copy ≡ y.copy → z.closed ≡ y.closed → z.strict ≡ y.strict → z.written ≡ y.written → map.get z.first t ≡ cond (not (is_touched y t) && map.contains_key x.first t) (Some (map.get y.copy t)) (map.get y.first t) → cond (list_any (eq_by_cmp n.cmp t) (map.keys x.written) && (not (has_row z t) && (map.contains_key z.closed (n.object t) || z.strict))) (Some (map.get z.copy t)) (map.get z.first t) ≡ cond (not (has_row y t) && hands t) (Some (map.get y.copy t)) (map.get y.first t)
      from_handed z co cl st wr fi =
          let r = cond (not (is_touched y t) && map.contains_key x.first t) (Some (map.get y.copy t)) (map.get y.first t) in
          ap (λ f. cond (list_any (eq_by_cmp n.cmp t) (map.keys x.written) && (not (is_some f || map.contains_key z.written t) && (map.contains_key z.closed (n.object t) || z.strict))) (Some (map.get z.copy t)) f) fi
          ∙ ap (λ m. cond (list_any (eq_by_cmp n.cmp t) (map.keys x.written) && (not (is_some r || map.contains_key m t) && (map.contains_key z.closed (n.object t) || z.strict))) (Some (map.get z.copy t)) r) wr
          ∙ ap (λ m. cond (list_any (eq_by_cmp n.cmp t) (map.keys x.written) && (not (is_some r || map.contains_key y.written t) && (map.contains_key m (n.object t) || z.strict))) (Some (map.get z.copy t)) r) cl
          ∙ ap (λ b. cond (list_any (eq_by_cmp n.cmp t) (map.keys x.written) && (not (is_some r || map.contains_key y.written t) && (map.contains_key y.closed (n.object t) || b))) (Some (map.get z.copy t)) r) st
          ∙ ap (λ m. cond (list_any (eq_by_cmp n.cmp t) (map.keys x.written) && (not (is_some r || map.contains_key y.written t) && (map.contains_key y.closed (n.object t) || y.strict))) (Some (map.get m t)) r) co
          ∙ ap (λ b. cond (b && (not (is_some r || map.contains_key y.written t) && (map.contains_key y.closed (n.object t) || y.strict))) (Some (map.get y.copy t)) r) (sym (map.contains_key-keys x.written t))
          ∙ combine (map.contains_key x.written t) (map.contains_key x.first t) (map.contains_key y.closed (n.object t)) y.strict (map.contains_key y.written t) (map.get y.first t) (map.get y.copy t)

  -- ---- the worlds of the settled state

  child_now : find_world (settle x y.id F) x.id ≡ Some (clear_marks x)
  child_now = find_at_here x.id clear_marks (λ v. refl) (at_world y.id (hand_objects (map.keys x.closed)) (write_all y.id (moves x) (at_world y.id (hand_entries (reads_of x)) F))) x (fx3 F x y h fx up fy ok)

  parent_now : find_world (settle x y.id F) y.id ≡ Some (settled n (λ r. r) F x y h fx up fy ok)
  parent_now = find_at_other x.id clear_marks (λ v. refl) (at_world y.id (hand_objects (map.keys x.closed)) (write_all y.id (moves x) (at_world y.id (hand_entries (reads_of x)) F))) y.id (settled n (λ r. r) F x y h fx up fy ok) (same_turned x.id y.id (parent_other F x.id y.id x h fx up)) (fy3 F x y h fx up fy ok)

  other_now : (i : WorldId) → same_world i x.id ≡ false → same_world i y.id ≡ false → option_map bare (find_world (settle x y.id F) i) ≡ option_map bare (find_world F i)
  other_now i a b =
      let handed = at_world y.id (hand_entries (reads_of x)) F in
      let wrote = write_all y.id (moves x) handed in
      ap (option_map bare) (past_at x.id clear_marks (λ v. refl) (at_world y.id (hand_objects (map.keys x.closed)) wrote) i a ∙ past_at y.id (hand_objects (map.keys x.closed)) (objects_ids (map.keys x.closed)) wrote i b)
      ∙ past_writes y.id (moves x) handed i b
      ∙ ap (option_map bare) (past_at y.id (hand_entries (reads_of x)) (entries_ids (reads_of x)) F i b)

-- what is recorded of a slot in the parent b of a, where both are there
reads_by : Option (World plain) → Option (World plain) → Slot → Option (Option Value)
reads_by a b s =
    cond
    (is_some (option_and_then (λ (v : World plain). v.parent) b)
    && (not (is_some (option_and_then (λ (v : World plain). map.get v.first s) b) || option_map_or (λ (v : World plain). map.contains_key v.written s) b false)
    && ((is_some (option_and_then (λ (v : World plain). map.get v.first s) a) && not (option_map_or (λ (v : World plain). map.contains_key v.closed s.object) b false))
    || (option_map_or (λ (v : World plain). map.contains_key v.written s) a false && (option_map_or (λ (v : World plain). map.contains_key v.closed s.object) b false || option_map_or (λ (v : World plain). v.strict) b false)))))
    (Some (option_and_then (λ (v : World plain). map.get v.copy s) b))
    (option_and_then (λ (v : World plain). map.get v.first s) b)

moved_into : (F : Worlds) (x y : World plain) → IsReached F → find_world F x.id ≡ Some x → x.parent ≡ Some y.id → find_world F y.id ≡ Some y → ((t : Slot) → fails x y t ≡ false) → MarksMoved F x.id y.id (settle x y.id F)
unfolding reads_by
moved_into F x y h fx up fy ok = record {
  no_reads = λ s. ap (option_and_then (λ (v : World plain). map.get v.first s)) (child_now F x y h fx up fy ok) ∙ map.get-empty slot_cmp s;
  no_writes = λ s. ap (λ o. option_map_or (λ (v : World plain). map.contains_key v.written s) o false) (child_now F x y h fx up fy ok) ∙ ap is_some (map.get-empty slot_cmp s);
  no_lists = λ o. ap (λ q. option_map_or (λ (v : World plain). map.contains_key v.closed o) q false) (child_now F x y h fx up fy ok) ∙ ap is_some (map.get-empty obj_cmp o);
  writes = λ s.
      ap (λ o. option_map_or (λ (v : World plain). map.contains_key v.written s) o false) (parent_now F x y h fx up fy ok)
      ∙ written_now F x y h fx up fy ok s
      ∙ ap (λ o. (is_some y.parent && option_map_or (λ (v : World plain). map.contains_key v.written s) o false) || map.contains_key y.written s) (sym fx)
      ∙ ap (λ o. (is_some (option_and_then (λ (v : World plain). v.parent) o) && option_map_or (λ (v : World plain). map.contains_key v.written s) (find_world F x.id) false) || option_map_or (λ (v : World plain). map.contains_key v.written s) o false) (sym fy);
  lists = λ o.
      ap (λ q. option_map_or (λ (v : World plain). map.contains_key v.closed o) q false) (parent_now F x y h fx up fy ok)
      ∙ listed_now F x y h fx up fy ok o
      ∙ ap (λ q. (is_some y.parent && option_map_or (λ (v : World plain). map.contains_key v.closed o) q false) || map.contains_key y.closed o) (sym fx)
      ∙ ap (λ q. (is_some (option_and_then (λ (v : World plain). v.parent) q) && option_map_or (λ (v : World plain). map.contains_key v.closed o) (find_world F x.id) false) || option_map_or (λ (v : World plain). map.contains_key v.closed o) q false) (sym fy);
  reads = λ s.
      ap (option_and_then (λ (v : World plain). map.get v.first s)) (parent_now F x y h fx up fy ok)
      ∙ recorded_now F x y h fx up fy ok s
      ∙ ap (λ a. reads_by a (Some y) s) (sym fx)
      ∙ ap (λ b. reads_by (find_world F x.id) b s) (sym fy);
  worlds = parts_settle x y.id F;
  others = other_now F x y h fx up fy ok;
}

pub marks_moved : (F : Worlds) (w : WorldId) (h : verdict_at F w ≡ moved) (p : WorldId) → parent_of F w ≡ Some p → IsReached F → MarksMoved F w p (after_commit F w)
marks_moved F w h p up reached =
    let k = pass F w h in
    subst (λ j. MarksMoved F j p (after_commit F w)) k.child_id
    (subst (λ q. MarksMoved F k.child.id q (after_commit F w)) (parent_is F w h p up)
    (subst (MarksMoved F k.child.id k.above.id) (sym k.leaves) (moved_into F k.child k.above reached k.child_there k.up k.above_there (no_fault k.child k.above k.no_fault))))

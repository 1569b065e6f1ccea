-- A commit leaves alone the slots that no world holds or has touched.
use Rattle.std.proofs.Common.{◌≡◌, Bool, true, false, cond, List, [], ◌∷◌, ap, ◌∙◌, Option, None, is_some, unwrap_or}
use Rattle.std.specs.List.{AllByRecursion}
use Rattle.std.specs.FinMap as map
use Rattle.std.proofs.lemmas.Bool.{or_left, or_right}
use Rattle.wjs_base.specs.declared.ids.ObjId.{ObjId}
use Rattle.wjs_base.specs.declared.ids.WorldId.{WorldId}
use Rattle.wjs_base.specs.declared.values.Slot.{Slot}
use Rattle.wjs_base.specs.declared.values.Value.{Value}
use Rattle.wjs_base.specs.Order.{slot_total, obj_total}
use Rattle.wjs_store.specs.Naming.{plain}
use Rattle.wjs_store.specs.Meaning.{Worlds}
use Rattle.wjs_store.specs.State.{World, has_row, is_touched, reads_of, hand_entries, hand_objects, clear_marks, moves, write_all, at_world, settle, after_write}
use Rattle.wjs_store.proofs.Commits.{pairs, hand_one, hand_on, close_on}
use Rattle.wjs_session.specs.Kept.{IsShut}
use Rattle.wjs_session.proofs.Shutting.{all_keys, shut_cond, shut_first, shut_at, shut_bare, shut_closed, shut_after_write}
use Rattle.wjs_session.specs.Sound.{touched_passes}

module _ (w : Slot → Bool) where
  shut_hand : (v : Slot → Option Value) (ks : List Slot) → AllByRecursion (λ (s : Slot). w s ≡ true) ks → (y : World plain) → IsShut w y → IsShut w (hand_on (pairs v ks) y)
  shut_hand v [] a y p = p
  shut_hand v (s ∷ ks) a y p = shut_hand v ks a.1 (hand_one y (s, v s)) (by (is_touched y s))
    where
      by : (b : Bool) → IsShut w (cond b y (record y { first = map.insert y.first s (v s) }))
      by true = p
      by false = shut_first w y s (v s) a.0 p

  shut_entries : (v : Slot → Option Value) (ks : List Slot) → AllByRecursion (λ (s : Slot). w s ≡ true) ks → (y : World plain) → IsShut w y → IsShut w (hand_entries (pairs v ks) y)
  shut_entries v ks a y p = shut_cond w (is_some y.parent) y (hand_on (pairs v ks) y) p (shut_hand v ks a y p)

  -- all slots of these objects pass
  abbrev Whole : ObjId → Type 0
  Whole q = (s : Slot) → s.object ≡ q → w s ≡ true

  shut_close : (os : List ObjId) → AllByRecursion Whole os → (y : World plain) → IsShut w y → IsShut w (close_on os y)
  shut_close [] a y p = p
  shut_close (q ∷ os) a y p = shut_close os a.1 (record y { closed = map.insert y.closed q tt }) (shut_closed w q a.0 y p)

  shut_objects : (os : List ObjId) → AllByRecursion Whole os → (y : World plain) → IsShut w y → IsShut w (hand_objects os y)
  shut_objects os a y p = shut_cond w (is_some y.parent) y (close_on os y) p (shut_close os a y p)

  shut_writes : (p : WorldId) (v : Slot → Option Value) (ks : List Slot) → AllByRecursion (λ (s : Slot). w s ≡ true) ks → (G : Worlds) → AllByRecursion (IsShut w) G → AllByRecursion (IsShut w) (write_all p (pairs v ks) G)
  shut_writes p v [] a G h = h
  shut_writes p v (s ∷ ks) a G h = shut_writes p v ks a.1 (after_write G p s (v s)) (shut_after_write w G p s (v s) a.0 h)

  -- what a shut world has read, written and listed
  reads_pass : (x : World plain) → IsShut w x → AllByRecursion (λ (s : Slot). w s ≡ true) (map.keys x.first)
  reads_pass x shut = all_keys slot_total (λ (s : Slot). w s ≡ true) x.first (λ s e. touched_passes w x s shut (or_left (has_row x s) (map.contains_key x.closed s.object) (or_left (map.contains_key x.first s) (map.contains_key x.written s) e)))

  pub written_pass : (x : World plain) → IsShut w x → AllByRecursion (λ (s : Slot). w s ≡ true) (map.keys x.written)
  written_pass x shut = all_keys slot_total (λ (s : Slot). w s ≡ true) x.written (λ s e. touched_passes w x s shut (or_left (has_row x s) (map.contains_key x.closed s.object) (or_right (map.contains_key x.first s) (map.contains_key x.written s) e)))

  listed_pass : (x : World plain) → IsShut w x → AllByRecursion Whole (map.keys x.closed)
  listed_pass x shut = all_keys obj_total Whole x.closed (λ q e s is. touched_passes w x s shut (or_right (has_row x s) (map.contains_key x.closed s.object) (ap (map.contains_key x.closed) is ∙ e)))

  pub shut_settle : (x : World plain) (p : WorldId) (G : Worlds) → IsShut w x → AllByRecursion (IsShut w) G → AllByRecursion (IsShut w) (settle x p G)
  shut_settle x p G shut h =
      let handed = at_world p (hand_entries (reads_of x)) G in
      let wrote = write_all p (moves x) handed in
      let a = shut_at w p (hand_entries (reads_of x)) (shut_entries (λ s. unwrap_or (map.get x.first s) None) (map.keys x.first) (reads_pass x shut)) G h in
      let b = shut_writes p (map.get x.copy) (map.keys x.written) (written_pass x shut) handed a in
      let c = shut_at w p (hand_objects (map.keys x.closed)) (shut_objects (map.keys x.closed) (listed_pass x shut)) wrote b in
      shut_at w x.id clear_marks (shut_bare w) (at_world p (hand_objects (map.keys x.closed)) wrote) c

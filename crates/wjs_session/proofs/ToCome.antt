-- What an inner world has written and is still to be written in the session's world, the least slot first.
use Rattle.std.proofs.Common.{◌≡◌, Bool, true, false, cond, ◌&&◌, ◌||◌, T, List, [], ◌∷◌, refl, ap, sym, ◌∙◌, subst, filter, map as each, Option, None, Some}
use Rattle.std.specs.Option.{option_map_or}
use Rattle.std.specs.Ordering.{eq_by_cmp, is_lt, is_eq}
use Rattle.std.specs.Cmp.{tied_itself}
use Rattle.std.specs.List.{list_any}
use Rattle.std.specs.FinMap as map
use Rattle.std.specs.FinMap.Entries.{below_all, same_entries}
use Rattle.std.proofs.lemmas.Bool.{true≢false}
use Rattle.wjs_base.specs.declared.ids.WorldId.{WorldId}
use Rattle.wjs_base.specs.declared.values.Slot.{Slot}
use Rattle.wjs_base.specs.declared.values.Value.{Value}
use Rattle.wjs_base.specs.Order.{slot_cmp, slot_total, slot_exact}
use Rattle.wjs_base.proofs.Booleans.{both_true}
use Rattle.wjs_base.proofs.Orders.{not_back}
use Rattle.wjs_store.specs.Naming.{plain}
use Rattle.wjs_store.specs.Ascends.{tagged}
use Rattle.wjs_store.specs.Marked.{is_written}
use Rattle.wjs_store.specs.Meaning.{Worlds}
use Rattle.wjs_store.specs.State.{World, has_world, content_at, moves, write_all, after_write}
use Rattle.wjs_store.proofs.Ascending.{untagged, find_tag, ascends_filter, any_passing, firsts}
use Rattle.wjs_overlay.specs.Check.{IsLeast}
use Rattle.wjs_layers.specs.Cursor.{to_come}
use Rattle.wjs_overlay.proofs.Keyed.{by_order}
use Rattle.wjs_layers.proofs.Scans.{to_come_on}
use Rattle.wjs_session.specs.Session.{world_at}
use Rattle.wjs_session.proofs.Worlds.{found_at, content_is}
use Rattle.wjs_session.proofs.CarryLaws.{less_apart, more_apart}

-- ---- lists of slots

all_come : (ss : List Slot) → filter (to_come None) ss ≡ ss
all_come [] = refl
all_come (s ∷ ss) = ap (λ ts. s ∷ ts) (all_come ss)

empty_by : (ss : List Slot) → ((q : Slot) → list_any (eq_by_cmp slot_cmp q) ss ≡ false) → ss ≡ []
empty_by [] h = refl
empty_by (s ∷ ss) h = absurd (true≢false (sym (ap (λ b. b || list_any (eq_by_cmp slot_cmp s) ss) (ap is_eq (tied_itself slot_total s))) ∙ h s))

swapped : (a b : Bool) → (a && b) ≡ false → (b && a) ≡ false
swapped true true h = h
swapped true false h = refl
swapped false true h = refl
swapped false false h = refl

-- a slot is below those that come after it
below_later : (slot : Slot) (ss : List Slot) → T (below_all slot_cmp slot (tagged (filter (to_come (Some slot)) ss)))
below_later slot [] = tt
below_later slot (s ∷ ss) = by (is_lt (slot_cmp slot s)) refl (below_later slot ss)
  where
    by : (b : Bool) → is_lt (slot_cmp slot s) ≡ b → T (below_all slot_cmp slot (tagged (filter (to_come (Some slot)) ss))) → T (below_all slot_cmp slot (tagged (cond b (s ∷ filter (to_come (Some slot)) ss) (filter (to_come (Some slot)) ss))))
    by true h r = both_true (is_lt (slot_cmp slot s)) (below_all slot_cmp slot (tagged (filter (to_come (Some slot)) ss))) (subst T (sym h) tt) r
    by false h r = r

module _ (G : Worlds) (d : WorldId) where
  -- what the world d has written and is to come, with what it holds
  abbrev pub waiting : Option Slot → List (Slot × Option Value)
  waiting passed = each (λ (s : Slot). (s, map.get (world_at G d).copy s)) (filter (to_come passed) (map.keys (world_at G d).written))

  -- once what waits is written in the world i of H, all is written that was to be in that of F
  abbrev pub IsToWrite : WorldId → Worlds → Option Slot → Worlds → Type 0
  IsToWrite i F passed H = write_all i (waiting passed) H ≡ write_all i (moves (world_at G d)) F

  pub write_none : (i : WorldId) (F : Worlds) → IsToWrite i F None F
  write_none i F = ap (λ ss. write_all i (each (λ (s : Slot). (s, map.get (world_at G d).copy s)) ss) F) (all_come (map.keys (world_at G d).written))

module _ (G : Worlds) (d : WorldId) (there : has_world G d ≡ true) where
  is_written_any : (q : Slot) → list_any (eq_by_cmp slot_cmp q) (map.keys (world_at G d).written) ≡ is_written G d q
  is_written_any q = sym (map.contains_key-keys (world_at G d).written q) ∙ sym (ap (λ o. option_map_or (λ (y : World plain). map.contains_key y.written q) o false) (found_at G d there))

  coming : (passed : Option Slot) (q : Slot) → list_any (eq_by_cmp slot_cmp q) (filter (to_come passed) (map.keys (world_at G d).written)) ≡ (to_come passed q && is_written G d q)
  coming passed q = any_passing slot_cmp slot_exact (to_come passed) q (map.keys (world_at G d).written) ∙ ap (λ b. to_come passed q && b) (is_written_any q)

  module _ (passed : Option Slot) where
    none_come : IsLeast (λ (s : Slot). is_written G d s && to_come passed s) None → waiting G d passed ≡ []
    none_come n = ap (each (λ (s : Slot). (s, map.get (world_at G d).copy s))) (empty_by (filter (to_come passed) (map.keys (world_at G d).written)) (λ q. coming passed q ∙ swapped (is_written G d q) (to_come passed q) (n.before q refl)))

    module _ (slot : Slot) (n : IsLeast (λ (s : Slot). is_written G d s && to_come passed s) (Some slot)) (is : is_written G d slot ≡ true) (comes : to_come passed slot ≡ true) where
      there_alike : (q : Slot) → list_any (eq_by_cmp slot_cmp q) (filter (to_come passed) (map.keys (world_at G d).written)) ≡ (eq_by_cmp slot_cmp q slot || list_any (eq_by_cmp slot_cmp q) (filter (to_come (Some slot)) (map.keys (world_at G d).written)))
      there_alike q = coming passed q ∙ by_order slot_total slot_exact q slot
          (λ l.
          swapped (is_written G d q) (to_come passed q) (n.before q l)
          ∙ sym (ap (λ b. b || list_any (eq_by_cmp slot_cmp q) (filter (to_come (Some slot)) (map.keys (world_at G d).written))) (less_apart q slot l)
          ∙ coming (Some slot) q ∙ ap (λ b. b && is_written G d q) (not_back slot_total q slot l)))
          (λ e.
          (λ k. to_come passed (e k) && is_written G d (e k)) ∙ (λ k. comes k && is k)
          ∙ sym (ap (λ b. b || list_any (eq_by_cmp slot_cmp q) (filter (to_come (Some slot)) (map.keys (world_at G d).written))) (ap (λ (p : Slot). eq_by_cmp slot_cmp p slot) e ∙ ap is_eq (tied_itself slot_total slot))))
          (λ l.
          ap (λ b. b && is_written G d q) (to_come_on passed slot q comes l)
          ∙ sym (ap (λ b. b || list_any (eq_by_cmp slot_cmp q) (filter (to_come (Some slot)) (map.keys (world_at G d).written))) (more_apart q slot l)
          ∙ coming (Some slot) q ∙ ap (λ b. b && is_written G d q) l))

      first_comes : filter (to_come passed) (map.keys (world_at G d).written) ≡ slot ∷ filter (to_come (Some slot)) (map.keys (world_at G d).written)
      first_comes =
          let m = (world_at G d).written in
          let ss = filter (to_come passed) (map.keys m) in
          let ts = slot ∷ filter (to_come (Some slot)) (map.keys m) in
          sym (untagged ss)
          ∙ ap firsts (same_entries slot_cmp slot_total slot_exact (tagged ss) (tagged ts)
          (ascends_filter slot_cmp (to_come passed) (map.entries m) (map.entries_sorted m))
          (both_true (below_all slot_cmp slot (tagged (filter (to_come (Some slot)) (map.keys m)))) (map.is_sorted slot_cmp (tagged (filter (to_come (Some slot)) (map.keys m)))) (below_later slot (map.keys m)) (ascends_filter slot_cmp (to_come (Some slot)) (map.entries m) (map.entries_sorted m)))
          (λ q. find_tag slot_cmp q ss ∙ ap (λ b. cond b (Some tt) None) (there_alike q) ∙ sym (find_tag slot_cmp q ts)))
          ∙ untagged ts

      next_comes : waiting G d passed ≡ (slot, map.get (world_at G d).copy slot) ∷ waiting G d (Some slot)
      next_comes = ap (each (λ (s : Slot). (s, map.get (world_at G d).copy s))) first_comes

  -- ---- the loop

  module _ (i : WorldId) (F : Worlds) (passed : Option Slot) (H : Worlds) (h : IsToWrite G d i F passed H) where
    pub write_last : IsLeast (λ (s : Slot). is_written G d s && to_come passed s) None → H ≡ write_all i (moves (world_at G d)) F
    write_last n = sym (ap (λ es. write_all i es H) (none_come passed n)) ∙ h

    pub write_next : (slot : Slot) → IsLeast (λ (s : Slot). is_written G d s && to_come passed s) (Some slot) → is_written G d slot ≡ true → to_come passed slot ≡ true → IsToWrite G d i F (Some slot) (after_write H i slot (content_at G d slot))
    write_next slot n is comes =
        ap (λ c. write_all i (waiting G d (Some slot)) (after_write H i slot c)) (content_is G d slot)
        ∙ sym (ap (λ es. write_all i es H) (next_comes passed slot n is comes))
        ∙ h

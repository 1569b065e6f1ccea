-- What an inner world has written is written in the session's world, one slot after another.
use Rattle.std.proofs.Common.{◌≡◌, ◌+◌, ◌≤◌, Bool, true, false, cond, not, ◌&&◌, ◌||◌, List, [], ◌∷◌, refl, ap, sym, ◌∙◌, map as each, Option, None, Some, is_some}
use Rattle.std.specs.Option.{option_map_or, option_and_then}
use Rattle.std.specs.Ordering.{eq_by_cmp, is_lt, is_eq}
use Rattle.std.specs.Cmp.{tied_itself}
use Rattle.std.specs.FinMap as map
use Rattle.std.proofs.lemmas.Bool.{true≢false, false≢true, and_parts, or_left, or_right, true_from_ne_false, false_from_ne_true}
use Rattle.std.proofs.Math.Bool.{and-false, and-true}
use Rattle.wjs_base.specs.declared.ids.WorldId.{WorldId}
use Rattle.wjs_base.specs.declared.values.Slot.{Slot}
use Rattle.wjs_base.specs.declared.values.Value.{Value}
use Rattle.wjs_base.specs.Order.{slot_cmp, slot_total, slot_exact}
use Rattle.wjs_base.proofs.Booleans.{by_bool}
use Rattle.wjs_base.proofs.Orders.{not_back, not_self}
use Rattle.wjs_store.specs.Naming.{plain}
use Rattle.wjs_store.specs.Marked.{is_written}
use Rattle.wjs_store.specs.Reached.{IsReached}
use Rattle.wjs_store.specs.Meaning.{Worlds}
use Rattle.wjs_store.specs.State.{World, same_world, find_world, has_world, content_at, has_row, is_touched, read_in, after_read, after_write}
use Rattle.wjs_store.proofs.Marks.{key_is}
use Rattle.wjs_store.proofs.Writes.{not_older}
use Rattle.wjs_store.proofs.Commits.{at_head, find_tail}
use Rattle.wjs_overlay.specs.Check.{IsLeast}
use Rattle.wjs_layers.specs.Cursor.{to_come, is_before, count_passing}
use Rattle.wjs_overlay.proofs.Counts.{count_lt}
use Rattle.wjs_overlay.proofs.Keyed.{by_order}
use Rattle.wjs_layers.proofs.Scans.{to_come_on}
use Rattle.wjs_session.specs.Session.{world_at}
use Rattle.wjs_session.specs.Kept.{IsChild}
use Rattle.wjs_session.specs.Grown.{Grows}
use Rattle.wjs_session.specs.Carried.{Carried}
use Rattle.wjs_session.proofs.Worlds.{found_at}
use Rattle.wjs_session.proofs.Growing.{grows_same, grows_then, grows_write, write_touched, write_copy}

-- ---- a read of what is touched changes nothing

pub none_changed : (d : WorldId) (f : World plain → World plain) (G : Worlds) → has_world G d ≡ false → each (λ (y : World plain). cond (same_world y.id d) (f y) y) G ≡ G
unfolding find_world
none_changed d f [] h = refl
none_changed d f (y ∷ G) h = by_bool (same_world y.id d)
    (λ e. absurd (true≢false (sym (ap (λ b. is_some (cond b (Some y) (find_world G d))) e) ∙ h)))
    (λ e. λ k. cond (e k) (f y) y ∷ none_changed d f G (sym (ap (λ b. is_some (cond b (Some y) (find_world G d))) e) ∙ h) k)

read_on : (d : WorldId) (s : Slot) (x : World plain) → is_touched x s ≡ true → (G : Worlds) → IsReached G → find_world G d ≡ Some x → each (λ (y : World plain). cond (same_world y.id d) (read_in s y) y) G ≡ G
unfolding find_world
read_on d s x t [] r h = refl
read_on d s x t (y ∷ G) r h = by_bool (same_world y.id d)
    (λ e.
    let is : y ≡ x = at_head y x G d e h in
    let same : read_in s y ≡ y = ap (λ b. cond (is_some y.parent && not b) (record y { first = map.insert y.first s (map.get y.copy s) }) y) (ap (λ (z : World plain). is_touched z s) is ∙ t) ∙ ap (λ b. cond b (record y { first = map.insert y.first s (map.get y.copy s) }) y) (and-false (is_some y.parent)) in
    let new : has_world G d ≡ false = false_from_ne_true (has_world G d) (λ q. true≢false (sym e ∙ not_older y G d r q)) in
    (λ k. cond (e k) (read_in s y) y ∷ each (λ (z : World plain). cond (same_world z.id d) (read_in s z) z) G)
    ∙ (λ k. same k ∷ none_changed d (read_in s) G new k))
    (λ e. λ k. cond (e k) (read_in s y) y ∷ read_on d s x t G r.1 (sym (find_tail y G d e) ∙ h) k)

-- what is written in a world is touched
written_touched : (G : Worlds) (d : WorldId) (s : Slot) → has_world G d ≡ true → is_written G d s ≡ true → is_touched (world_at G d) s ≡ true
written_touched G d s there h =
    let x = world_at G d in
    or_left (has_row x s) (map.contains_key x.closed s.object) (or_right (map.contains_key x.first s) (map.contains_key x.written s) (sym (ap (λ o. option_map_or (λ (y : World plain). map.contains_key y.written s) o false) (found_at G d there)) ∙ h))

pub read_again : (G : Worlds) (d : WorldId) (s : Slot) → IsReached G → has_world G d ≡ true → is_touched (world_at G d) s ≡ true → after_read G d s ≡ G
unfolding after_read
read_again G d s r there h = read_on d s (world_at G d) h G r (found_at G d there)

pub read_written : (G : Worlds) (d : WorldId) (s : Slot) → IsReached G → has_world G d ≡ true → is_written G d s ≡ true → after_read G d s ≡ G
read_written G d s r there h = read_again G d s r there (written_touched G d s there h)

-- ---- the loop

-- what is not to come was passed
passed_by : (a b : Bool) → (a && b) ≡ false → (a && not b) ≡ a
passed_by true true e = absurd (true≢false e)
passed_by true false e = refl
passed_by false b e = refl

pub less_apart : (t s : Slot) → is_lt (slot_cmp t s) ≡ true → eq_by_cmp slot_cmp t s ≡ false
less_apart t s l = false_from_ne_true (eq_by_cmp slot_cmp t s) (λ e. true≢false (sym l ∙ ap (λ (q : Slot). is_lt (slot_cmp q s)) (key_is slot_exact t s e) ∙ not_self slot_total s))

pub more_apart : (t s : Slot) → is_lt (slot_cmp s t) ≡ true → eq_by_cmp slot_cmp t s ≡ false
more_apart t s l = false_from_ne_true (eq_by_cmp slot_cmp t s) (λ e. true≢false (sym l ∙ ap (λ (q : Slot). is_lt (slot_cmp s q)) (key_is slot_exact t s e) ∙ not_self slot_total s))

module _ (F : Worlds) (i : WorldId) (G : Worlds) (d : WorldId) where
  -- of what the inner world d has written, what was passed
  abbrev pub done : Option Slot → Slot → Bool
  done passed t = is_written G d t && not (to_come passed t)

  -- this is written in the world i of H
  pub record Carries (passed : Option Slot) (H : Worlds) : Type 0 where
    pub grows : Grows F i H
    pub copy : (t : Slot) → map.get (world_at H i).copy t ≡ cond (done passed t) (content_at G d t) (map.get (world_at F i).copy t)
    pub touched : (t : Slot) → is_touched (world_at H i) t ≡ (done passed t || is_touched (world_at F i) t)

  pub carries_none : IsReached F → IsChild F i → Carries None F
  carries_none r c = record {
    grows = grows_same F i r c;
    copy = λ t. sym (ap (λ b. cond b (content_at G d t) (map.get (world_at F i).copy t)) (and-false (is_written G d t)));
    touched = λ t. sym (ap (λ b. b || is_touched (world_at F i) t) (and-false (is_written G d t)));
  }

  module _ (passed : Option Slot) (H : Worlds) (h : Carries passed H) where
    pub carries_all : IsLeast (λ (s : Slot). is_written G d s && to_come passed s) None → Carried F i G d H
    carries_all n = record {
      grows = h.grows;
      copy = λ t. h.copy t ∙ ap (λ b. cond b (content_at G d t) (map.get (world_at F i).copy t)) (passed_by (is_written G d t) (to_come passed t) (n.before t refl));
      touched = λ t. h.touched t ∙ ap (λ b. b || is_touched (world_at F i) t) (passed_by (is_written G d t) (to_come passed t) (n.before t refl));
    }

    module _ (slot : Slot) (n : IsLeast (λ (s : Slot). is_written G d s && to_come passed s) (Some slot)) where
      pub is_next : (is_written G d slot ≡ true) × (to_come passed slot ≡ true)
      is_next = and_parts (is_written G d slot) (to_come passed slot) (n.passes slot refl)

      done_more : (t : Slot) → done (Some slot) t ≡ (eq_by_cmp slot_cmp t slot || done passed t)
      done_more t = by_order slot_total slot_exact t slot
          (λ l.
          (λ k. is_written G d t && not (not_back slot_total t slot l k)) ∙ and-true (is_written G d t)
          ∙ sym (passed_by (is_written G d t) (to_come passed t) (n.before t l))
          ∙ sym (ap (λ b. b || done passed t) (less_apart t slot l)))
          (λ is.
          (λ k. is_written G d (is k) && not (is_lt (slot_cmp slot (is k)))) ∙ (λ k. is_next.0 k && not (not_self slot_total slot k))
          ∙ sym (ap (λ b. b || done passed t) (ap (λ (q : Slot). eq_by_cmp slot_cmp q slot) is ∙ ap is_eq (tied_itself slot_total slot))))
          (λ l.
          (λ k. is_written G d t && not (l k)) ∙ and-false (is_written G d t)
          ∙ sym (ap (λ b. b || done passed t) (more_apart t slot l) ∙ (λ k. is_written G d t && not (to_come_on passed slot t is_next.1 l k)) ∙ and-false (is_written G d t)))

      pub carries_one : Carries (Some slot) (after_write H i slot (content_at G d slot))
      carries_one =
          let r = h.grows.reached in
          let c = h.grows.child in
          record {
            grows = grows_then F H (after_write H i slot (content_at G d slot)) i h.grows (grows_write H i r c slot (content_at G d slot));
            copy = λ t.
                write_copy H i r c slot (content_at G d slot) t
                ∙ ap (cond (eq_by_cmp slot_cmp t slot) (content_at G d slot)) (h.copy t)
                ∙ join (content_at G d t) (content_at G d slot) (map.get (world_at F i).copy t) (eq_by_cmp slot_cmp t slot) (done passed t) (λ e. ap (content_at G d) (sym (key_is slot_exact t slot e)))
                ∙ sym (ap (λ b. cond b (content_at G d t) (map.get (world_at F i).copy t)) (done_more t));
            touched = λ t.
                write_touched H i r c slot (content_at G d slot) t
                ∙ ap (λ b. eq_by_cmp slot_cmp t slot || b) (h.touched t)
                ∙ sym (or_assoc (eq_by_cmp slot_cmp t slot) (done passed t) (is_touched (world_at F i) t))
                ∙ sym (ap (λ b. b || is_touched (world_at F i) t) (done_more t));
          }
        where
          join : (x y z : Option Value) (a b : Bool) → (a ≡ true → y ≡ x) → cond a y (cond b x z) ≡ cond (a || b) x z
          join x y z true b f = f refl
          join x y z false b f = refl

          or_assoc : (a b c : Bool) → ((a || b) || c) ≡ (a || (b || c))
          or_assoc true b c = refl
          or_assoc false b c = refl

      -- fewer are to come
      pub fewer : has_world G d ≡ true → count_passing (to_come (Some slot)) (map.keys (world_at G d).written) + 1 ≤ count_passing (to_come passed) (map.keys (world_at G d).written)
      fewer there = count_lt slot_exact (to_come passed) (to_come (Some slot)) (map.keys (world_at G d).written) slot
          (λ s e. to_come_on passed slot s is_next.1 e)
          (sym (map.contains_key-keys (world_at G d).written slot) ∙ sym (ap (λ o. option_map_or (λ (y : World plain). map.contains_key y.written slot) o false) (found_at G d there)) ∙ is_next.0)
          is_next.1
          (not_self slot_total slot)

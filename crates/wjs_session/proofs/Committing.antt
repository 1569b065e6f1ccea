-- A commit in a session.
use Rattle.std.proofs.Common.{◌≡◌, ◌≢◌, Bool, true, false, cond, not, ◌&&◌, ◌||◌, List, [], ◌∷◌, refl, ap, sym, ◌∙◌, subst, fold, map as each, Option, None, Some, is_some}
use Rattle.std.specs.Option.{option_map, option_map_or, option_and_then, is_none}
use Rattle.std.specs.List.{AllByRecursion}
use Rattle.std.specs.FinMap as map
use Rattle.std.proofs.lemmas.Bool.{true≢false, false≢true, or_left, or_right, and_right}
use Rattle.wjs_base.specs.declared.ids.ObjId.{ObjId}
use Rattle.wjs_base.specs.declared.ids.WorldId.{WorldId}
use Rattle.wjs_base.specs.declared.values.Slot.{Slot}
use Rattle.wjs_base.specs.declared.values.Value.{Value}
use Rattle.wjs_base.specs.Same.{same_value}
use Rattle.wjs_base.proofs.Booleans.{by_bool}
use Rattle.wjs_base.proofs.Options.{with_some}
use Rattle.wjs_store.specs.Naming.{plain}
use Rattle.wjs_store.specs.Marked.{is_written}
use Rattle.wjs_store.specs.Shown.{first_of}
use Rattle.wjs_store.specs.Meaning.{View, Worlds}
use Rattle.wjs_store.specs.State.{World, Verdict, same_world, find_world, has_world, parent_of, content_at, has_row, is_touched, is_below, same_content, at_world, after_write, write_at, write_all, reads_of, moves, hand_entries, hand_objects, clear_marks, settle, fault_in, with_parent, verdict_in, verdict_at, after_commit, commit, committed, moved, differs, no_parent}
use Rattle.wjs_store.proofs.Moved.{Pass, pass, content_after_commit}
use Rattle.wjs_store.proofs.Refused.{refused_stays}
use Rattle.wjs_store.proofs.Writes.{by_one, same_self, world_is, write_id}
use Rattle.wjs_store.proofs.Commits.{entries_ids, objects_ids}
use Rattle.wjs_overlay.specs.Store.{check_of}
use Rattle.wjs_session.specs.Session.{world_at, first_copy, settled, outer}
use Rattle.wjs_session.specs.Kept.{IsShut, IsSession}
use Rattle.wjs_session.specs.Calls.{Answered}
use Rattle.wjs_session.specs.Carried.{Carried}
use Rattle.wjs_session.proofs.Worlds.{found_at, first_each, first_content, all_find}
use Rattle.wjs_session.proofs.SettleLaws.{verdict_filled, filled_commit, shut_after_commit}
use Rattle.wjs_session.proofs.Growing.{grows_same}
use Rattle.wjs_session.proofs.Looking.{inner_there}
use Rattle.wjs_session.proofs.Acting.{answered_by, settled_contents, below_first}
use Rattle.wjs_session.specs.Maps.{get_outer, same_content_self}
use Rattle.wjs_session.specs.Sound.{touched_passes}

-- ---- the first world's number stays

first_at : (j : WorldId) (f : World plain → World plain) → ((y : World plain) → (f y).id ≡ y.id) → (G : Worlds) → first_of (at_world j f G) ≡ first_of G
first_at j f ids G = first_each (λ (y : World plain). cond (same_world y.id j) (f y) y) (λ y. by_one (same_world y.id j) (λ (z : World plain). z.id ≡ y.id) (ids y) refl) G

first_writes : (p : WorldId) (es : List (Slot × Option Value)) (G : Worlds) → first_of (write_all p es G) ≡ first_of G
unfolding after_write
first_writes p [] G = refl
first_writes p (e ∷ es) G = first_writes p es (after_write G p e.0 e.1) ∙ first_each (write_at G p e.0 e.1) (write_id G p e.0 e.1) G

first_settle : (x : World plain) (p : WorldId) (G : Worlds) → first_of (settle x p G) ≡ first_of G
first_settle x p G =
    let handed = at_world p (hand_entries (reads_of x)) G in
    let wrote = write_all p (moves x) handed in
    first_at x.id clear_marks (λ y. refl) (at_world p (hand_objects (map.keys x.closed)) wrote)
    ∙ first_at p (hand_objects (map.keys x.closed)) (objects_ids (map.keys x.closed)) wrote
    ∙ first_writes p (moves x) handed
    ∙ first_at p (hand_entries (reads_of x)) (entries_ids (reads_of x)) G

pub first_commit : (G : Worlds) (d : WorldId) → first_of (after_commit G d) ≡ first_of G
unfolding after_commit
first_commit G d = by (with_parent G d)
  where
    by : (o : Option (World plain × World plain)) → first_of (option_map_or (λ (e : World plain × World plain). cond (is_none (fault_in e.0 e.1)) (settle e.0 e.1.id G) G) o G) ≡ first_of G
    by None = refl
    by (Some e) = by_one (is_none (fault_in e.0 e.1)) (λ (H : Worlds). first_of H ≡ first_of G) (first_settle e.0 e.1.id G) refl

-- ---- the check and the verdict

pub pair_some : (G : Worlds) (d q : WorldId) (x z : World plain) → find_world G d ≡ Some x → x.parent ≡ Some q → find_world G q ≡ Some z → with_parent G d ≡ Some (x, z)
unfolding with_parent
pair_some G d q x z fx up fz =
    ap (option_and_then (λ (y : World plain). option_map (λ p. (y, p)) (option_and_then (find_world G) y.parent))) fx
    ∙ ap (λ o. option_map (λ p. (x, p)) (option_and_then (find_world G) o)) up
    ∙ ap (option_map (λ p. (x, p))) fz

-- a world with this parent is there
pub parent_found : (G : Worlds) (d q : WorldId) {P : Type 0} → parent_of G d ≡ Some q → ((x : World plain) → find_world G d ≡ Some x → x.parent ≡ Some q → P) → P
parent_found G d q {P = P} h f = by (find_world G d) refl h
  where
    by : (o : Option (World plain)) → find_world G d ≡ o → option_and_then (λ (x : World plain). x.parent) o ≡ Some q → P
    by None e u = absurd (false≢true (ap is_some u))
    by (Some x) e u = f x e u

moved_when : (G : Worlds) (d q : WorldId) → parent_of G d ≡ Some q → has_world G q ≡ true → check_of G d ≡ None → verdict_at G d ≡ moved
unfolding verdict_at
moved_when G d q up there ok = parent_found G d q up (λ x fx p.
    let both = pair_some G d q x (world_at G q) fx p (found_at G q there) in
    let none : fault_in x (world_at G q) ≡ None = sym (ap (option_and_then (λ (e : World plain × World plain). fault_in e.0 e.1)) both) ∙ ok in
    ap (λ o. option_map_or (λ (e : World plain × World plain). verdict_in e.0 e.1) o no_parent) both ∙ ap (λ o. option_map_or differs o moved) none)

module _ (F : Worlds) (i : WorldId) (G : Worlds) (k : IsSession F i G) (d : WorldId) where
  -- what is written in an inner world is settled
  written_settled : (t : Slot) → is_written G d t ≡ true → settled (world_at F i) G t ≡ true
  written_settled t h = by (find_world G d) refl h
    where
      by : (o : Option (World plain)) → find_world G d ≡ o → option_map_or (λ (x : World plain). map.contains_key x.written t) o false ≡ true → settled (world_at F i) G t ≡ true
      by None e h = absurd (false≢true h)
      by (Some x) e h = touched_passes (settled (world_at F i) G) x t (all_find (IsShut (settled (world_at F i) G)) G d x k.shut e) (or_left (has_row x t) (map.contains_key x.closed t.object) (or_right (map.contains_key x.first t) (map.contains_key x.written t) h))

  unwritten : (t : Slot) → settled (world_at F i) G t ≡ false → is_written G d t ≡ false
  unwritten t e = by_bool (is_written G d t) (λ h. absurd (true≢false (sym (written_settled t h) ∙ e))) (λ h. h)

  -- ---- into the session's own world

  module _ (F' : Worlds) (c : Carried F i G d F') (up : parent_of G d ≡ Some i) (ok : check_of G d ≡ None) where
    moves_to : verdict_at G d ≡ moved
    moves_to = moved_when G d i up (inner_there F i G k) ok

    first_now : first_of (after_commit G d) ≡ Some i
    first_now = first_commit G d ∙ k.first

    first_moved : (t : Slot) → map.get (first_copy (after_commit G d)) t ≡ cond (is_written G d t) (content_at G d t) (map.get (first_copy G) t)
    first_moved t =
        first_content (after_commit G d) i t first_now
        ∙ content_after_commit G d moves_to i up i t
        ∙ ap (λ b. cond (is_written G d t && (b || is_below i t G i)) (content_at G d t) (content_at G i t)) (same_self i)
        ∙ and_true (is_written G d t)
        ∙ ap (cond (is_written G d t) (content_at G d t)) (sym (first_content G i t k.first))
      where
        and_true : (b : Bool) → cond (b && true) (content_at G d t) (content_at G i t) ≡ cond b (content_at G d t) (content_at G i t)
        and_true true = refl
        and_true false = refl

    settled_moved : (t : Slot) → settled (world_at F' i) (after_commit G d) t ≡ settled (world_at F i) G t
    settled_moved t =
        (λ j. c.touched t j && same_content same_value (first_moved t j) (c.copy t j))
        ∙ by (is_written G d t) refl
      where
        by : (b : Bool) → is_written G d t ≡ b → ((b || is_touched (world_at F i) t) && same_content same_value (cond b (content_at G d t) (map.get (first_copy G) t)) (cond b (content_at G d t) (map.get (world_at F i).copy t))) ≡ settled (world_at F i) G t
        by true e = same_content_self (content_at G d t) ∙ sym (written_settled t e)
        by false e = refl

    outer_moved : (v : View) (t : Slot) → settled (world_at F i) G t ≡ false → map.get (outer (world_at F' i) v) t ≡ map.get (outer (world_at F i) v) t
    outer_moved v t e =
        get_outer (world_at F' i) v t
        ∙ (λ j. cond (c.touched t j) (c.copy t j) (map.get v t))
        ∙ ap (λ b. cond (b || is_touched (world_at F i) t) (cond b (content_at G d t) (map.get (world_at F i).copy t)) (map.get v t)) (unwritten t e)
        ∙ sym (get_outer (world_at F i) v t)

    pub commit_into : Answered F i G (commit d) (committed (verdict_at G d)) F' (after_commit G d)
    commit_into =
        let w = settled (world_at F i) G in
        answered_by F i G k F' c.grows (commit d) (committed (verdict_at G d)) first_now settled_moved outer_moved
        (shut_after_commit w map.empty G d k.shut)
        (λ o. ap committed (sym (verdict_filled w o G d k.shut)))
        (λ o. filled_commit w o G d k.shut)

  -- ---- another commit

  module _ (past : ¬ ((parent_of G d ≡ Some i) × (check_of G d ≡ None))) where
    content_past : (t : Slot) → content_at (after_commit G d) i t ≡ content_at G i t
    content_past t = by (verdict_at G d) refl
      where
        by : (v : Verdict Slot) → verdict_at G d ≡ v → content_at (after_commit G d) i t ≡ content_at G i t
        by moved e =
            let p = pass G d e in
            let found : find_world G d ≡ Some p.child = ap (find_world G) (sym p.child_id) ∙ p.child_there in
            let up : parent_of G d ≡ Some p.above.id = ap (option_and_then (λ (x : World plain). x.parent)) found ∙ p.up in
            let both = pair_some G d p.above.id p.child p.above found p.up p.above_there in
            let ok : check_of G d ≡ None = ap (option_and_then (λ (e : World plain × World plain). fault_in e.0 e.1)) both ∙ p.no_fault in
            let apart : same_world i p.above.id ≡ false = by_bool (same_world i p.above.id) (λ q. absurd (past (up ∙ ap (λ j. Some j) (sym (world_is i p.above.id q)), ok))) (λ q. q) in
            content_after_commit G d e p.above.id up i t
            ∙ (λ j. cond (is_written G d t && (apart j || below_first F i G k p.above.id t j)) (content_at G d t) (content_at G i t))
            ∙ ap (λ b. cond b (content_at G d t) (content_at G i t)) (and_right (is_written G d t) false refl)
        by (differs s) e = ap (λ H. content_at H i t) (refused_stays G d (λ q. let z : differs s ≡ moved = sym e ∙ q in cc))
        by no_parent e = ap (λ H. content_at H i t) (refused_stays G d (λ q. let z : ◌≡◌ {A = Verdict Slot} no_parent moved = sym e ∙ q in cc))

    pub commit_past : Answered F i G (commit d) (committed (verdict_at G d)) F (after_commit G d)
    commit_past =
        let w = settled (world_at F i) G in
        let first = first_commit G d ∙ k.first in
        answered_by F i G k F (grows_same F i k.shared k.child) (commit d) (committed (verdict_at G d)) first
        (settled_contents F i G k (world_at F i) (after_commit G d) first content_past)
        (λ v t e. refl)
        (shut_after_commit w map.empty G d k.shut)
        (λ o. ap committed (sym (verdict_filled w o G d k.shut)))
        (λ o. filled_commit w o G d k.shut)

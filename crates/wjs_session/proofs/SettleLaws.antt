-- A commit commutes with contents that are put from outside into every world.
use Rattle.std.proofs.Common.{◌≡◌, Bool, true, false, cond, not, ◌&&◌, ◌||◌, List, [], ◌∷◌, ◌++◌, refl, ap, sym, ◌∙◌, fold, filter, map as each, Option, None, Some, is_some, unwrap_or}
use Rattle.std.specs.Option.{option_map, option_map_or, option_and_then, is_none}
use Rattle.std.specs.List.{AllByRecursion}
use Rattle.std.specs.FinMap as map
use Rattle.std.proofs.lemmas.Bool.{true≢false, false≢true, or_left, or_right, or_parts}
use Rattle.std.proofs.lemmas.List.Elements.{filter-append}
use Rattle.wjs_base.specs.declared.ids.ObjId.{ObjId}
use Rattle.wjs_base.specs.declared.ids.WorldId.{WorldId}
use Rattle.wjs_base.specs.declared.values.Slot.{Slot}
use Rattle.wjs_base.specs.declared.values.Value.{Value}
use Rattle.wjs_base.specs.Order.{slot_cmp, slot_total, slot_exact, obj_cmp, obj_total, obj_exact}
use Rattle.wjs_base.specs.Same.{same_value}
use Rattle.wjs_base.proofs.Booleans.{by_bool}
use Rattle.wjs_store.specs.Naming.{plain}
use Rattle.wjs_store.specs.Meaning.{View, Worlds}
use Rattle.wjs_store.specs.State.{World, Verdict, same_world, find_world, has_row, is_touched, same_content, least, fails, fault_in, reads_of, hand_entries, hand_objects, clear_marks, moves, write_all, at_world, settle, with_parent, verdict_in, verdict_at, after_commit, after_write, moved, differs, no_parent}
use Rattle.wjs_store.proofs.Ascending.{same_listed}
use Rattle.wjs_store.proofs.Commits.{pairs, hand_one, hand_on, close_on, pair_parts}
use Rattle.wjs_session.specs.Kept.{IsShut}
use Rattle.wjs_session.specs.Along.{moved_into}
use Rattle.wjs_session.proofs.Worlds.{all_find}
use Rattle.wjs_session.proofs.ShutCommits.{written_pass, shut_settle}
use Rattle.wjs_session.proofs.Filling.{fill_at, filled_write}
use Rattle.wjs_session.specs.Fills.{fill, fill_cond, get_fill, get_outside, find_fill}

module _ (w : Slot → Bool) (o : View) where
  -- ---- the check

  module _ (x y : World plain) (shut : IsShut w x) where
    -- what doesn't pass the test of slots doesn't fail the check
    passed : (z : World plain) (s : Slot) → w s ≡ false → fails x z s ≡ false
    passed z s e =
        let u = or_parts (has_row x s) (map.contains_key x.closed s.object) (shut.untouched s e) in
        let r = or_parts (map.contains_key x.first s) (map.contains_key x.written s) u.0 in
        ap (λ b. option_map_or (λ c. not (same_content same_value c (map.get z.copy s))) (map.get x.first s) false || (b && (map.contains_key z.copy s && not (has_row x s)))) u.1
        ∙ none (map.get x.first s) r.0
      where
        none : (q : Option (Option Value)) → is_some q ≡ false → (option_map_or (λ c. not (same_content same_value c (map.get z.copy s))) q false || false) ≡ false
        none None h = refl
        none (Some c) h = absurd (true≢false h)

    fails_fill : (s : Slot) → fails (fill w o x) (fill w o y) s ≡ fails x y s
    fails_fill s = by_bool (w s)
        (λ e. ap (λ c. option_map_or (λ d. not (same_content same_value d c)) (map.get x.first s) false || (map.contains_key x.closed s.object && (is_some c && not (has_row x s)))) (get_fill w o y s e))
        (λ e. passed (fill w o y) s e ∙ sym (passed y s e))

    fault_fill : fault_in (fill w o x) (fill w o y) ≡ fault_in x y
    fault_fill =
        (λ k. least slot_cmp (filter (λ s. fails_fill s k) (map.keys x.first ++ map.keys (fill w o y).copy)))
        ∙ ap (least slot_cmp) (filter-append (fails x y) (map.keys x.first) (map.keys (fill w o y).copy)
        ∙ ap (λ ss. filter (fails x y) (map.keys x.first) ++ ss) (same_listed slot_total slot_exact (fails x y) (fill w o y).copy y.copy (λ t e. by_bool (w t)
        (λ h. ap is_some (get_fill w o y t h))
        (λ h. absurd (true≢false (sym e ∙ passed y t h)))))
        ∙ sym (filter-append (fails x y) (map.keys x.first) (map.keys y.copy)))

  -- ---- what a commit moves

  hand_fill : (es : List (Slot × Option Value)) (y : World plain) → hand_on es (fill w o y) ≡ fill w o (hand_on es y)
  hand_fill [] y = refl
  hand_fill (e ∷ es) y =
      ap (hand_on es) (by (is_touched y e.0)) ∙ hand_fill es (hand_one y e)
    where
      by : (b : Bool) → cond b (fill w o y) (record (fill w o y) { first = map.insert y.first e.0 e.1 }) ≡ fill w o (cond b y (record y { first = map.insert y.first e.0 e.1 }))
      by true = refl
      by false = refl

  entries_fill : (es : List (Slot × Option Value)) (y : World plain) → hand_entries es (fill w o y) ≡ fill w o (hand_entries es y)
  entries_fill es y = fill_cond w o (is_some y.parent) (hand_on es (fill w o y)) (hand_on es y) y (hand_fill es y)

  close_fill : (os : List ObjId) (y : World plain) → close_on os (fill w o y) ≡ fill w o (close_on os y)
  close_fill [] y = refl
  close_fill (q ∷ os) y = close_fill os (record y { closed = map.insert y.closed q tt })

  objects_fill : (os : List ObjId) (y : World plain) → hand_objects os (fill w o y) ≡ fill w o (hand_objects os y)
  objects_fill os y = fill_cond w o (is_some y.parent) (close_on os (fill w o y)) (close_on os y) y (close_fill os y)

  writes_fill : (p : WorldId) (v : Slot → Option Value) (ks : List Slot) → AllByRecursion (λ (s : Slot). w s ≡ true) ks → (G : Worlds) → write_all p (pairs v ks) (each (fill w o) G) ≡ each (fill w o) (write_all p (pairs v ks) G)
  writes_fill p v [] a G = refl
  writes_fill p v (s ∷ ks) a G = ap (write_all p (pairs v ks)) (filled_write w o G p s (v s) a.0) ∙ writes_fill p v ks a.1 (after_write G p s (v s))

  moves_fill : (x : World plain) (ks : List Slot) → AllByRecursion (λ (s : Slot). w s ≡ true) ks → pairs (map.get (fill w o x).copy) ks ≡ pairs (map.get x.copy) ks
  moves_fill x [] a = refl
  moves_fill x (s ∷ ks) a = λ k. (s, get_fill w o x s a.0 k) ∷ moves_fill x ks a.1 k

  settle_fill : (x : World plain) (p : WorldId) (G : Worlds) → IsShut w x → settle (fill w o x) p (each (fill w o) G) ≡ each (fill w o) (settle x p G)
  settle_fill x p G shut =
      let handed = at_world p (hand_entries (reads_of x)) G in
      let wrote = write_all p (moves x) handed in
      let listed = at_world p (hand_objects (map.keys x.closed)) wrote in
      ap (λ H. at_world x.id clear_marks (at_world p (hand_objects (map.keys x.closed)) (write_all p (moves (fill w o x)) H))) (fill_at w o p (hand_entries (reads_of x)) (entries_fill (reads_of x)) G)
      ∙ ap (λ es. at_world x.id clear_marks (at_world p (hand_objects (map.keys x.closed)) (write_all p es (each (fill w o) handed)))) (moves_fill x (map.keys x.written) (written_pass w x shut))
      ∙ ap (λ H. at_world x.id clear_marks (at_world p (hand_objects (map.keys x.closed)) H)) (writes_fill p (map.get x.copy) (map.keys x.written) (written_pass w x shut) handed)
      ∙ ap (at_world x.id clear_marks) (fill_at w o p (hand_objects (map.keys x.closed)) (objects_fill (map.keys x.closed)) wrote)
      ∙ fill_at w o x.id clear_marks (λ y. refl) listed

  -- ---- a commit

  abbrev both : World plain × World plain → World plain × World plain
  both e = (fill w o e.0, fill w o e.1)

  pair_fill : (G : Worlds) (d : WorldId) → with_parent (each (fill w o) G) d ≡ option_map both (with_parent G d)
  unfolding with_parent
  pair_fill G d =
      ap (option_and_then (λ (x : World plain). option_map (λ p. (x, p)) (option_and_then (find_world (each (fill w o) G)) x.parent))) (find_fill w o G d)
      ∙ by (find_world G d)
    where
      up : (x : World plain) (q : Option WorldId) → option_map (λ p. (fill w o x, p)) (option_and_then (find_world (each (fill w o) G)) q) ≡ option_map both (option_map (λ p. (x, p)) (option_and_then (find_world G) q))
      up x None = refl
      up x (Some q) = ap (option_map (λ p. (fill w o x, p))) (find_fill w o G q) ∙ last (find_world G q)
        where
          last : (r : Option (World plain)) → option_map (λ p. (fill w o x, p)) (option_map (fill w o) r) ≡ option_map both (option_map (λ p. (x, p)) r)
          last None = refl
          last (Some z) = refl

      by : (r : Option (World plain)) → option_and_then (λ (x : World plain). option_map (λ p. (x, p)) (option_and_then (find_world (each (fill w o) G)) x.parent)) (option_map (fill w o) r) ≡ option_map both (option_and_then (λ (x : World plain). option_map (λ p. (x, p)) (option_and_then (find_world G) x.parent)) r)
      by None = refl
      by (Some x) = up x x.parent

  module _ (G : Worlds) (d : WorldId) (shut : AllByRecursion (IsShut w) G) where
    pub verdict_filled : verdict_at (each (fill w o) G) d ≡ verdict_at G d
    unfolding verdict_at
    verdict_filled = ap (λ r. option_map_or (λ (e : World plain × World plain). verdict_in e.0 e.1) r no_parent) (pair_fill G d) ∙ by (with_parent G d) refl
      where
        by : (r : Option (World plain × World plain)) → with_parent G d ≡ r → option_map_or (λ (e : World plain × World plain). verdict_in e.0 e.1) (option_map both r) no_parent ≡ option_map_or (λ (e : World plain × World plain). verdict_in e.0 e.1) r no_parent
        by None e = refl
        by (Some p) e = ap (λ q. option_map_or differs q moved) (fault_fill p.0 p.1 (all_find (IsShut w) G d p.0 shut (pair_parts G d p e).0))

    pub filled_commit : after_commit (each (fill w o) G) d ≡ each (fill w o) (after_commit G d)
    unfolding after_commit
    filled_commit = ap (λ r. option_map_or (λ (e : World plain × World plain). cond (is_none (fault_in e.0 e.1)) (settle e.0 e.1.id (each (fill w o) G)) (each (fill w o) G)) r (each (fill w o) G)) (pair_fill G d) ∙ by (with_parent G d) refl
      where
        by : (r : Option (World plain × World plain)) → with_parent G d ≡ r → option_map_or (λ (e : World plain × World plain). cond (is_none (fault_in e.0 e.1)) (settle e.0 e.1.id (each (fill w o) G)) (each (fill w o) G)) (option_map both r) (each (fill w o) G) ≡ each (fill w o) (option_map_or (λ (e : World plain × World plain). cond (is_none (fault_in e.0 e.1)) (settle e.0 e.1.id G) G) r G)
        by None e = refl
        by (Some p) e =
            let shut_x = all_find (IsShut w) G d p.0 shut (pair_parts G d p e).0 in
            ap (λ q. cond (is_none q) (settle (fill w o p.0) p.1.id (each (fill w o) G)) (each (fill w o) G)) (fault_fill p.0 p.1 shut_x)
            ∙ last (is_none (fault_in p.0 p.1)) shut_x
          where
            last : (b : Bool) → IsShut w p.0 → cond b (settle (fill w o p.0) p.1.id (each (fill w o) G)) (each (fill w o) G) ≡ each (fill w o) (cond b (settle p.0 p.1.id G) G)
            last true s = settle_fill p.0 p.1.id G s
            last false s = refl

    -- what was shut is shut
    pub shut_after_commit : AllByRecursion (IsShut w) (after_commit G d)
    unfolding after_commit
    shut_after_commit = by (with_parent G d) refl
      where
        by : (r : Option (World plain × World plain)) → with_parent G d ≡ r → AllByRecursion (IsShut w) (option_map_or (λ (e : World plain × World plain). cond (is_none (fault_in e.0 e.1)) (settle e.0 e.1.id G) G) r G)
        by None e = shut
        by (Some p) e = last (is_none (fault_in p.0 p.1)) (all_find (IsShut w) G d p.0 shut (pair_parts G d p e).0)
          where
            last : (b : Bool) → IsShut w p.0 → AllByRecursion (IsShut w) (cond b (settle p.0 p.1.id G) G)
            last true s = shut_settle w p.0 p.1.id G s shut
            last false s = shut

    -- what it moves
    pub moved_filled : (i : WorldId) → moved_into i (each (fill w o) G) d ≡ moved_into i G d
    moved_filled i = ap (λ r. option_map_or (λ (e : World plain × World plain). cond (same_world e.1.id i && is_none (fault_in e.0 e.1)) (moves e.0) []) r []) (pair_fill G d) ∙ by (with_parent G d) refl
      where
        by : (r : Option (World plain × World plain)) → with_parent G d ≡ r → option_map_or (λ (e : World plain × World plain). cond (same_world e.1.id i && is_none (fault_in e.0 e.1)) (moves e.0) []) (option_map both r) [] ≡ option_map_or (λ (e : World plain × World plain). cond (same_world e.1.id i && is_none (fault_in e.0 e.1)) (moves e.0) []) r []
        by None e = refl
        by (Some p) e =
            let shut_x = all_find (IsShut w) G d p.0 shut (pair_parts G d p e).0 in
            ap (λ q. cond (same_world p.1.id i && is_none q) (moves (fill w o p.0)) []) (fault_fill p.0 p.1 shut_x)
            ∙ ap (λ es. cond (same_world p.1.id i && is_none (fault_in p.0 p.1)) es []) (moves_fill p.0 (map.keys p.0.written) (written_pass w p.0 shut_x))

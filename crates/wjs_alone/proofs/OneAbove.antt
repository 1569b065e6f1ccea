-- One world above another: what a commit moves into it, and its check.
use Rattle.std.proofs.Common.{◌≡◌, Bool, true, false, cond, not, ◌&&◌, ◌||◌, List, [], ◌∷◌, ◌++◌, refl, ap, ◌∙◌, filter, map as each, Option, None, Some, is_some, is_none, unwrap_or}
use Rattle.std.specs.Option.{option_map, option_map_or, option_and_then}
use Rattle.std.specs.FinMap as map
use Rattle.wjs_base.specs.declared.ids.WorldId.{WorldId}
use Rattle.wjs_base.specs.Order.{obj_cmp}
use Rattle.wjs_store.specs.Naming.{Naming}
use Rattle.wjs_store.specs.State.{World, State, same_world, find_world, has_row, same_content, least, fails, fault_in, reads_of, moves, hand_entries, hand_objects, clear_marks, write_in, write_at, write_all, at_world, settle, is_below, put, after_write, with_parent, verdict_in, verdict_at, after_commit, moved, differs, no_parent}
use Rattle.wjs_store.proofs.Invariant.{same_turned}
use Rattle.wjs_store.proofs.Writes.{same_self}
use Rattle.wjs_store.proofs.Commits.{find_head, find_tail}
use Rattle.wjs_by_content.proofs.Keys.{firsts, empty_entries}
use Rattle.wjs_session.specs.Along.{write_each}

cond_same : {A : Type 0} (b : Bool) (x : A) → cond b x x ≡ x
cond_same true x = refl
cond_same false x = refl

filter_none : {K : Type 0} (p : K → Bool) → ((k : K) → p k ≡ false) → (ks : List K) → filter p ks ≡ []
filter_none p h [] = refl
filter_none p h (k ∷ ks) = ap (λ b. cond b (k ∷ filter p ks) (filter p ks)) (h k) ∙ filter_none p h ks

module _ {K V : Type 0} {n : Naming K V} where
  each_id : (es : List (K × Option V)) (x : World n) → (write_each es x).id ≡ x.id
  each_id [] x = refl
  each_id (e ∷ es) x = each_id es (write_in e.0 e.1 x)

  -- writes in the second of two worlds; the first one keeps its number
  pub record Second (y x : World n) (F : State n) : Type 0 where
    pub first : World n
    pub id : first.id ≡ y.id
    pub is : F ≡ first ∷ x ∷ []

  second_write : (y x : World n) (s : K) (c : Option V) → same_world y.id x.id ≡ false → Second y (write_in s c x) (after_write (y ∷ x ∷ []) x.id s c)
  unfolding after_write
  second_write y x s c apart = record {
    first = write_at (y ∷ x ∷ []) x.id s c y;
    id = ap (λ b. (cond b (write_in s c y) (cond (is_below x.id s (y ∷ x ∷ []) y.id) (record y { copy = put y.copy s c }) y)).id) apart ∙ by (is_below x.id s (y ∷ x ∷ []) y.id);
    is = ap (λ b. write_at (y ∷ x ∷ []) x.id s c y ∷ cond b (write_in s c x) (cond (is_below x.id s (y ∷ x ∷ []) x.id) (record x { copy = put x.copy s c }) x) ∷ []) (same_self x.id);
  }
    where
      by : (b : Bool) → (cond b (record y { copy = put y.copy s c }) y).id ≡ y.id
      by true = refl
      by false = refl

  second_writes : (es : List (K × Option V)) (y x : World n) → same_world y.id x.id ≡ false → Second y (write_each es x) (write_all x.id es (y ∷ x ∷ []))
  second_writes [] y x apart = record { first = y; id = refl; is = refl }
  second_writes (e ∷ es) y x apart =
      let a = second_write y x e.0 e.1 apart in
      let b = second_writes es a.first (write_in e.0 e.1 x) (ap (λ i. same_world i x.id) a.id ∙ apart) in
      record { first = b.first; id = b.id ∙ a.id; is = ap (write_all x.id es) a.is ∙ b.is }

  -- a change that changes nothing
  idle_two : (i : WorldId) (f : World n → World n) → ((z : World n) → f z ≡ z) → (y x : World n) → at_world i f (y ∷ x ∷ []) ≡ y ∷ x ∷ []
  idle_two i f e y x =
      (λ k. cond (same_world y.id i) (e y k) y ∷ cond (same_world x.id i) (e x k) x ∷ [])
      ∙ (λ k. cond_same (same_world y.id i) y k ∷ cond_same (same_world x.id i) x k ∷ [])

  -- ---- y is a child of x; it has read and listed nothing

  module _ (y x : World n) (up : y.parent ≡ Some x.id) (apart : same_world y.id x.id ≡ false) where
    pair_of : with_parent (y ∷ x ∷ []) y.id ≡ Some (y, x)
    unfolding with_parent
    pair_of =
        ap (option_and_then (λ (z : World n). option_map (λ p. (z, p)) (option_and_then (find_world (y ∷ x ∷ [])) z.parent))) (find_head y (x ∷ []))
        ∙ ap (λ o. option_map (λ p. (y, p)) (option_and_then (find_world (y ∷ x ∷ [])) o)) up
        ∙ ap (option_map (λ p. (y, p))) (find_tail y (x ∷ []) x.id apart ∙ find_head x [])

    pub verdict_of_pair : verdict_at (y ∷ x ∷ []) y.id ≡ option_map_or differs (fault_in y x) moved
    unfolding verdict_at
    verdict_of_pair = ap (λ o. option_map_or (λ (e : World n × World n). verdict_in e.0 e.1) o no_parent) pair_of

    module _ (bare : y.first ≡ map.empty) (unlisted : y.closed ≡ map.empty) where
      no_fault : fault_in y x ≡ None
      no_fault = ap (least n.cmp) (filter_none (fails y x) never (map.keys y.first ++ map.keys x.copy))
        where
          never : (s : K) → fails y x s ≡ false
          never s =
              let none = ap (λ f. map.get f s) bare ∙ map.get-empty n.cmp s in
              let no = ap (λ f. map.get f (n.object s)) unlisted ∙ map.get-empty obj_cmp (n.object s) in
              λ k. option_map_or (λ c. not (same_content n.same c (map.get x.copy s))) (none k) false || (is_some (no k) && (map.contains_key x.copy s && not (has_row y s)))

      -- nothing is handed up
      no_entries : (z : World n) → hand_entries (reads_of y) z ≡ z
      no_entries z =
          ap (λ ks. hand_entries (each (λ (s : K). (s, unwrap_or (map.get y.first s) None)) ks) z) (ap map.keys bare ∙ ap firsts (empty_entries n.cmp))
          ∙ cond_same (is_some z.parent) z

      no_objects : (z : World n) → hand_objects (map.keys y.closed) z ≡ z
      no_objects z = ap (λ os. hand_objects os z) (ap map.keys unlisted ∙ ap firsts (empty_entries obj_cmp)) ∙ cond_same (is_some z.parent) z

      -- so its commit writes in x what it has written, and does nothing else there
      pub commit_of_pair : Second y (write_each (moves y) x) (after_commit (y ∷ x ∷ []) y.id)
      unfolding after_commit
      commit_of_pair =
          let H : State n = y ∷ x ∷ [] in
          let w = second_writes (moves y) y x apart in
          let A = write_each (moves y) x in
          let past : same_world A.id y.id ≡ false = ap (λ i. same_world i y.id) (each_id (moves y) x) ∙ same_turned y.id x.id apart in
          record {
            first = cond (same_world w.first.id y.id) (clear_marks w.first) w.first;
            id = kept (same_world w.first.id y.id) w.first ∙ w.id;
            is =
                ap (λ o. option_map_or (λ (e : World n × World n). cond (is_none (fault_in e.0 e.1)) (settle e.0 e.1.id H) H) o H) pair_of
                ∙ ap (λ o. cond (is_none o) (settle y x.id H) H) no_fault
                ∙ ap (λ G. at_world y.id clear_marks (at_world x.id (hand_objects (map.keys y.closed)) (write_all x.id (moves y) G))) (idle_two x.id (hand_entries (reads_of y)) no_entries y x)
                ∙ ap (λ G. at_world y.id clear_marks (at_world x.id (hand_objects (map.keys y.closed)) G)) w.is
                ∙ ap (at_world y.id clear_marks) (idle_two x.id (hand_objects (map.keys y.closed)) no_objects w.first A)
                ∙ (λ k. cond (same_world w.first.id y.id) (clear_marks w.first) w.first ∷ cond (past k) (clear_marks A) A ∷ []);
          }
        where
          kept : (b : Bool) (z : World n) → (cond b (clear_marks z) z).id ≡ z.id
          kept true z = refl
          kept false z = refl

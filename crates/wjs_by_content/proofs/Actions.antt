-- A sprout, a listing and a commit commute with a renaming.
use Rattle.std.proofs.Common.{◌≡◌, ℕ, ◌+◌, ◌==◌, Bool, true, false, cond, not, ◌&&◌, ◌||◌, List, [], ◌∷◌, ◌++◌, refl, ap, sym, ◌∙◌, subst, fold, filter, map as each, Option, None, Some, is_some, is_none, Ordering, IsPermutation}
use Rattle.std.specs.Prelude.{unwrap_or}
use Rattle.std.specs.Option.{option_map, option_map_or, option_and_then}
use Rattle.std.specs.List.{list_any}
use Rattle.std.specs.FinMap as map
use Rattle.std.specs.FinMap.{FinMap}
use Rattle.std.proofs.lemmas.Bool.{true≢false, false≢true}
use Rattle.std.proofs.lemmas.List.Sorted.{IsPermutation-refl}
use Rattle.std.proofs.lemmas.List.Folds.{list_any-append}
use Rattle.wjs_base.specs.declared.ids.WorldId.{WorldId}
use Rattle.wjs_base.specs.declared.ids.ObjId.{ObjId}
use Rattle.wjs_base.proofs.Options.{some_map}
use Rattle.wjs_store.proofs.Commits.{some_lesser}
use Rattle.wjs_store.specs.Naming.{Naming}
use Rattle.wjs_store.specs.State.{World, State, same_world, same_object, find_world, has_row, is_touched, read_in, read_all, slots_in, slots_at, close_in, list_in, after_list, count_of, next_id, child_of, after_sprout, same_content, lesser, fails, fault_in, reads_of, hand_entries, hand_objects, clear_marks, moves, write_all, at_world, settle, with_parent, verdict_in, verdict_at, after_commit, after_write, moved, differs, no_parent}
use Rattle.wjs_by_content.proofs.Maps.{get_renamed, renamed_insert}
use Rattle.wjs_by_content.proofs.Keys.{Reorder, keys_renamed, folds, folds_of, anys, permutes, empty_entries}
use Rattle.wjs_by_content.proofs.Swaps.{reads_commute, hands_commute, hand_at, writes_commute}
use Rattle.wjs_by_content.proofs.Steps.{map_cond, each_each, row_alike, touched_alike, copy_alike, find_alike, read_in_alike, write_alike}
use Rattle.wjs_by_content.specs.Rename.{renamed, shape}
use Rattle.wjs_by_content.proofs.Renaming.{Renaming, renamed_state, renamed_world}

-- ---- lists

each_if : {A B : Type 0} (f : A → B) (b : Bool) (x : A) (xs : List A) → each f (cond b (x ∷ xs) xs) ≡ cond b (f x ∷ each f xs) (each f xs)
each_if f true x xs = refl
each_if f false x xs = refl

filter_each : {A B : Type 0} (f : A → B) (p : B → Bool) (q : A → Bool) → ((x : A) → p (f x) ≡ q x) → (xs : List A) → filter p (each f xs) ≡ each f (filter q xs)
filter_each f p q e [] = refl
filter_each f p q e (x ∷ xs) = ap (λ b. cond b (f x ∷ filter p (each f xs)) (filter p (each f xs))) (e x) ∙ ap (λ ys. cond (q x) (f x ∷ ys) ys) (filter_each f p q e xs) ∙ sym (each_if f (q x) x (filter q xs))

fold_each : {A B C : Type 0} (step : C → B → C) (f : A → B) (z : C) (xs : List A) → fold step z (each f xs) ≡ fold (λ y x. step y (f x)) z xs
fold_each step f z [] = refl
fold_each step f z (x ∷ xs) = fold_each step f (step z (f x)) xs

fold_alike : {A B C D : Type 0} (step : C → A → C) (then : D → B → D) (f : A → B) (g : C → D) → ((z : C) (a : A) → g (step z a) ≡ then (g z) (f a)) → (z : C) (xs : List A) → g (fold step z xs) ≡ fold then (g z) (each f xs)
fold_alike step then f g e z [] = refl
fold_alike step then f g e z (x ∷ xs) = fold_alike step then f g e (step z x) xs ∙ ap (λ y. fold then y (each f xs)) (e z x)

any_each : {A B : Type 0} (f : A → B) (p : B → Bool) (q : A → Bool) → ((x : A) → p (f x) ≡ q x) → (xs : List A) → list_any p (each f xs) ≡ list_any q xs
any_each f p q e [] = refl
any_each f p q e (x ∷ xs) = ap (λ b. b || list_any p (each f xs)) (e x) ∙ ap (λ b. q x || b) (any_each f p q e xs)

-- ---- the least that passes

or_true : (a b : Bool) → (a || (true || b)) ≡ true
or_true true b = refl
or_true false b = refl

some_from : {K : Type 0} (R : K → K → Ordering) (p : K → Bool) (ss : List K) (o : Option K) → is_some (fold (lesser R) o (filter p ss)) ≡ (is_some o || list_any p ss)
some_from R p [] None = refl
some_from R p [] (Some t) = refl
some_from {K} R p (s ∷ ss) o = by (p s) (λ q. some_from R p ss q)
  where
    by : (b : Bool) → ((q : Option K) → is_some (fold (lesser R) q (filter p ss)) ≡ (is_some q || list_any p ss)) → is_some (fold (lesser R) o (cond b (s ∷ filter p ss) (filter p ss))) ≡ (is_some o || (b || list_any p ss))
    by true h = h (lesser R o s) ∙ ap (λ b. b || list_any p ss) (some_lesser R o s) ∙ sym (or_true (is_some o) (list_any p ss))
    by false h = h o

none_some : {A : Type 0} (o : Option A) → is_none o ≡ not (is_some o)
none_some None = refl
none_some (Some a) = refl

-- ---- options

unwrap_map : {V W : Type 0} (g : V → W) (o : Option (Option V)) → unwrap_or (option_map (option_map g) o) None ≡ option_map g (unwrap_or o None)
unwrap_map g None = refl
unwrap_map g (Some c) = refl

module _ {K V J W : Type 0} {n : Naming K V} {m : Naming J W} (r : Renaming n m) where
  keys_alike : {X Y : Type 0} (L : List J → List J → Type 0) → Reorder m.cmp L → (g : X → Y) (f : FinMap n.cmp X) → L (each r.slot (map.keys f)) (map.keys (renamed {S = m.cmp} r.slot g f))
  keys_alike L l g f = keys_renamed n.total n.exact m.total m.exact r.slot r.slots_tell L l g f

  pub empty_alike : {X Y : Type 0} (g : X → Y) → renamed {S = m.cmp} r.slot g (map.empty {X = X} {R = n.cmp}) ≡ map.empty
  empty_alike {X} {Y} g = ap (λ (es : List (K × X)). map.from_entries {R = m.cmp} (each (λ e. (r.slot e.0, g e.1)) es)) (empty_entries n.cmp)

  at_alike : (i : WorldId) (f : World n → World n) (h : World m → World m) → ((x : World n) → renamed_world r (f x) ≡ h (renamed_world r x)) → (F : State n) → renamed_state r (at_world i f F) ≡ at_world i h (renamed_state r F)
  at_alike i f h e F = each_each (renamed_world r) (λ x. cond (same_world x.id i) (f x) x) (λ x. cond (same_world x.id i) (h x) x) (renamed_world r)
      (λ x. map_cond (renamed_world r) (same_world x.id i) (f x) x ∙ ap (λ y. cond (same_world x.id i) y (renamed_world r x)) (e x)) F

  -- ---- sprout

  pub count_alike : (owner : ℕ) (F : State n) → count_of owner (renamed_state r F) ≡ count_of owner F
  count_alike owner [] = refl
  count_alike owner (x ∷ F) = ap (λ k. cond (x.id.owner == owner) 1 0 + k) (count_alike owner F)

  pub next_alike : (F : State n) (owner : ℕ) → next_id (renamed_state r F) owner ≡ next_id F owner
  next_alike F owner = λ i. record { owner = owner; serial = count_alike owner F i }

  child_alike : (x : World n) (i : WorldId) (strict : Bool) → renamed_world r (child_of x i strict) ≡ child_of (renamed_world r x) i strict
  child_alike x i strict = λ j. record { id = i; parent = Some x.id; strict = strict; copy = renamed r.slot r.value x.copy; first = empty_alike (option_map r.value) j; written = empty_alike (λ u. u) j; closed = map.empty }

  sprout_found : (F : State n) (i : WorldId) (strict : Bool) (o : Option (World n)) → renamed_state r (option_map_or (λ (x : World n). child_of x i strict ∷ F) o F) ≡ option_map_or (λ (x : World m). child_of x i strict ∷ renamed_state r F) (option_map (renamed_world r) o) (renamed_state r F)
  sprout_found F i strict None = refl
  sprout_found F i strict (Some x) = ap (λ (y : World m). y ∷ renamed_state r F) (child_alike x i strict)

  pub sprout_alike : (F : State n) (w : WorldId) (owner : ℕ) (strict : Bool) → renamed_state r (after_sprout F w owner strict) ≡ after_sprout (renamed_state r F) w owner strict
  unfolding after_sprout
  sprout_alike F w owner strict =
      sprout_found F (next_id F owner) strict (find_world F w)
      ∙ ap (λ i. option_map_or (λ (x : World m). child_of x i strict ∷ renamed_state r F) (option_map (renamed_world r) (find_world F w)) (renamed_state r F)) (sym (next_alike F owner))
      ∙ ap (λ o. option_map_or (λ (x : World m). child_of x (next_id (renamed_state r F) owner) strict ∷ renamed_state r F) o (renamed_state r F)) (sym (find_alike r F w))

  -- ---- list

  slots_filter : (o : ObjId) (ks : List K) → filter (λ s. same_object (m.object s) o) (each r.slot ks) ≡ each r.slot (filter (λ s. same_object (n.object s) o) ks)
  slots_filter o ks = filter_each r.slot (λ s. same_object (m.object s) o) (λ s. same_object (n.object s) o) (λ s. ap (λ b. same_object b o) (r.object s)) ks

  slots_permute : (o : ObjId) (x : World n) → IsPermutation (each r.slot (slots_in o x)) (slots_in o (renamed_world r x))
  slots_permute o x = subst (λ ks. IsPermutation ks (slots_in o (renamed_world r x))) (slots_filter o (map.keys x.copy))
      (keys_alike (λ xs ys. IsPermutation (filter (λ s. same_object (m.object s) o) xs) (filter (λ s. same_object (m.object s) o) ys)) (permutes m.cmp (λ s. same_object (m.object s) o)) r.value x.copy)

  slots_of_found : (o : ObjId) (q : Option (World n)) → IsPermutation (each r.slot (option_map_or (slots_in o) q [])) (option_map_or (slots_in o) (option_map (renamed_world r) q) [])
  slots_of_found o None = IsPermutation-refl []
  slots_of_found o (Some x) = slots_permute o x

  -- the same slots are listed, in another order
  pub slots_alike : (F : State n) (w : WorldId) (o : ObjId) → IsPermutation (each r.slot (slots_at F w o)) (slots_at (renamed_state r F) w o)
  slots_alike F w o = subst (λ q. IsPermutation (each r.slot (slots_at F w o)) (option_map_or (slots_in o) q [])) (sym (find_alike r F w)) (slots_of_found o (find_world F w))

  list_reads : (o : ObjId) (x : World n) → renamed_world r (read_all (slots_in o x) x) ≡ read_all (slots_in o (renamed_world r x)) (renamed_world r x)
  list_reads o x =
      let y = renamed_world r x in
      let p = λ (s : J). same_object (m.object s) o in
      let step = λ (z : World m) (s : J). read_in s z in
      fold_alike (λ (z : World n) s. read_in s z) step r.slot (renamed_world r) (read_in_alike r) x (slots_in o x)
      ∙ ap (fold step y) (sym (slots_filter o (map.keys x.copy)))
      ∙ sym (keys_alike (λ xs ys. (z : World m) → fold step z (filter p ys) ≡ fold step z (filter p xs)) (folds_of m.cmp p step reads_commute) r.value x.copy y)

  close_alike : (o : ObjId) (x : World n) → renamed_world r (close_in o x) ≡ close_in o (renamed_world r x)
  close_alike o x = map_cond (renamed_world r) (is_some x.parent) (record x { closed = map.insert x.closed o tt }) x

  list_in_alike : (o : ObjId) (x : World n) → renamed_world r (list_in o x) ≡ list_in o (renamed_world r x)
  list_in_alike o x = close_alike o (read_all (slots_in o x) x) ∙ ap (close_in o) (list_reads o x)

  pub list_alike : (F : State n) (w : WorldId) (o : ObjId) → renamed_state r (after_list F w o) ≡ after_list (renamed_state r F) w o
  unfolding after_list
  list_alike F w o = at_alike w (list_in o) (list_in o) (list_in_alike o) F

  -- ---- what a commit hands up and writes

  first_value : (x : World n) (s : K) → unwrap_or (map.get (renamed_world r x).first (r.slot s)) None ≡ option_map r.value (unwrap_or (map.get x.first s) None)
  first_value x s = ap (λ o. unwrap_or o None) (get_renamed n.total n.exact m.total m.exact r.slot r.slots_tell (option_map r.value) x.first s) ∙ unwrap_map r.value (map.get x.first s)

  hand_alike : (v : K → Option V) (u : J → Option W) → ((s : K) → u (r.slot s) ≡ option_map r.value (v s)) → (y : World n) (s : K) → renamed_world r (hand_at v y s) ≡ hand_at u (renamed_world r y) (r.slot s)
  hand_alike v u e y s =
      map_cond (renamed_world r) (is_touched y s) y (record y { first = map.insert y.first s (v s) })
      ∙ ap (λ b. cond b (renamed_world r y) (renamed_world r (record y { first = map.insert y.first s (v s) }))) (sym (touched_alike r y s))
      ∙ ap (λ f. cond (is_touched (renamed_world r y) (r.slot s)) (renamed_world r y) (record (renamed_world r y) { first = f }))
      (renamed_insert n.total n.exact m.total m.exact r.slot r.slots_tell (option_map r.value) y.first s (v s) ∙ ap (map.insert (renamed_world r y).first (r.slot s)) (sym (e s)))

  entries_alike : (x y : World n) → renamed_world r (hand_entries (reads_of x) y) ≡ hand_entries (reads_of (renamed_world r x)) (renamed_world r y)
  entries_alike x y =
      let v = λ (s : K). unwrap_or (map.get x.first s) None in
      let u = λ (s : J). unwrap_or (map.get (renamed_world r x).first s) None in
      let step = λ (z : World n) (e : K × Option V). cond (is_touched z e.0) z (record z { first = map.insert z.first e.0 e.1 }) in
      let step2 = λ (z : World m) (e : J × Option W). cond (is_touched z e.0) z (record z { first = map.insert z.first e.0 e.1 }) in
      let all =
      ap (renamed_world r) (fold_each step (λ s. (s, v s)) y (map.keys x.first))
      ∙ fold_alike (hand_at v) (hand_at u) r.slot (renamed_world r) (hand_alike v u (first_value x)) y (map.keys x.first)
      ∙ sym (keys_alike (λ xs ys. (z : World m) → fold (hand_at u) z ys ≡ fold (hand_at u) z xs) (folds m.cmp (hand_at u) (hands_commute u)) (option_map r.value) x.first (renamed_world r y))
      ∙ sym (fold_each step2 (λ s. (s, u s)) (renamed_world r y) (map.keys (renamed_world r x).first)) in
      map_cond (renamed_world r) (is_some y.parent) (fold step y (reads_of x)) y ∙ ap (λ z. cond (is_some y.parent) z (renamed_world r y)) all

  objects_fold : (os : List ObjId) (y : World n) → renamed_world r (fold (λ (z : World n) o. record z { closed = map.insert z.closed o tt }) y os) ≡ fold (λ (z : World m) o. record z { closed = map.insert z.closed o tt }) (renamed_world r y) os
  objects_fold [] y = refl
  objects_fold (o ∷ os) y = objects_fold os (record y { closed = map.insert y.closed o tt })

  objects_alike : (os : List ObjId) (y : World n) → renamed_world r (hand_objects os y) ≡ hand_objects os (renamed_world r y)
  objects_alike os y = map_cond (renamed_world r) (is_some y.parent) (fold (λ (z : World n) o. record z { closed = map.insert z.closed o tt }) y os) y ∙ ap (λ z. cond (is_some y.parent) z (renamed_world r y)) (objects_fold os y)

  clear_alike : (x : World n) → renamed_world r (clear_marks x) ≡ clear_marks (renamed_world r x)
  clear_alike x = λ j. record { id = x.id; parent = x.parent; strict = x.strict; copy = renamed r.slot r.value x.copy; first = empty_alike (option_map r.value) j; written = empty_alike (λ u. u) j; closed = map.empty }

  moves_alike : (x : World n) (p : WorldId) (F : State n) → renamed_state r (write_all p (moves x) F) ≡ write_all p (moves (renamed_world r x)) (renamed_state r F)
  moves_alike x p F =
      let y = renamed_world r x in
      let step = λ (G : State m) (s : J). after_write G p s (map.get y.copy s) in
      ap (renamed_state r) (fold_each (λ (G : State n) (e : K × Option V). after_write G p e.0 e.1) (λ s. (s, map.get x.copy s)) F (map.keys x.written))
      ∙ fold_alike (λ (G : State n) (s : K). after_write G p s (map.get x.copy s)) step r.slot (renamed_state r) (λ G s. write_alike r G p s (map.get x.copy s) ∙ ap (after_write (renamed_state r G) p (r.slot s)) (sym (copy_alike r x s))) F (map.keys x.written)
      ∙ sym (keys_alike (λ xs ys. (G : State m) → fold step G ys ≡ fold step G xs) (folds m.cmp step (writes_commute p (map.get y.copy))) (λ u. u) x.written (renamed_state r F))
      ∙ sym (fold_each (λ (G : State m) (e : J × Option W). after_write G p e.0 e.1) (λ s. (s, map.get y.copy s)) (renamed_state r F) (map.keys y.written))

  settle_alike : (x : World n) (p : WorldId) (F : State n) → renamed_state r (settle x p F) ≡ settle (renamed_world r x) p (renamed_state r F)
  settle_alike x p F =
      let y = renamed_world r x in
      let reads = at_world p (hand_entries (reads_of x)) F in
      let writes = write_all p (moves x) reads in
      let closes = at_world p (hand_objects (map.keys x.closed)) writes in
      at_alike x.id clear_marks clear_marks clear_alike closes
      ∙ ap (at_world x.id clear_marks) (at_alike p (hand_objects (map.keys x.closed)) (hand_objects (map.keys x.closed)) (objects_alike (map.keys x.closed)) writes)
      ∙ ap (λ G. at_world x.id clear_marks (at_world p (hand_objects (map.keys x.closed)) G)) (moves_alike x p reads)
      ∙ ap (λ G. at_world x.id clear_marks (at_world p (hand_objects (map.keys x.closed)) (write_all p (moves y) G))) (at_alike p (hand_entries (reads_of x)) (hand_entries (reads_of y)) (entries_alike x) F)

  -- ---- the check of a commit

  value_alike : (a b : V) → m.same (r.value a) (r.value b) ≡ n.same a b
  value_alike a b = by (n.same a b) refl (m.same (r.value a) (r.value b)) refl
    where
      by : (p : Bool) → n.same a b ≡ p → (q : Bool) → m.same (r.value a) (r.value b) ≡ q → q ≡ p
      by true e true f = refl
      by true e false f = absurd (true≢false (sym ((m.decides (r.value a) (r.value b)).1 (ap r.value ((n.decides a b).0 e))) ∙ f))
      by false e true f = absurd (true≢false (sym ((n.decides a b).1 (r.values_tell a b ((m.decides (r.value a) (r.value b)).0 f))) ∙ e))
      by false e false f = refl

  content_same : (a b : Option V) → same_content m.same (option_map r.value a) (option_map r.value b) ≡ same_content n.same a b
  content_same None None = refl
  content_same None (Some b) = refl
  content_same (Some a) None = refl
  content_same (Some a) (Some b) = value_alike a b

  differs_alike : (o : Option (Option V)) (d : Option V) → option_map_or (λ c. not (same_content m.same c (option_map r.value d))) (option_map (option_map r.value) o) false ≡ option_map_or (λ c. not (same_content n.same c d)) o false
  differs_alike None d = refl
  differs_alike (Some c) d = ap not (content_same c d)

  pub fails_alike : (x p : World n) (s : K) → fails (renamed_world r x) (renamed_world r p) (r.slot s) ≡ fails x p s
  fails_alike x p s =
      let y = renamed_world r x in
      let q = renamed_world r p in
      let reads =
      ap (λ d. option_map_or (λ c. not (same_content m.same c d)) (map.get y.first (r.slot s)) false) (copy_alike r p s)
      ∙ ap (λ o. option_map_or (λ c. not (same_content m.same c (option_map r.value (map.get p.copy s)))) o false) (get_renamed n.total n.exact m.total m.exact r.slot r.slots_tell (option_map r.value) x.first s)
      ∙ differs_alike (map.get x.first s) (map.get p.copy s) in
      let lists =
      ap (λ o. map.contains_key x.closed o && (map.contains_key q.copy (r.slot s) && not (has_row y (r.slot s)))) (r.object s)
      ∙ ap (λ b. map.contains_key x.closed (n.object s) && (b && not (has_row y (r.slot s)))) (ap is_some (copy_alike r p s) ∙ some_map r.value (map.get p.copy s))
      ∙ ap (λ b. map.contains_key x.closed (n.object s) && (map.contains_key p.copy s && not b)) (row_alike r x s) in
      λ i. reads i || lists i

  any_keys : {X Y : Type 0} (p : J → Bool) (q : K → Bool) → ((s : K) → p (r.slot s) ≡ q s) → (g : X → Y) (f : FinMap n.cmp X) → list_any p (map.keys (renamed {S = m.cmp} r.slot g f)) ≡ list_any q (map.keys f)
  any_keys p q e g f = keys_alike (λ xs ys. list_any p ys ≡ list_any p xs) (anys m.cmp p) g f ∙ any_each r.slot p q e (map.keys f)

  fault_alike : (x p : World n) → is_some (fault_in (renamed_world r x) (renamed_world r p)) ≡ is_some (fault_in x p)
  fault_alike x p =
      let y = renamed_world r x in
      let q = renamed_world r p in
      some_from m.cmp (fails y q) (map.keys y.first ++ map.keys q.copy) None
      ∙ list_any-append (fails y q) (map.keys y.first) (map.keys q.copy)
      ∙ ap (λ b. b || list_any (fails y q) (map.keys q.copy)) (any_keys (fails y q) (fails x p) (fails_alike x p) (option_map r.value) x.first)
      ∙ ap (λ b. list_any (fails x p) (map.keys x.first) || b) (any_keys (fails y q) (fails x p) (fails_alike x p) r.value p.copy)
      ∙ sym (list_any-append (fails x p) (map.keys x.first) (map.keys p.copy))
      ∙ sym (some_from n.cmp (fails x p) (map.keys x.first ++ map.keys p.copy) None)

  -- ---- commit

  abbrev renamed_pair : World n × World n → World m × World m
  renamed_pair e = (renamed_world r e.0, renamed_world r e.1)

  pair_found : (x : World n) (o : Option (World n)) → option_map (λ p. (renamed_world r x, p)) (option_map (renamed_world r) o) ≡ option_map renamed_pair (option_map (λ p. (x, p)) o)
  pair_found x None = refl
  pair_found x (Some p) = refl

  pair_by : (F : State n) (x : World n) (o : Option WorldId) → option_map (λ p. (renamed_world r x, p)) (option_and_then (find_world (renamed_state r F)) o) ≡ option_map renamed_pair (option_map (λ p. (x, p)) (option_and_then (find_world F) o))
  pair_by F x None = refl
  pair_by F x (Some i) = ap (option_map (λ p. (renamed_world r x, p))) (find_alike r F i) ∙ pair_found x (find_world F i)

  with_found : (F : State n) (o : Option (World n)) → option_and_then (λ (x : World m). option_map (λ p. (x, p)) (option_and_then (find_world (renamed_state r F)) x.parent)) (option_map (renamed_world r) o) ≡ option_map renamed_pair (option_and_then (λ (x : World n). option_map (λ p. (x, p)) (option_and_then (find_world F) x.parent)) o)
  with_found F None = refl
  with_found F (Some x) = pair_by F x x.parent

  with_alike : (F : State n) (w : WorldId) → with_parent (renamed_state r F) w ≡ option_map renamed_pair (with_parent F w)
  unfolding with_parent
  with_alike F w = ap (option_and_then (λ (x : World m). option_map (λ p. (x, p)) (option_and_then (find_world (renamed_state r F)) x.parent))) (find_alike r F w) ∙ with_found F (find_world F w)

  passes_alike : (x p : World n) → is_none (fault_in (renamed_world r x) (renamed_world r p)) ≡ is_none (fault_in x p)
  passes_alike x p = none_some (fault_in (renamed_world r x) (renamed_world r p)) ∙ ap not (fault_alike x p) ∙ sym (none_some (fault_in x p))

  commit_found : (F : State n) (o : Option (World n × World n)) → renamed_state r (option_map_or (λ (e : World n × World n). cond (is_none (fault_in e.0 e.1)) (settle e.0 e.1.id F) F) o F) ≡ option_map_or (λ (e : World m × World m). cond (is_none (fault_in e.0 e.1)) (settle e.0 e.1.id (renamed_state r F)) (renamed_state r F)) (option_map renamed_pair o) (renamed_state r F)
  commit_found F None = refl
  commit_found F (Some e) =
      map_cond (renamed_state r) (is_none (fault_in e.0 e.1)) (settle e.0 e.1.id F) F
      ∙ ap (λ b. cond b (renamed_state r (settle e.0 e.1.id F)) (renamed_state r F)) (sym (passes_alike e.0 e.1))
      ∙ ap (λ G. cond (is_none (fault_in (renamed_world r e.0) (renamed_world r e.1))) G (renamed_state r F)) (settle_alike e.0 e.1.id F)

  pub commit_alike : (F : State n) (w : WorldId) → renamed_state r (after_commit F w) ≡ after_commit (renamed_state r F) w
  unfolding after_commit
  commit_alike F w = commit_found F (with_parent F w) ∙ ap (λ o. option_map_or (λ (e : World m × World m). cond (is_none (fault_in e.0 e.1)) (settle e.0 e.1.id (renamed_state r F)) (renamed_state r F)) o (renamed_state r F)) (sym (with_alike F w))

  verdict_by : (o : Option K) (q : Option J) → is_some q ≡ is_some o → shape (option_map_or differs q moved) ≡ shape (option_map_or differs o moved)
  verdict_by None None e = refl
  verdict_by None (Some t) e = absurd (true≢false e)
  verdict_by (Some s) None e = absurd (false≢true e)
  verdict_by (Some s) (Some t) e = refl

  verdict_found : (o : Option (World n × World n)) → shape (option_map_or (λ (e : World m × World m). verdict_in e.0 e.1) (option_map renamed_pair o) no_parent) ≡ shape (option_map_or (λ (e : World n × World n). verdict_in e.0 e.1) o no_parent)
  verdict_found None = refl
  verdict_found (Some e) = verdict_by (fault_in e.0 e.1) (fault_in (renamed_world r e.0) (renamed_world r e.1)) (fault_alike e.0 e.1)

  pub verdict_alike : (F : State n) (w : WorldId) → shape (verdict_at (renamed_state r F) w) ≡ shape (verdict_at F w)
  unfolding verdict_at
  verdict_alike F w = ap (λ o. shape (option_map_or (λ (e : World m × World m). verdict_in e.0 e.1) o no_parent)) (with_alike F w) ∙ verdict_found (with_parent F w)

-- What a commit that moved leaves of the marks.
use Rattle.std.proofs.Common.{◌≡◌, Bool, true, false, cond, not, ◌&&◌, ◌||◌, List, [], ◌∷◌, refl, ap, sym, ◌∙◌, Option, None, Some, is_some, map as each}
use Rattle.std.specs.Option.{option_map}
use Rattle.std.specs.Ordering.{eq_by_cmp}
use Rattle.std.specs.List.{list_any}
use Rattle.std.specs.FinMap as map
use Rattle.wjs_base.specs.declared.ids.ObjId.{ObjId}
use Rattle.wjs_base.specs.declared.ids.WorldId.{WorldId}
use Rattle.wjs_base.proofs.Booleans.{by_bool}
use Rattle.wjs_store.specs.Naming.{Naming}
use Rattle.wjs_store.specs.State.{World, State, same_world, find_world, is_below, is_touched, has_row, put, write_in, write_at, after_write, write_all, at_world, hand_entries, hand_objects, clear_marks, reads_of, moves, settle}
use Rattle.wjs_store.proofs.States.{find_each}
use Rattle.wjs_store.proofs.Marks.{contains_insert, key_is}
use Rattle.wjs_store.proofs.Writes.{by_one, by_two, found_id, get_put, write_id}
use Rattle.wjs_store.proofs.Commits.{pairs, writes_on, hand_one, hand_on, close_on, row_new, entries_ids, entries_parents, objects_ids, objects_parents}
use Rattle.wjs_store.proofs.Moved.{neither}

with_true : {A : Type 0} (q : Bool) (x y : A) → cond (q && true) x y ≡ cond q x y
with_true true x y = refl
with_true false x y = refl

get_cond : {K V : Type 0} (n : Naming K V) (q : Bool) (m : map.FinMap n.cmp (Option V)) (s : K) (c : Option V) (t : K) → map.get (cond q (map.insert m s c) m) t ≡ cond (q && eq_by_cmp n.cmp t s) (Some c) (map.get m t)
get_cond n true m s c t = map.get-insert n.total m s c t
get_cond n false m s c t = refl

module _ {K V : Type 0} {n : Naming K V} where
  -- ---- recorded reads that are handed up

  pub hand_closed : (es : List (K × Option V)) (z : World n) → ((hand_on es z).closed ≡ z.closed) × ((hand_on es z).strict ≡ z.strict)
  hand_closed [] z = (refl, refl)
  hand_closed (e ∷ es) z =
      let r = hand_closed es (hand_one z e) in
      (r.0 ∙ by_one (is_touched z e.0) (λ (v : World n). v.closed ≡ z.closed) refl refl, r.1 ∙ by_one (is_touched z e.0) (λ (v : World n). v.strict ≡ z.strict) refl refl)

  pub hand_first : (v : K → Option V) (ks : List K) (z : World n) (t : K) → map.get (hand_on (pairs v ks) z).first t ≡ cond (not (is_touched z t) && list_any (eq_by_cmp n.cmp t) ks) (Some (v t)) (map.get z.first t)
  hand_first v [] z t = sym (neither (not (is_touched z t)) (map.get z.first t) (Some (v t)))
  hand_first v (s ∷ ks) z t = hand_first v ks (hand_one z (s, v s)) t ∙ step (is_touched z s) refl
    where
      step : (b : Bool) → is_touched z s ≡ b → cond (not (is_touched (cond b z (record z { first = map.insert z.first s (v s) })) t) && list_any (eq_by_cmp n.cmp t) ks) (Some (v t)) (map.get (cond b z (record z { first = map.insert z.first s (v s) })).first t) ≡ cond (not (is_touched z t) && (eq_by_cmp n.cmp t s || list_any (eq_by_cmp n.cmp t) ks)) (Some (v t)) (map.get z.first t)
      step true u = by_bool (eq_by_cmp n.cmp t s)
          (λ e.
          let here : is_touched z t ≡ true = ap (is_touched z) (key_is n.exact t s e) ∙ u in
          ap (λ k. cond (not k && list_any (eq_by_cmp n.cmp t) ks) (Some (v t)) (map.get z.first t)) here
          ∙ sym (ap (λ k. cond (not k && (eq_by_cmp n.cmp t s || list_any (eq_by_cmp n.cmp t) ks)) (Some (v t)) (map.get z.first t)) here))
          (λ e. sym (ap (λ k. cond (not (is_touched z t) && (k || list_any (eq_by_cmp n.cmp t) ks)) (Some (v t)) (map.get z.first t)) e))
      step false u =
          ap (λ k. cond (not ((k || map.contains_key z.written t) || map.contains_key z.closed (n.object t)) && list_any (eq_by_cmp n.cmp t) ks) (Some (v t)) (map.get (map.insert z.first s (v s)) t)) (contains_insert n.total z.first s (v s) t)
          ∙ ap (cond (not (((eq_by_cmp n.cmp t s || map.contains_key z.first t) || map.contains_key z.written t) || map.contains_key z.closed (n.object t)) && list_any (eq_by_cmp n.cmp t) ks) (Some (v t))) (map.get-insert n.total z.first s (v s) t)
          ∙ by_bool (eq_by_cmp n.cmp t s)
          (λ e.
          let is = key_is n.exact t s e in
          ap (λ k. cond (not (((k || map.contains_key z.first t) || map.contains_key z.written t) || map.contains_key z.closed (n.object t)) && list_any (eq_by_cmp n.cmp t) ks) (Some (v t)) (cond k (Some (v s)) (map.get z.first t))) e
          ∙ ap (λ k. Some (v k)) (sym is)
          ∙ sym (ap (λ k. cond (not k && (eq_by_cmp n.cmp t s || list_any (eq_by_cmp n.cmp t) ks)) (Some (v t)) (map.get z.first t)) (ap (is_touched z) is ∙ u) ∙ ap (λ k. cond (k || list_any (eq_by_cmp n.cmp t) ks) (Some (v t)) (map.get z.first t)) e))
          (λ e.
          ap (λ k. cond (not (((k || map.contains_key z.first t) || map.contains_key z.written t) || map.contains_key z.closed (n.object t)) && list_any (eq_by_cmp n.cmp t) ks) (Some (v t)) (cond k (Some (v s)) (map.get z.first t))) e
          ∙ sym (ap (λ k. cond (not (is_touched z t) && (k || list_any (eq_by_cmp n.cmp t) ks)) (Some (v t)) (map.get z.first t)) e))

  -- ---- writes

  pub writes_closed : (es : List (K × Option V)) (z : World n) → (writes_on es z).closed ≡ z.closed
  writes_closed [] z = refl
  writes_closed (e ∷ es) z = writes_closed es (write_in e.0 e.1 z)

  -- in a world without parent
  pub writes_alone : (es : List (K × Option V)) (z : World n) → is_some z.parent ≡ false → ((writes_on es z).first ≡ z.first) × ((writes_on es z).written ≡ z.written)
  writes_alone [] z q = (refl, refl)
  writes_alone (e ∷ es) z q =
      let r = writes_alone es (write_in e.0 e.1 z) q in (
        r.0 ∙ ap (λ b. cond (b && (not (has_row z e.0) && (map.contains_key z.closed (n.object e.0) || z.strict))) (map.insert z.first e.0 (map.get z.copy e.0)) z.first) q,
        r.1 ∙ ap (λ b. cond b (map.insert z.written e.0 tt) z.written) q,
      )

  -- whether a write of the slot records what was there
  abbrev pub records : World n → K → Bool
  records z t = not (has_row z t) && (map.contains_key z.closed (n.object t) || z.strict)

  pub writes_first : (v : K → Option V) (ks : List K) (z : World n) (t : K) → is_some z.parent ≡ true → map.get (writes_on (pairs v ks) z).first t ≡ cond (list_any (eq_by_cmp n.cmp t) ks && records z t) (Some (map.get z.copy t)) (map.get z.first t)
  writes_first v [] z t p = refl
  writes_first v (s ∷ ks) z t p = writes_first v ks (write_in s (v s) z) t p ∙ by_bool (eq_by_cmp n.cmp t s) here past
    where
      first_one : map.get (write_in s (v s) z).first t ≡ cond (records z s && eq_by_cmp n.cmp t s) (Some (map.get z.copy s)) (map.get z.first t)
      first_one =
          get_cond n (is_some z.parent && records z s) z.first s (map.get z.copy s) t
          ∙ ap (λ b. cond ((b && records z s) && eq_by_cmp n.cmp t s) (Some (map.get z.copy s)) (map.get z.first t)) p

      here : eq_by_cmp n.cmp t s ≡ true → cond (list_any (eq_by_cmp n.cmp t) ks && records (write_in s (v s) z) t) (Some (map.get (write_in s (v s) z).copy t)) (map.get (write_in s (v s) z).first t) ≡ cond ((eq_by_cmp n.cmp t s || list_any (eq_by_cmp n.cmp t) ks) && records z t) (Some (map.get z.copy t)) (map.get z.first t)
      here e =
          ap (λ r. cond (list_any (eq_by_cmp n.cmp t) ks && (not r && (map.contains_key z.closed (n.object t) || z.strict))) (Some (map.get (write_in s (v s) z).copy t)) (map.get (write_in s (v s) z).first t)) (row_new s (v s) z t p e)
          ∙ neither (list_any (eq_by_cmp n.cmp t) ks) (map.get (write_in s (v s) z).first t) (Some (map.get (write_in s (v s) z).copy t))
          ∙ first_one
          ∙ ap (λ k. cond (records z k && eq_by_cmp n.cmp t s) (Some (map.get z.copy k)) (map.get z.first t)) (sym (key_is n.exact t s e))
          ∙ ap (λ b. cond (records z t && b) (Some (map.get z.copy t)) (map.get z.first t)) e
          ∙ with_true (records z t) (Some (map.get z.copy t)) (map.get z.first t)
          ∙ sym (ap (λ b. cond ((b || list_any (eq_by_cmp n.cmp t) ks) && records z t) (Some (map.get z.copy t)) (map.get z.first t)) e)

      past : eq_by_cmp n.cmp t s ≡ false → cond (list_any (eq_by_cmp n.cmp t) ks && records (write_in s (v s) z) t) (Some (map.get (write_in s (v s) z).copy t)) (map.get (write_in s (v s) z).first t) ≡ cond ((eq_by_cmp n.cmp t s || list_any (eq_by_cmp n.cmp t) ks) && records z t) (Some (map.get z.copy t)) (map.get z.first t)
      past e =
          let first : map.get (write_in s (v s) z).first t ≡ map.get z.first t = first_one ∙ ap (λ b. cond (records z s && b) (Some (map.get z.copy s)) (map.get z.first t)) e ∙ neither (records z s) (map.get z.first t) (Some (map.get z.copy s)) in
          let written : map.contains_key (write_in s (v s) z).written t ≡ map.contains_key z.written t = ap (λ b. map.contains_key (cond b (map.insert z.written s tt) z.written) t) p ∙ contains_insert n.total z.written s tt t ∙ ap (λ b. b || map.contains_key z.written t) e in
          let copy : map.get (write_in s (v s) z).copy t ≡ map.get z.copy t = get_put n.total z.copy s (v s) t ∙ ap (λ b. cond b (v s) (map.get z.copy t)) e in
          ap (λ f. cond (list_any (eq_by_cmp n.cmp t) ks && (not (is_some f || map.contains_key (write_in s (v s) z).written t) && (map.contains_key z.closed (n.object t) || z.strict))) (Some (map.get (write_in s (v s) z).copy t)) f) first
          ∙ ap (λ b. cond (list_any (eq_by_cmp n.cmp t) ks && (not (is_some (map.get z.first t) || b) && (map.contains_key z.closed (n.object t) || z.strict))) (Some (map.get (write_in s (v s) z).copy t)) (map.get z.first t)) written
          ∙ ap (λ c. cond (list_any (eq_by_cmp n.cmp t) ks && records z t) (Some c) (map.get z.first t)) copy
          ∙ sym (ap (λ b. cond ((b || list_any (eq_by_cmp n.cmp t) ks) && records z t) (Some (map.get z.copy t)) (map.get z.first t)) e)

  -- ---- listed objects

  close_first : (os : List ObjId) (z : World n) → (close_on os z).first ≡ z.first
  close_first [] z = refl
  close_first (o ∷ os) z = close_first os (record z { closed = map.insert z.closed o tt })

  pub objects_first : (os : List ObjId) (z : World n) → (hand_objects os z).first ≡ z.first
  objects_first os z = by_one (is_some z.parent) (λ (v : World n). v.first ≡ z.first) (close_first os z) refl

  -- ---- worlds that a commit passes by

  -- a world without its copy
  abbrev pub bare : World n → World n
  bare x = record x { copy = map.empty }

  pub past_at : (j : WorldId) (f : World n → World n) → ((x : World n) → (f x).id ≡ x.id) → (G : State n) (i : WorldId) → same_world i j ≡ false → find_world (at_world j f G) i ≡ find_world G i
  past_at j f ids G i e = find_each (λ x. cond (same_world x.id j) (f x) x) (λ x. by_one (same_world x.id j) (λ (v : World n). v.id ≡ x.id) (ids x) refl) G i ∙ by (find_world G i) refl
    where
      by : (o : Option (World n)) → find_world G i ≡ o → option_map (λ (x : World n). cond (same_world x.id j) (f x) x) o ≡ o
      by None h = refl
      by (Some x) h = ap (λ b. Some (cond b (f x) x)) (ap (λ k. same_world k j) (found_id G i x h) ∙ e)

  past_write : (p : WorldId) (s : K) (c : Option V) (G : State n) (i : WorldId) → same_world i p ≡ false → option_map bare (find_world (after_write G p s c) i) ≡ option_map bare (find_world G i)
  unfolding after_write
  past_write p s c G i e = ap (option_map bare) (find_each (write_at G p s c) (write_id G p s c) G i) ∙ by (find_world G i) refl
    where
      by : (o : Option (World n)) → find_world G i ≡ o → option_map bare (option_map (write_at G p s c) o) ≡ option_map bare o
      by None h = refl
      by (Some x) h = ap (λ b. Some (bare (cond b (write_in s c x) (cond (is_below p s G x.id) (record x { copy = put x.copy s c }) x)))) (ap (λ k. same_world k p) (found_id G i x h) ∙ e) ∙ by_one (is_below p s G x.id) (λ (v : World n). Some (bare v) ≡ Some (bare x)) refl refl

  pub past_writes : (p : WorldId) (es : List (K × Option V)) (G : State n) (i : WorldId) → same_world i p ≡ false → option_map bare (find_world (write_all p es G) i) ≡ option_map bare (find_world G i)
  past_writes p [] G i e = refl
  past_writes p (d ∷ es) G i e = past_writes p es (after_write G p d.0 d.1) i e ∙ past_write p d.0 d.1 G i e

  -- ---- what stays of every world

  abbrev pub kept_parts : World n → WorldId × Option WorldId × Bool
  kept_parts x = (x.id, x.parent, x.strict)

  parts_each : (g : World n → World n) → ((x : World n) → (g x).id ≡ x.id) → ((x : World n) → kept_parts (g x) ≡ kept_parts x) → (F : State n) (i : WorldId) → option_map kept_parts (find_world (each g F) i) ≡ option_map kept_parts (find_world F i)
  parts_each g ids same F i = ap (option_map kept_parts) (find_each g ids F i) ∙ by (find_world F i)
    where
      by : (o : Option (World n)) → option_map kept_parts (option_map g o) ≡ option_map kept_parts o
      by None = refl
      by (Some x) = ap (λ k. Some k) (same x)

  parts_at : (j : WorldId) (f : World n → World n) → ((x : World n) → kept_parts (f x) ≡ kept_parts x) → (F : State n) (i : WorldId) → option_map kept_parts (find_world (at_world j f F) i) ≡ option_map kept_parts (find_world F i)
  parts_at j f same F i =
      parts_each (λ x. cond (same_world x.id j) (f x) x)
      (λ x. by_one (same_world x.id j) (λ (v : World n). v.id ≡ x.id) (ap (λ k. k.0) (same x)) refl)
      (λ x. by_one (same_world x.id j) (λ (v : World n). kept_parts v ≡ kept_parts x) (same x) refl)
      F i

  parts_write : (p : WorldId) (s : K) (c : Option V) (F : State n) (i : WorldId) → option_map kept_parts (find_world (after_write F p s c) i) ≡ option_map kept_parts (find_world F i)
  unfolding after_write
  parts_write p s c F i = parts_each (write_at F p s c) (write_id F p s c) (λ x. by_two (same_world x.id p) (is_below p s F x.id) (λ (v : World n). kept_parts v ≡ kept_parts x) refl refl refl) F i

  parts_writes : (p : WorldId) (es : List (K × Option V)) (F : State n) (i : WorldId) → option_map kept_parts (find_world (write_all p es F) i) ≡ option_map kept_parts (find_world F i)
  parts_writes p [] F i = refl
  parts_writes p (e ∷ es) F i = parts_writes p es (after_write F p e.0 e.1) i ∙ parts_write p e.0 e.1 F i

  parts_entries : (es : List (K × Option V)) (z : World n) → kept_parts (hand_entries es z) ≡ kept_parts z
  parts_entries es z =
      let strict : (hand_entries es z).strict ≡ z.strict = by_one (is_some z.parent) (λ (v : World n). v.strict ≡ z.strict) (hand_closed es z).1 refl in
      λ k. (entries_ids es z k, entries_parents es z k, strict k)

  close_strict : (os : List ObjId) (z : World n) → (close_on os z).strict ≡ z.strict
  close_strict [] z = refl
  close_strict (o ∷ os) z = close_strict os (record z { closed = map.insert z.closed o tt })

  parts_objects : (os : List ObjId) (z : World n) → kept_parts (hand_objects os z) ≡ kept_parts z
  parts_objects os z =
      let strict : (hand_objects os z).strict ≡ z.strict = by_one (is_some z.parent) (λ (v : World n). v.strict ≡ z.strict) (close_strict os z) refl in
      λ k. (objects_ids os z k, objects_parents os z k, strict k)

  pub parts_settle : (x : World n) (p : WorldId) (F : State n) (i : WorldId) → option_map kept_parts (find_world (settle x p F) i) ≡ option_map kept_parts (find_world F i)
  parts_settle x p F i =
      let handed = at_world p (hand_entries (reads_of x)) F in
      let wrote = write_all p (moves x) handed in
      parts_at x.id clear_marks (λ z. refl) (at_world p (hand_objects (map.keys x.closed)) wrote) i
      ∙ parts_at p (hand_objects (map.keys x.closed)) (parts_objects (map.keys x.closed)) wrote i
      ∙ parts_writes p (moves x) handed i
      ∙ parts_at p (hand_entries (reads_of x)) (parts_entries (reads_of x)) F i

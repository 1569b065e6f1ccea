-- The machine's actions commute with a renaming.
use Rattle.std.specs.Prelude.{◌≡◌, Bool, true, false, cond, not, ◌&&◌, ◌||◌, List, [], ◌∷◌, map as each, Option, None, Some, is_some, refl}
use Rattle.std.specs.Option.{option_map, option_map_or, option_and_then}
use Rattle.std.specs.FinMap as map
use Rattle.std.proofs.Common.{sym, ap, ◌∙◌}
use Rattle.wjs_base.specs.declared.ids.WorldId.{WorldId}
use Rattle.wjs_base.proofs.Options.{map_cond as map_if}
use Rattle.wjs_store.specs.Naming.{Naming}
use Rattle.wjs_store.specs.State.{World, State, same_world, find_world, content_at, has_row, is_touched, read_in, write_in, write_at, put, is_below, after_read, after_write}
use Rattle.wjs_by_content.proofs.Maps.{get_renamed, has_renamed, renamed_insert, renamed_remove}
use Rattle.wjs_by_content.specs.Rename.{renamed}
use Rattle.wjs_by_content.proofs.Renaming.{Renaming, renamed_state, renamed_world}

pub map_cond : {A B : Type 0} (g : A → B) (b : Bool) (x y : A) → g (cond b x y) ≡ cond b (g x) (g y)
map_cond g true x y = refl
map_cond g false x y = refl

pub each_each : {A B C D : Type 0} (f : B → D) (g : A → B) (h : C → D) (k : A → C) → ((x : A) → f (g x) ≡ h (k x)) → (xs : List A) → each f (each g xs) ≡ each h (each k xs)
each_each f g h k e [] = refl
each_each f g h k e (x ∷ xs) = λ i. e x i ∷ each_each f g h k e xs i

module _ {K V J W : Type 0} {n : Naming K V} {m : Naming J W} (r : Renaming n m) where
  has_first : (x : World n) (s : K) → map.contains_key (renamed_world r x).first (r.slot s) ≡ map.contains_key x.first s
  has_first x s = has_renamed n.total n.exact m.total m.exact r.slot r.slots_tell (option_map r.value) x.first s

  pub has_written : (x : World n) (s : K) → map.contains_key (renamed_world r x).written (r.slot s) ≡ map.contains_key x.written s
  has_written x s = has_renamed n.total n.exact m.total m.exact r.slot r.slots_tell (λ u. u) x.written s

  pub row_alike : (x : World n) (s : K) → has_row (renamed_world r x) (r.slot s) ≡ has_row x s
  row_alike x s = ap (λ b. b || map.contains_key (renamed_world r x).written (r.slot s)) (has_first x s) ∙ ap (λ b. map.contains_key x.first s || b) (has_written x s)

  pub touched_alike : (x : World n) (s : K) → is_touched (renamed_world r x) (r.slot s) ≡ is_touched x s
  touched_alike x s = ap (λ b. b || map.contains_key x.closed (m.object (r.slot s))) (row_alike x s) ∙ ap (λ o. has_row x s || map.contains_key x.closed o) (r.object s)

  pub copy_alike : (x : World n) (s : K) → map.get (renamed_world r x).copy (r.slot s) ≡ option_map r.value (map.get x.copy s)
  copy_alike x s = get_renamed n.total n.exact m.total m.exact r.slot r.slots_tell r.value x.copy s

  -- the content as it is recorded
  first_alike : (x : World n) (s : K) → renamed {S = m.cmp} r.slot (option_map r.value) (map.insert x.first s (map.get x.copy s)) ≡ map.insert (renamed_world r x).first (r.slot s) (map.get (renamed_world r x).copy (r.slot s))
  first_alike x s = renamed_insert n.total n.exact m.total m.exact r.slot r.slots_tell (option_map r.value) x.first s (map.get x.copy s) ∙ ap (map.insert (renamed_world r x).first (r.slot s)) (sym (copy_alike x s))

  pub find_alike : (F : State n) (w : WorldId) → find_world (renamed_state r F) w ≡ option_map (renamed_world r) (find_world F w)
  unfolding find_world
  find_alike [] w = refl
  find_alike (x ∷ F) w = ap (cond (same_world x.id w) (Some (renamed_world r x))) (find_alike F w) ∙ sym (map_if (renamed_world r) (same_world x.id w) x (find_world F w))

  content_of_found : (o : Option (World n)) (s : K) → option_and_then (λ (x : World m). map.get x.copy (r.slot s)) (option_map (renamed_world r) o) ≡ option_map r.value (option_and_then (λ (x : World n). map.get x.copy s) o)
  content_of_found None s = refl
  content_of_found (Some x) s = copy_alike x s

  pub content_alike : (F : State n) (w : WorldId) (s : K) → content_at (renamed_state r F) w (r.slot s) ≡ option_map r.value (content_at F w s)
  content_alike F w s = ap (option_and_then (λ (x : World m). map.get x.copy (r.slot s))) (find_alike F w) ∙ content_of_found (find_world F w) s

  pub read_in_alike : (x : World n) (s : K) → renamed_world r (read_in s x) ≡ read_in (r.slot s) (renamed_world r x)
  read_in_alike x s =
      map_cond (renamed_world r) (is_some x.parent && not (is_touched x s)) (record x { first = map.insert x.first s (map.get x.copy s) }) x
      ∙ ap (λ b. cond (is_some x.parent && not b) (renamed_world r (record x { first = map.insert x.first s (map.get x.copy s) })) (renamed_world r x)) (sym (touched_alike x s))
      ∙ ap (λ f. cond (is_some x.parent && not (is_touched (renamed_world r x) (r.slot s))) (record (renamed_world r x) { first = f }) (renamed_world r x)) (first_alike x s)

  pub read_alike : (F : State n) (w : WorldId) (s : K) → renamed_state r (after_read F w s) ≡ after_read (renamed_state r F) w (r.slot s)
  unfolding after_read
  read_alike F w s = each_each (renamed_world r) (λ x. cond (same_world x.id w) (read_in s x) x) (λ x. cond (same_world x.id w) (read_in (r.slot s) x) x) (renamed_world r)
      (λ x. map_cond (renamed_world r) (same_world x.id w) (read_in s x) x ∙ ap (λ y. cond (same_world x.id w) y (renamed_world r x)) (read_in_alike x s)) F

  -- ---- write

  put_alike : (x : World n) (s : K) (c : Option V) → renamed {S = m.cmp} r.slot r.value (put x.copy s c) ≡ put (renamed {S = m.cmp} r.slot r.value x.copy) (r.slot s) (option_map r.value c)
  put_alike x s None = renamed_remove n.total n.exact m.total m.exact r.slot r.slots_tell r.value x.copy s
  put_alike x s (Some v) = renamed_insert n.total n.exact m.total m.exact r.slot r.slots_tell r.value x.copy s v

  below_alike : (w : WorldId) (s : K) (F : State n) (d : WorldId) → is_below w (r.slot s) (renamed_state r F) d ≡ is_below w s F d
  unfolding is_below
  below_alike w s [] d = refl
  below_alike w s (x ∷ older) d =
      ap (λ b. cond (same_world x.id d) (not b && option_map_or (λ p. same_world p w || is_below w (r.slot s) (renamed_state r older) p) x.parent false) (is_below w (r.slot s) (renamed_state r older) d)) (touched_alike x s)
      ∙ ap (λ (q : WorldId → Bool). cond (same_world x.id d) (not (is_touched x s) && option_map_or (λ p. same_world p w || q p) x.parent false) (q d)) (λ i p. below_alike w s older p i)

  write_in_alike : (x : World n) (s : K) (c : Option V) → renamed_world r (write_in s c x) ≡ write_in (r.slot s) (option_map r.value c) (renamed_world r x)
  write_in_alike x s c =
      let q = is_some x.parent && (not (has_row x s) && (map.contains_key x.closed (n.object s) || x.strict)) in
      let f : renamed {S = m.cmp} r.slot (option_map r.value) (cond q (map.insert x.first s (map.get x.copy s)) x.first) ≡ (write_in (r.slot s) (option_map r.value c) (renamed_world r x)).first =
      map_cond (renamed r.slot (option_map r.value)) q (map.insert x.first s (map.get x.copy s)) x.first
      ∙ ap (λ y. cond q y (renamed_world r x).first) (first_alike x s)
      ∙ ap (λ o. cond (is_some x.parent && (not (has_row x s) && (map.contains_key x.closed o || x.strict))) (map.insert (renamed_world r x).first (r.slot s) (map.get (renamed_world r x).copy (r.slot s))) (renamed_world r x).first) (sym (r.object s))
      ∙ ap (λ b. cond (is_some x.parent && (not b && (map.contains_key x.closed (m.object (r.slot s)) || x.strict))) (map.insert (renamed_world r x).first (r.slot s) (map.get (renamed_world r x).copy (r.slot s))) (renamed_world r x).first) (sym (row_alike x s)) in
      let wr : renamed {S = m.cmp} r.slot (λ u. u) (cond (is_some x.parent) (map.insert x.written s tt) x.written) ≡ cond (is_some x.parent) (map.insert (renamed_world r x).written (r.slot s) tt) (renamed_world r x).written =
      map_cond (renamed r.slot (λ u. u)) (is_some x.parent) (map.insert x.written s tt) x.written
      ∙ ap (λ y. cond (is_some x.parent) y (renamed_world r x).written) (renamed_insert n.total n.exact m.total m.exact r.slot r.slots_tell (λ u. u) x.written s tt) in
      λ i. record { id = x.id; parent = x.parent; strict = x.strict; copy = put_alike x s c i; first = f i; written = wr i; closed = x.closed }

  write_at_alike : (F : State n) (w : WorldId) (s : K) (c : Option V) (x : World n) → renamed_world r (write_at F w s c x) ≡ write_at (renamed_state r F) w (r.slot s) (option_map r.value c) (renamed_world r x)
  write_at_alike F w s c x =
      map_cond (renamed_world r) (same_world x.id w) (write_in s c x) (cond (is_below w s F x.id) (record x { copy = put x.copy s c }) x)
      ∙ ap (cond (same_world x.id w) (renamed_world r (write_in s c x))) (map_cond (renamed_world r) (is_below w s F x.id) (record x { copy = put x.copy s c }) x)
      ∙ ap (λ y. cond (same_world x.id w) y (cond (is_below w s F x.id) (renamed_world r (record x { copy = put x.copy s c })) (renamed_world r x))) (write_in_alike x s c)
      ∙ ap (λ k. cond (same_world x.id w) (write_in (r.slot s) (option_map r.value c) (renamed_world r x)) (cond (is_below w s F x.id) (record (renamed_world r x) { copy = k }) (renamed_world r x))) (put_alike x s c)
      ∙ ap (λ b. cond (same_world x.id w) (write_in (r.slot s) (option_map r.value c) (renamed_world r x)) (cond b (record (renamed_world r x) { copy = put (renamed_world r x).copy (r.slot s) (option_map r.value c) }) (renamed_world r x))) (sym (below_alike w s F x.id))

  pub write_alike : (F : State n) (w : WorldId) (s : K) (c : Option V) → renamed_state r (after_write F w s c) ≡ after_write (renamed_state r F) w (r.slot s) (option_map r.value c)
  unfolding after_write
  write_alike F w s c = each_each (renamed_world r) (write_at F w s c) (write_at (renamed_state r F) w (r.slot s) (option_map r.value c)) (renamed_world r) (write_at_alike F w s c) F

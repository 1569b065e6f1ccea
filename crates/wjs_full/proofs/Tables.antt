-- A list of rows, as a list of worlds.
use Rattle.std.proofs.Common.{◌≡◌, ℕ, ◌+◌, ◌-◌, ◌<◌, ◌≤◌, Bool, not, ◌&&◌, ◌||◌, slice_get, IfSome, subst, ◌==◌, length-drop, add-zero, true, false, cond, List, [], ◌∷◌, ◌++◌, length, take, drop, get_or, set, refl, ap, sym, ◌∙◌, map, None, Some, reverse, arith}
use Rattle.std.proofs.lemmas.List.{take_more, take_more_set, drop_more, map-append, append_assoc, reverse-append, drop-set-lt, take_all, drop_all, append-nil, get_or-map, get_or-drop}
use Rattle.std.proofs.lemmas.Grind.{reverse_onto}
use Rattle.wjs_base.specs.declared.ids.WorldId.{WorldId}
use Rattle.wjs_base.specs.declared.values.Slot.{Slot}
use Rattle.wjs_base.proofs.Lists.{get_there}
use Rattle.wjs_full.specs.declared.rows.Row.{Row}
use Rattle.wjs_store.specs.Naming.{plain}
use Rattle.std.specs.Option.{option_map, option_map_or, option_and_then}
use Rattle.wjs_store.specs.State.{World, State, find_world, is_below, is_touched, same_world, count_of, child_of, next_id, after_sprout, with_parent, verdict_at, after_commit, fault_in, settle, moved, differs}
use Rattle.wjs_full.specs.Rows.{world_in, worlds_in, worlds_at}
use Rattle.wjs_store.specs.Shown.{first_of}
use Rattle.wjs_store.proofs.Parents.{slice_get_at, commit_fault, commit_moves}

-- a turn of a loop that changes each row
pub rows_more : {R W : Type 0} (f : R → W) (g : W → W) (rows : List R) (i : ℕ) (r r' : R) (all : List W) → i < length rows → r ≡ get_or rows i r → f r' ≡ g (f r) → map f (take i rows) ++ map g (map f (drop i rows)) ≡ all → map f (take (i + 1) (set rows i r')) ++ map g (map f (drop (i + 1) (set rows i r'))) ≡ all
rows_more f g rows i r r' all l is step h =
    let lt : i < i + 1 = omega arith in
    ap (λ xs. map f xs ++ map g (map f (drop (i + 1) (set rows i r')))) (take_more_set rows i r' l)
    ∙ ap (λ xs. xs ++ map g (map f (drop (i + 1) (set rows i r')))) (map-append f (take i rows) (r' ∷ []))
    ∙ append_assoc (map f (take i rows)) (f r' ∷ []) (map g (map f (drop (i + 1) (set rows i r'))))
    ∙ ap (λ xs. map f (take i rows) ++ (f r' ∷ map g (map f xs))) (drop-set-lt (i + 1) rows i r' lt)
    ∙ ap (λ x. map f (take i rows) ++ (x ∷ map g (map f (drop (i + 1) rows)))) (step ∙ ap (λ x. g (f x)) is)
    ∙ ap (λ xs. map f (take i rows) ++ map g (map f xs)) (sym (drop_more rows i r l))
    ∙ h

reverse_onto_nil : {A : Type 0} (x : A) (xs : List A) → reverse (x ∷ xs) ≡ reverse xs ++ x ∷ []
reverse_onto_nil x xs = reverse_onto xs x []

map-reverse : {A B : Type 0} (f : A → B) (xs : List A) → map f (reverse xs) ≡ reverse (map f xs)
map-reverse f [] = refl
map-reverse f (x ∷ xs) = ap (map f) (reverse_onto_nil x xs) ∙ map-append f (reverse xs) (x ∷ []) ∙ ap (λ ys. ys ++ f x ∷ []) (map-reverse f xs) ∙ sym (reverse_onto_nil (f x) (map f xs))

-- each row was changed
pub worlds_each : (g : World plain → World plain) (old new : List Row) → map world_in new ≡ map g (map world_in old) → worlds_in new ≡ map g (worlds_in old)
unfolding worlds_in
worlds_each g old new h = ap reverse h ∙ sym (map-reverse g (map world_in old))

-- the newest row
worlds_push : (rows : List Row) (r : Row) → worlds_in (rows ++ r ∷ []) ≡ world_in r ∷ worlds_in rows
unfolding worlds_in
worlds_push rows r = ap reverse (map-append world_in rows (r ∷ [])) ∙ reverse-append (map world_in rows) (world_in r ∷ [])

worlds_more : (rows : List Row) (i : ℕ) (d : Row) → i < length rows → worlds_in (take (i + 1) rows) ≡ world_in (get_or rows i d) ∷ worlds_in (take i rows)
worlds_more rows i d l = ap worlds_in (take_more rows i d l) ∙ worlds_push (take i rows) (get_or rows i d)

-- such a loop at its end
pub rows_done : {R W : Type 0} (f : R → W) (g : W → W) (rows : List R) (i : ℕ) (all : List W) → length rows ≤ i → map f (take i rows) ++ map g (map f (drop i rows)) ≡ all → map f rows ≡ all
rows_done f g rows i all l h =
    sym (append-nil (map f rows))
    ∙ ap (λ xs. map f xs ++ []) (sym (take_all i rows l))
    ∙ ap (λ xs. map f (take i rows) ++ map g (map f xs)) (sym (drop_all i rows l))
    ∙ h

module _ (rows : List Row) (n : ℕ) (d r : Row) (is : r ≡ get_or rows (n - 1) d) (z : 0 < n) (l : n ≤ length rows) where
  -- the rows up to n, newest first
  worlds_last : worlds_in (take n rows) ≡ world_in r ∷ worlds_in (take (n - 1) rows)
  worlds_last =
      let e : n ≡ (n - 1) + 1 = omega arith in
      let lt : n - 1 < length rows = omega arith in
      ap (λ m. worlds_in (take m rows)) e ∙ worlds_more rows (n - 1) d lt ∙ ap (λ x. world_in x ∷ worlds_in (take (n - 1) rows)) (sym is)

  pub find_here : (w : WorldId) → same_world r.id w ≡ true → find_world (worlds_in (take n rows)) w ≡ option_map world_in (slice_get rows (n - 1))
  unfolding find_world
  find_here w here =
      let lt : n - 1 < length rows = omega arith in
      ap (λ F. find_world F w) worlds_last
      ∙ ap (λ b. cond b (Some (world_in r)) (find_world (worlds_in (take (n - 1) rows)) w)) here
      ∙ ap (λ x. Some (world_in x)) is ∙ ap (option_map world_in) (sym (slice_get_at rows (n - 1) d lt))

  pub find_past : (w : WorldId) → same_world r.id w ≡ false → find_world (worlds_in (take n rows)) w ≡ find_world (worlds_in (take (n - 1) rows)) w
  unfolding find_world
  find_past w past =
      ap (λ F. find_world F w) worlds_last
      ∙ ap (λ b. cond b (Some (world_in r)) (find_world (worlds_in (take (n - 1) rows)) w)) past

  module _ (w : WorldId) (s : Slot) (at : WorldId) where
    pub below_past : same_world r.id at ≡ false → is_below w s (worlds_in (take n rows)) at ≡ is_below w s (worlds_in (take (n - 1) rows)) at
    unfolding is_below
    below_past past =
        ap (λ F. is_below w s F at) worlds_last
        ∙ ap (λ b. cond b (not (is_touched (world_in r) s) && option_map_or (λ p. same_world p w || is_below w s (worlds_in (take (n - 1) rows)) p) r.parent false) (is_below w s (worlds_in (take (n - 1) rows)) at)) past

    below_here : same_world r.id at ≡ true → is_below w s (worlds_in (take n rows)) at ≡ (not (is_touched (world_in r) s) && option_map_or (λ p. same_world p w || is_below w s (worlds_in (take (n - 1) rows)) p) r.parent false)
    unfolding is_below
    below_here here =
        ap (λ F. is_below w s F at) worlds_last
        ∙ ap (λ b. cond b (not (is_touched (world_in r) s) && option_map_or (λ p. same_world p w || is_below w s (worlds_in (take (n - 1) rows)) p) r.parent false) (is_below w s (worlds_in (take (n - 1) rows)) at)) here

    -- a touched world stops the path
    pub below_touched : same_world r.id at ≡ true → is_touched (world_in r) s ≡ true → is_below w s (worlds_in (take n rows)) at ≡ false
    below_touched here t = below_here here ∙ ap (λ b. not b && option_map_or (λ p. same_world p w || is_below w s (worlds_in (take (n - 1) rows)) p) r.parent false) t

    pub below_root : same_world r.id at ≡ true → is_touched (world_in r) s ≡ false → r.parent ≡ None → is_below w s (worlds_in (take n rows)) at ≡ false
    below_root here t e = below_here here ∙ ap (λ b. not b && option_map_or (λ p. same_world p w || is_below w s (worlds_in (take (n - 1) rows)) p) r.parent false) t ∙ ap (λ o. option_map_or (λ p. same_world p w || is_below w s (worlds_in (take (n - 1) rows)) p) o false) e

    pub below_parent : (p : WorldId) → same_world r.id at ≡ true → is_touched (world_in r) s ≡ false → r.parent ≡ Some p → is_below w s (worlds_in (take n rows)) at ≡ (same_world p w || is_below w s (worlds_in (take (n - 1) rows)) p)
    below_parent p here t e = below_here here ∙ ap (λ b. not b && option_map_or (λ p. same_world p w || is_below w s (worlds_in (take (n - 1) rows)) p) r.parent false) t ∙ ap (λ o. option_map_or (λ p. same_world p w || is_below w s (worlds_in (take (n - 1) rows)) p) o false) e

pub find_none : (rows : List Row) (w : WorldId) (n : ℕ) → n ≡ 0 → find_world (worlds_in (take n rows)) w ≡ None
unfolding find_world worlds_in
find_none rows w n z = ap (λ m. find_world (worlds_in (take m rows)) w) z

pub below_none : (w : WorldId) (s : Slot) (at : WorldId) (rows : List Row) (n : ℕ) → n ≡ 0 → is_below w s (worlds_in (take n rows)) at ≡ false
unfolding is_below worlds_in
below_none w s at rows n z = ap (λ m. is_below w s (worlds_in (take m rows)) at) z

pub count_more : (owner : ℕ) (rows : List Row) (i : ℕ) (d r : Row) → r ≡ get_or rows i d → i < length rows → count_of owner (worlds_in (take (i + 1) rows)) ≡ cond (r.id.owner == owner) 1 0 + count_of owner (worlds_in (take i rows))
count_more owner rows i d r is l = ap (count_of owner) (worlds_more rows i d l ∙ ap (λ x. world_in x ∷ worlds_in (take i rows)) (sym is))

pub count_none : (owner : ℕ) → count_of owner (worlds_in []) ≡ 0
unfolding worlds_in
count_none owner = refl

-- a child was put last
pub sprout_more : (rows : List Row) (w : WorldId) (owner : ℕ) (strict : Bool) (i : ℕ) (d r child : Row) → find_world (worlds_in rows) w ≡ option_map world_in (slice_get rows i) → i < length rows → r ≡ get_or rows i d → world_in child ≡ child_of (world_in r) (next_id (worlds_in rows) owner) strict → worlds_in (rows ++ child ∷ []) ≡ after_sprout (worlds_in rows) w owner strict
unfolding after_sprout
sprout_more rows w owner strict i d r child found l is h =
    worlds_push rows child
    ∙ ap (λ x. x ∷ worlds_in rows) h
    ∙ sym (ap (λ o. option_map_or (λ x. child_of x (next_id (worlds_in rows) owner) strict ∷ worlds_in rows) o (worlds_in rows)) (found ∙ ap (option_map world_in) (slice_get_at rows i d l ∙ ap (λ x. Some x) (sym is))))

pub sprout_none : (F : State plain) (w : WorldId) (owner : ℕ) (strict : Bool) → find_world F w ≡ None → F ≡ after_sprout F w owner strict
unfolding after_sprout
sprout_none F w owner strict h = sym (ap (λ o. option_map_or (λ x. child_of x (next_id F owner) strict ∷ F) o F) h)

-- a list that holds f of each element holds it at a place
pub read_each : {R B : Type 0} (f : R → B) (old new : List R) (hits : List B) (i : ℕ) (d : R) (b : B) → hits ≡ map f old → drop i new ≡ drop i old → i < length new → get_or hits i b ≡ f (get_or new i d)
read_each f old new hits i d b all same l =
    let lo : length (drop i old) ≡ length old - i = length-drop i old in
    let ln : length (drop i new) ≡ length new - i = length-drop i new in
    let le : length (drop i new) ≡ length (drop i old) = ap length same in
    let lt : i < length old = omega arith in
    let e : get_or new i d ≡ get_or old i d = sym (ap (λ k. get_or new k d) (add-zero i)) ∙ sym (get_or-drop i new 0 d) ∙ ap (λ xs. get_or xs 0 d) same ∙ get_or-drop i old 0 d ∙ ap (λ k. get_or old k d) (add-zero i) in
    ap (λ xs. get_or xs i b) all ∙ get_or-map f old i d b lt ∙ ap f (sym e)

first_last : (F : State plain) (x : World plain) → first_of (F ++ x ∷ []) ≡ Some x.id
first_last [] x = refl
first_last (y ∷ []) x = refl
first_last (y ∷ z ∷ F) x = first_last (z ∷ F) x

-- the oldest world is in the first row
pub first_rows : (rows : List Row) (d : Row) → 0 < length rows → first_of (worlds_in rows) ≡ Some (get_or rows 0 d).id
unfolding worlds_in
first_rows [] d l = absurd (omega arith)
first_rows (r ∷ rows) d l = ap first_of (reverse_onto_nil (world_in r) (map world_in rows)) ∙ first_last (reverse (map world_in rows)) (world_in r)

pub worlds_at_is : (rows : List Row) (i j : ℕ) (d e : Row) → i < length rows → j < length rows → worlds_at rows (i, j) ≡ Some (world_in (get_or rows i d), world_in (get_or rows j e))
unfolding worlds_at
worlds_at_is rows i j d e l m =
    ap (option_and_then (λ (x : Row). option_map (λ (y : Row). (world_in x, world_in y)) (slice_get rows j))) (slice_get_at rows i d l)
    ∙ ap (option_map (λ (y : Row). (world_in (get_or rows i d), world_in y))) (slice_get_at rows j e m)

pub row_at : (rows : List Row) (w : WorldId) (i : ℕ) (r : Row) → i < length rows → r ≡ get_or rows i r → find_world (worlds_in rows) w ≡ option_map world_in (slice_get rows i) → find_world (worlds_in rows) w ≡ Some (world_in r)
row_at rows w i r l is found = found ∙ ap (option_map world_in) (slice_get_at rows i r l) ∙ ap (λ x. Some (world_in x)) (sym is)

pub worlds_at_read : (rows : List Row) (i j : ℕ) (r q : Row) → i < length rows → j < length rows → r ≡ get_or rows i r → q ≡ get_or rows j q → worlds_at rows (i, j) ≡ Some (world_in r, world_in q)
worlds_at_read rows i j r q l m is at = worlds_at_is rows i j r q l m ∙ ap (λ x. Some (world_in x, world_in (get_or rows j q))) (sym is) ∙ ap (λ y. Some (world_in r, world_in y)) (sym at)

some_pair : (rows : List Row) (i j : ℕ) → i < length rows → j < length rows → (e : World plain × World plain) × (worlds_at rows (i, j) ≡ Some e)
unfolding worlds_at
some_pair rows i j l m =
    let r = get_there rows i l in
    let q = get_there rows j m in
    ((world_in r.0, world_in q.0), ap (option_and_then (λ (x : Row). option_map (λ (y : Row). (world_in x, world_in y)) (slice_get rows j))) r.1 ∙ ap (option_map (λ (y : Row). (world_in r.0, world_in y))) q.1)

module _ (rows : List Row) (w : WorldId) (i j : ℕ) (l : i < length rows) (m : j < length rows) (h : with_parent (worlds_in rows) w ≡ worlds_at rows (i, j)) where
  pub commit_fault_at : (s : Slot) → IfSome (worlds_at rows (i, j)) (λ (e : World plain × World plain). Some s ≡ fault_in e.0 e.1) → (differs s ≡ verdict_at (worlds_in rows) w) × (worlds_in rows ≡ after_commit (worlds_in rows) w)
  commit_fault_at s f =
      let e = some_pair rows i j l m in
      commit_fault (worlds_in rows) w e.0.0 e.0.1 s (h ∙ e.1) (subst (λ o. IfSome o (λ (e : World plain × World plain). Some s ≡ fault_in e.0 e.1)) e.1 f)

  pub commit_moves_at : (G : State plain) → IfSome (worlds_at rows (i, j)) (λ (e : World plain × World plain). None ≡ fault_in e.0 e.1) → IfSome (worlds_at rows (i, j)) (λ (e : World plain × World plain). G ≡ settle e.0 e.1.id (worlds_in rows)) → (moved ≡ verdict_at (worlds_in rows) w) × (G ≡ after_commit (worlds_in rows) w)
  commit_moves_at G f g =
      let e = some_pair rows i j l m in
      let moves = commit_moves (worlds_in rows) w e.0.0 e.0.1 (h ∙ e.1) (subst (λ o. IfSome o (λ (e : World plain × World plain). None ≡ fault_in e.0 e.1)) e.1 f) in
      (moves.0, subst (λ o. IfSome o (λ (e : World plain × World plain). G ≡ settle e.0 e.1.id (worlds_in rows))) e.1 g ∙ moves.1)

pub worlds_one : (r : Row) → worlds_in ([] ++ r ∷ []) ≡ world_in r ∷ []
unfolding worlds_in
worlds_one r = refl

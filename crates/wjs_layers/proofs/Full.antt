-- Rows that are exactly the marks of a reached state stand for it.
use Rattle.std.proofs.Common.{◌≡◌, ℕ, ◌<◌, ◌≤◌, ◌+◌, Bool, true, false, cond, not, ◌||◌, List, [], ◌∷◌, ◌++◌, length, refl, ap, sym, ◌∙◌, take, Option, None, Some, is_some, slice_get, suc, arith}
use Rattle.std.specs.Option.{option_map, option_map_or, option_and_then}
use Rattle.std.specs.Ordering.{eq_by_cmp}
use Rattle.std.specs.FinMap as map
use Rattle.std.specs.FinMap.{FinMap}
use Rattle.std.proofs.lemmas.List.{take_more, take_all}
use Rattle.std.proofs.lemmas.List.Sums.{fold_push}
use Rattle.std.proofs.lemmas.Option.{get_or_from_slice_get}
use Rattle.wjs_base.specs.declared.ids.WorldId.{WorldId}
use Rattle.wjs_base.specs.declared.values.Slot.{Slot}
use Rattle.wjs_base.specs.declared.values.Value.{Value}
use Rattle.wjs_base.specs.Order.{slot_cmp, slot_total, slot_exact, obj_cmp}
use Rattle.wjs_base.proofs.Booleans.{by_bool}
use Rattle.wjs_base.proofs.Options.{some_map, by_option}
use Rattle.wjs_base.proofs.Lists.{get_there}
use Rattle.wjs_store.specs.Naming.{plain}
use Rattle.wjs_store.specs.State.{World, State, KeySet, find_world, has_row, is_touched, content_at}
use Rattle.wjs_store.specs.Reached.{Fits, IsReached}
use Rattle.wjs_store.specs.Shown.{content_of}
use Rattle.wjs_store.proofs.Writes.{same_self, get_put}
use Rattle.wjs_layers.specs.declared.maps.Row.{Row}
use Rattle.wjs_layers.specs.declared.layer.Spot.{Spot}
use Rattle.wjs_layers.specs.declared.layer.Layer.{Layer}
use Rattle.wjs_layers.specs.Sparse.{now_of, read_of, mark_of, laid, unclosed, copy_at, copy_of, world_of, full_of, place_of, Keeps, AreKept}
use Rattle.wjs_layers.proofs.Places.{place_head, place_older, find_top, find_older}

-- ---- maps made of rows

-- what the map has at a slot with a row, else what the map below has
abbrev pub over : {V : Type 0} → (Row → Option V) → Option V → Option Row → Option V
over f d None = d
over f d (Some row) = f row

over_cond : {V : Type 0} (f : Row → Option V) (d : Option V) (b : Bool) (row : Row) (o : Option Row) → cond b (f row) (over f d o) ≡ over f d (cond b (Some row) o)
over_cond f d true row o = refl
over_cond f d false row o = refl

get_laid_on : {V : Type 0} (f : Row → Option V) (m : FinMap slot_cmp V) (es : List (Slot × Row)) (q : Slot) → map.get (laid f m es) q ≡ over f (map.get m q) (map.find slot_cmp q es)
get_laid_on f m [] q = refl
get_laid_on f m (e ∷ es) q =
    get_put slot_total (laid f m es) e.0 (f e.1) q
    ∙ ap (cond (eq_by_cmp slot_cmp q e.0) (f e.1)) (get_laid_on f m es q)
    ∙ over_cond f (map.get m q) (eq_by_cmp slot_cmp q e.0) e.1 (map.find slot_cmp q es)

get_laid : {V : Type 0} (f : Row → Option V) (m : FinMap slot_cmp V) (rows : FinMap slot_cmp Row) (q : Slot) → map.get (laid f m (map.entries rows)) q ≡ over f (map.get m q) (map.get rows q)
get_laid f m rows q = get_laid_on f m (map.entries rows) q ∙ ap (over f (map.get m q)) (sym (map.get-entries rows q))

over_none : {V : Type 0} (f : Row → Option V) (o : Option Row) → over f None o ≡ option_and_then f o
over_none f None = refl
over_none f (Some row) = refl

get_marks : {V : Type 0} (f : Row → Option V) (rows : FinMap slot_cmp Row) (q : Slot) → map.get (laid f map.empty (map.entries rows)) q ≡ option_and_then f (map.get rows q)
get_marks f rows q = get_laid f map.empty rows q ∙ ap (λ d. over f d (map.get rows q)) (map.get-empty slot_cmp q) ∙ over_none f (map.get rows q)

get_unclosed : (closed : KeySet obj_cmp) (m : FinMap slot_cmp Value) (q : Slot) → map.get (unclosed closed m) q ≡ cond (not (map.contains_key closed q.object)) (map.get m q) None
get_unclosed closed m q = map.get-retain_keys m (λ (s : Slot). not (map.contains_key closed s.object)) q (λ x t. ap (λ (s : Slot). not (map.contains_key closed s.object)) (sym (slot_exact q x t)))

-- ---- tests on rows

abbrev pub mark_by : Bool → Option (Unit {0})
mark_by b = cond b (Some tt) None

pub some_mark : (b : Bool) → is_some (mark_by b) ≡ b
some_mark true = refl
some_mark false = refl

-- whether there is a row with a mark
abbrev pub is_marked : Option Row → Bool
is_marked None = false
is_marked (Some row) = is_some row.read || row.written

marks_row : (o : Option Row) → (is_some (option_and_then read_of o) || is_some (option_and_then mark_of o)) ≡ is_marked o
marks_row None = refl
marks_row (Some row) =
    ap (λ b. b || is_some (mark_of row)) (some_map content_of row.read)
    ∙ ap (λ b. is_some row.read || b) (some_mark row.written)

module _ (r : Layer) (x : World plain) (k : Keeps r x) where
  row_of : (s : Slot) → has_row x s ≡ is_marked (map.get r.rows s)
  row_of s =
      ap (λ o. is_some o || map.contains_key x.written s) (k.first s)
      ∙ ap (λ o. is_some (option_and_then read_of (map.get r.rows s)) || is_some o) (k.written s)
      ∙ marks_row (map.get r.rows s)

  pub row_none : (s : Slot) → map.get r.rows s ≡ None → has_row x s ≡ false
  row_none s h = row_of s ∙ ap is_marked h

  -- in a world with a parent a slot with a row is marked
  pub row_some : (s : Slot) (row : Row) → is_some r.above ≡ true → map.get r.rows s ≡ Some row → has_row x s ≡ true
  row_some s row p h = row_of s ∙ ap is_marked h ∙ k.marked s row h ∙ p

  pub closed_same : (s : Slot) → map.contains_key x.closed s.object ≡ map.contains_key r.closed s.object
  closed_same s = ap (λ c. map.contains_key c s.object) k.closed

  pub untouched : (s : Slot) → map.get r.rows s ≡ None → map.contains_key r.closed s.object ≡ false → is_touched x s ≡ false
  untouched s h c = ap (λ b. b || map.contains_key x.closed s.object) (row_none s h) ∙ closed_same s ∙ c

-- ---- the worlds again

copy_found : (o : Option (World plain)) (q : Slot) → map.get (option_map_or (λ (x : World plain). x.copy) o map.empty) q ≡ option_and_then (λ (x : World plain). map.get x.copy q) o
copy_found None q = map.get-empty slot_cmp q
copy_found (Some x) q = refl

get_copy_at : (F : State plain) (i : WorldId) (q : Slot) → map.get (copy_at F i) q ≡ content_at F i q
get_copy_at F i q = copy_found (find_world F i) q

cond_none : {A : Type 0} (b : Bool) (o : Option A) → o ≡ None → cond b o None ≡ None
cond_none true o h = h
cond_none false o h = refl

module _ (r : Layer) (x : World plain) (older : State plain) (k : Keeps r x) (f : Fits x older) where
  base : FinMap slot_cmp Value
  base = option_map_or (λ (a : Spot). copy_at older a.world) r.above map.empty

  -- a slot without row
  copy_bare : (q : Slot) → map.get r.rows q ≡ None → cond (not (map.contains_key r.closed q.object)) (map.get base q) None ≡ map.get x.copy q
  unfolding base
  copy_bare q h = by_option r.above
      (λ e. cond_none (not (map.contains_key r.closed q.object)) (map.get (option_map_or (λ (a : Spot). copy_at older a.world) r.above map.empty) q) (ap (λ o. map.get (option_map_or (λ (a : Spot). copy_at older a.world) o map.empty) q) e ∙ map.get-empty slot_cmp q) ∙ sym (k.bare q e h))
      (λ a e. by_bool (map.contains_key r.closed q.object)
      (λ c. ap (λ b. cond (not b) (map.get (option_map_or (λ (a : Spot). copy_at older a.world) r.above map.empty) q) None) c ∙ sym (f.absent q (closed_same r x k q ∙ c) (row_none r x k q h)))
      (λ c. ap (λ b. cond (not b) (map.get (option_map_or (λ (a : Spot). copy_at older a.world) r.above map.empty) q) None) c
      ∙ ap (λ o. map.get (option_map_or (λ (a : Spot). copy_at older a.world) o map.empty) q) e
      ∙ get_copy_at older a.world q
      ∙ sym (f.inherits a.world q (k.parent ∙ ap (option_map (λ (a : Spot). a.world)) e) (untouched r x k q h c))))

  copy_is : copy_of r older ≡ x.copy
  unfolding base
  copy_is = map.same_map slot_total slot_exact _ _ (λ q.
      get_laid now_of (unclosed r.closed (option_map_or (λ (a : Spot). copy_at older a.world) r.above map.empty)) r.rows q
      ∙ by_option (map.get r.rows q)
      (λ h. ap (over now_of (map.get (unclosed r.closed (option_map_or (λ (a : Spot). copy_at older a.world) r.above map.empty)) q)) h
      ∙ get_unclosed r.closed (option_map_or (λ (a : Spot). copy_at older a.world) r.above map.empty) q
      ∙ copy_bare q h)
      (λ row h. ap (over now_of (map.get (unclosed r.closed (option_map_or (λ (a : Spot). copy_at older a.world) r.above map.empty)) q)) h ∙ sym (k.now q row h)))

  first_is : laid read_of map.empty (map.entries r.rows) ≡ x.first
  first_is = map.same_map slot_total slot_exact _ _ (λ q. get_marks read_of r.rows q ∙ sym (k.first q))

  written_is : laid mark_of map.empty (map.entries r.rows) ≡ x.written
  written_is = map.same_map slot_total slot_exact _ _ (λ q. get_marks mark_of r.rows q ∙ sym (k.written q))

  world_is_of : world_of r older ≡ x
  world_is_of =
      let a = sym k.id in
      let b = sym k.parent in
      let c = sym k.strict in
      let d = copy_is in
      let e = first_is in
      let g = written_is in
      let h = sym k.closed in
      λ i. record { id = a i; parent = b i; strict = c i; copy = d i; first = e i; written = g i; closed = h i }

full_push : (layers : List Layer) (r : Layer) → full_of (layers ++ r ∷ []) ≡ world_of r (full_of layers) ∷ full_of layers
unfolding full_of
full_push layers r = fold_push (λ (F : State plain) (r : Layer). world_of r F ∷ F) [] layers r

full_nil : full_of [] ≡ []
unfolding full_of
full_nil = refl

full_take : (layers : List Layer) (F : State plain) → length F ≤ length layers → IsReached F → ((w : WorldId) (i : ℕ) (x : World plain) (r : Layer) → place_of F w ≡ Some i → find_world F w ≡ Some x → slice_get layers i ≡ Some r → Keeps r x) → full_of (take (length F) layers) ≡ F
full_take layers [] l h at = full_nil
full_take layers (x ∷ older) l h at =
    let lt : length older < length layers = omega arith in
    let le : length older ≤ length layers = omega arith in
    let s = get_there layers (length older) lt in
    let n : suc (length older) ≡ length older + 1 = omega arith in
    let rest = full_take layers older le h.1 (λ w i y r p f q. at w i y r (place_older x older w i h p) (find_older x older w i h p ∙ f) q) in
    ap (λ m. full_of (take m layers)) n
    ∙ ap full_of (take_more layers (length older) s.0 lt ∙ ap (λ r. take (length older) layers ++ r ∷ []) (get_or_from_slice_get layers (length older) s.0 s.0 s.1))
    ∙ full_push (take (length older) layers) s.0
    ∙ ap (λ F. world_of s.0 F ∷ F) rest
    ∙ ap (λ y. y ∷ older) (world_is_of s.0 x older (at x.id (length older) x s.0 (place_head x older x.id (same_self x.id)) (find_top x older x.id (same_self x.id)) s.1) h.0)

-- layers that keep a reached state stand for it
pub full_is : (layers : List Layer) (F : State plain) → IsReached F → AreKept layers F → full_of layers ≡ F
full_is layers F h k =
    let le : length F ≤ length layers = omega (arith, k.many) in
    let ge : length layers ≤ length F = omega (arith, k.many) in
    ap full_of (sym (take_all (length F) layers ge)) ∙ full_take layers F le h k.at

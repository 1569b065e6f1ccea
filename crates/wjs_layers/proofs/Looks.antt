-- What a slot holds in a world, by the nearest row.
use Rattle.std.proofs.Common.{◌≡◌, ℕ, ◌<◌, ◌+◌, true, false, cond, List, [], ◌∷◌, length, refl, ap, sym, ◌∙◌, None, Some, Option, is_some, slice_get, arith}
use Rattle.std.specs.Option.{option_map, option_map_or, option_and_then}
use Rattle.std.specs.FinMap as map
use Rattle.std.proofs.lemmas.Bool.{false≢true}
use Rattle.std.proofs.lemmas.Option.{same_Some}
use Rattle.wjs_base.specs.declared.ids.WorldId.{WorldId}
use Rattle.wjs_base.specs.declared.values.Slot.{Slot}
use Rattle.wjs_base.specs.declared.values.Content.{Content}
use Rattle.wjs_base.proofs.Options.{some_map, by_option, no_none}
use Rattle.wjs_base.proofs.Booleans.{by_bool}
use Rattle.wjs_store.specs.Naming.{plain}
use Rattle.wjs_store.specs.State.{World, State, find_world, same_world, content_at, parent_of}
use Rattle.wjs_store.specs.Reached.{IsReached}
use Rattle.wjs_store.specs.Shown.{content_of}
use Rattle.wjs_store.proofs.Writes.{not_older}
use Rattle.wjs_store.proofs.Commits.{local_find, inherits_find, parent_there}
use Rattle.wjs_layers.specs.declared.maps.Row.{Row}
use Rattle.wjs_layers.specs.declared.layer.Spot.{Spot}
use Rattle.wjs_layers.specs.declared.layer.Layer.{Layer}
use Rattle.wjs_layers.specs.Sparse.{now_of, place_of, full_of, depth_of, Keeps, IsSparse, IsAt}
use Rattle.wjs_layers.proofs.Places.{place_find, place_below, find_top, find_rest, find_nil}
use Rattle.wjs_layers.proofs.Full.{row_none, closed_same, untouched}

-- ---- depths

pub depth_top : (x : World plain) (older : State plain) (w : WorldId) → same_world x.id w ≡ true → depth_of (x ∷ older) w ≡ option_map_or (λ p. depth_of older p + 1) x.parent 0
unfolding depth_of
depth_top x older w e = ap (λ b. cond b (option_map_or (λ p. depth_of older p + 1) x.parent 0) (depth_of older w)) e

pub depth_rest : (x : World plain) (older : State plain) (w : WorldId) → same_world x.id w ≡ false → depth_of (x ∷ older) w ≡ depth_of older w
unfolding depth_of
depth_rest x older w e = ap (λ b. cond b (option_map_or (λ p. depth_of older p + 1) x.parent 0) (depth_of older w)) e

-- a world is one deeper than its parent
depth_up : (F : State plain) (w p : WorldId) (x : World plain) → IsReached F → find_world F w ≡ Some x → x.parent ≡ Some p → depth_of F w ≡ depth_of F p + 1
depth_up [] w p x h f e = no_none x (sym (find_nil w) ∙ f)
depth_up (y ∷ older) w p x h f e = by_bool (same_world y.id w)
    (λ b.
    let up : y.parent ≡ Some p = ap (λ (z : World plain). z.parent) (same_Some y x (sym (find_top y older w b) ∙ f)) ∙ e in
    depth_top y older w b ∙ ap (λ o. option_map_or (λ p. depth_of older p + 1) o 0) up
    ∙ ap (λ m. m + 1) (sym (depth_rest y older p (not_older y older p h (h.0.parent_older p up)))))
    (λ b.
    let f' = sym (find_rest y older w b) ∙ f in
    let there = parent_there older w p x h.1 f' e in
    depth_rest y older w b ∙ depth_up older w p x h.1 f' e
    ∙ ap (λ m. m + 1) (sym (depth_rest y older p (not_older y older p h there))))

-- ---- contents

-- what a row says, by the row
pub now_row : (o : Option Row) (c : Content) → Some c ≡ option_map (λ (row : Row). row.now) o → (row : Row) × (o ≡ Some row) × (row.now ≡ c)
now_row None c e = absurd (no_none c (sym e))
now_row (Some row) c e = (row, refl, sym (same_Some c row.now e))

pub now_none : (o : Option Row) → None ≡ option_map (λ (row : Row). row.now) o → o ≡ None
now_none None e = refl
now_none (Some row) e = absurd (no_none row.now e)

-- the world at a place
pub found_at : (F : State plain) (w : WorldId) (i : ℕ) → place_of F w ≡ Some i → (x : World plain) × (find_world F w ≡ Some x)
found_at F w i p = by_option (find_world F w)
    (λ e. absurd (false≢true (sym (ap is_some e) ∙ sym (place_find F w) ∙ ap is_some p)))
    (λ x e. (x, e))

module _ (layers : List Layer) (h : IsSparse layers) (at : Spot) (here : IsAt layers at) (r : Layer) (s : slice_get layers at.place ≡ Some r) where
  pub world_at : (x : World plain) × (find_world (full_of layers) at.world ≡ Some x)
  world_at = found_at (full_of layers) at.world at.place here

  pub keeps_at : Keeps r world_at.0
  keeps_at = h.kept.at at.world at.place world_at.0 r here world_at.1 s

  pub holds : (q : Slot) → content_at (full_of layers) at.world q ≡ map.get world_at.0.copy q
  holds q = ap (option_and_then (λ (x : World plain). map.get x.copy q)) world_at.1

  content_row : (q : Slot) (row : Row) → map.get r.rows q ≡ Some row → content_at (full_of layers) at.world q ≡ now_of row
  content_row q row e = holds q ∙ keeps_at.now q row e

  pub content_now : (q : Slot) (c : Content) → Some c ≡ option_map (λ (row : Row). row.now) (map.get r.rows q) → content_of c ≡ content_at (full_of layers) at.world q
  content_now q c e = let w = now_row (map.get r.rows q) c e in ap content_of (sym w.2) ∙ sym (content_row q w.0 w.1)

  pub content_closed : (q : Slot) → map.get r.rows q ≡ None → map.contains_key r.closed q.object ≡ true → content_at (full_of layers) at.world q ≡ None
  content_closed q e c = holds q ∙ (local_find (full_of layers) at.world world_at.0 h.reached world_at.1).absent q (closed_same r world_at.0 keeps_at q ∙ c) (row_none r world_at.0 keeps_at q e)

  pub content_first : (q : Slot) → map.get r.rows q ≡ None → r.above ≡ None → content_at (full_of layers) at.world q ≡ None
  content_first q e u = holds q ∙ keeps_at.bare q u e

  -- the first world
  pub content_kept : (q : Slot) → r.above ≡ None → option_and_then now_of (map.get r.rows q) ≡ content_at (full_of layers) at.world q
  content_kept q u = by_option (map.get r.rows q)
      (λ e. ap (option_and_then now_of) e ∙ sym (content_first q e u))
      (λ row e. ap (option_and_then now_of) e ∙ sym (content_row q row e))

  pub above_at : (a : Spot) → r.above ≡ Some a → IsAt layers a × (a.place < at.place)
  above_at a u = h.kept.up at.world at.place r a here s u

  pub parent_is : (a : Spot) → r.above ≡ Some a → world_at.0.parent ≡ Some a.world
  parent_is a u = keeps_at.parent ∙ ap (option_map (λ (b : Spot). b.world)) u

  pub content_above : (q : Slot) (a : Spot) → map.get r.rows q ≡ None → map.contains_key r.closed q.object ≡ false → r.above ≡ Some a → content_at (full_of layers) at.world q ≡ content_at (full_of layers) a.world q
  content_above q a e c u = holds q ∙ inherits_find (full_of layers) at.world a.world world_at.0 q h.reached world_at.1 (parent_is a u) (untouched r world_at.0 keeps_at q e c)

  pub depth_above : (a : Spot) → r.above ≡ Some a → depth_of (full_of layers) at.world ≡ depth_of (full_of layers) a.world + 1
  depth_above a u = depth_up (full_of layers) at.world a.world world_at.0 h.reached world_at.1 (parent_is a u)

pub below_at : (layers : List Layer) (at : Spot) → IsSparse layers → IsAt layers at → at.place < length layers
below_at layers at h here =
    let l : at.place < length (full_of layers) = place_below (full_of layers) at.world at.place here in
    omega (arith, h.kept.many)

-- a world that has a parent, by its layer
pub above_some : (layers : List Layer) (h : IsSparse layers) (at : Spot) (here : IsAt layers at) (r : Layer) (s : slice_get layers at.place ≡ Some r) → ((x : World plain) → find_world (full_of layers) at.world ≡ Some x → is_some x.parent ≡ true) → is_some r.above ≡ true
above_some layers h at here r s up =
    let x = world_at layers h at here r s in
    sym (ap is_some (keeps_at layers h at here r s).parent ∙ some_map (λ (a : Spot). a.world) r.above) ∙ up x.0 x.1

-- its parent, by its layer
pub parent_at : (layers : List Layer) (h : IsSparse layers) (at : Spot) (here : IsAt layers at) (r : Layer) (s : slice_get layers at.place ≡ Some r) → parent_of (full_of layers) at.world ≡ option_map (λ (a : Spot). a.world) r.above
parent_at layers h at here r s = let x = world_at layers h at here r s in ap (option_and_then (λ (z : World plain). z.parent)) x.1 ∙ (keeps_at layers h at here r s).parent

-- What the layer of a world keeps of an object that is past what the bounds cover.
use Rattle.std.proofs.Common.{◌≡◌, ℕ, ◌<◌, true, false, List, [], ◌∷◌, length, None, Some, is_some, slice_get, ap, sym, ◌∙◌, arith}
use Rattle.std.specs.Option.{option_map}
use Rattle.std.specs.FinMap as map
use Rattle.std.proofs.lemmas.Bool.{true≢false, or_parts}
use Rattle.std.proofs.lemmas.Option.{same_Some}
use Rattle.wjs_base.specs.declared.values.Slot.{Slot}
use Rattle.wjs_base.specs.declared.ids.WorldId.{WorldId}
use Rattle.wjs_base.proofs.Booleans.{by_bool}
use Rattle.wjs_base.proofs.Options.{with_some, by_option, no_none}
use Rattle.wjs_store.specs.Naming.{plain}
use Rattle.wjs_store.specs.Reached.{IsReached}
use Rattle.wjs_store.specs.State.{World, State, find_world, same_world, is_touched}
use Rattle.wjs_store.specs.Fixed.{begun}
use Rattle.wjs_overlay.specs.declared.bounds.Bound.{Bound}
use Rattle.wjs_layers.specs.declared.layer.Layer.{Layer}
use Rattle.wjs_layers.specs.declared.layer.Spot.{Spot}
use Rattle.wjs_overlay.specs.Covers.{covers}
use Rattle.wjs_layers.specs.Look.{IsUntouched}
use Rattle.wjs_layers.specs.Sparse.{full_of, place_of, IsSparse, IsAt}
use Rattle.wjs_overlay.specs.Touched.{Covered, IsCovered}
use Rattle.wjs_layers.proofs.Full.{closed_same, row_some}
use Rattle.wjs_layers.proofs.Looks.{above_at, world_at, keeps_at}
use Rattle.wjs_layers.proofs.Places.{place_none, place_head, place_tail, place_below, find_top, find_rest}
use Rattle.wjs_overlay.proofs.StoreLaws.{first_layer, first_stand}

-- a world at a later place than the first has a parent
has_parent : (F : State plain) (w : WorldId) (i : ℕ) (x : World plain) → IsReached F → place_of F w ≡ Some i → find_world F w ≡ Some x → 0 < i → x.parent ≡ None → ⊥
has_parent [] w i x h p f l u = no_none i (sym (place_none w) ∙ p)
has_parent (y ∷ older) w i x h p f l u = by_bool (same_world y.id w)
    (λ e.
    let up : y.parent ≡ None = ap (λ (z : World plain). z.parent) (same_Some y x (sym (find_top y older w e) ∙ f)) ∙ u in
    let none : length older ≡ 0 = h.0.alone up in
    let place : length older ≡ i = same_Some (length older) i (sym (place_head y older w e) ∙ p) in
    omega arith)
    (λ e. has_parent older w i x h.1 (sym (place_tail y older w e) ∙ p) (sym (find_rest y older w e) ∙ f) l u)

pub untouched_past : (bs : List Bound) (layers : List Layer) (h : IsSparse layers) → Covered bs (full_of layers) → (at : Spot) (here : IsAt layers at) → 0 < at.place → (r : Layer) (s : slice_get layers at.place ≡ Some r) (q : Slot) → covers bs at.place q.object.serial ≡ false → IsUntouched r q
untouched_past bs layers h k at here l r s q past =
    let x = world_at layers h at here r s in
    let kr = keeps_at layers h at here r s in
    let bare : is_touched x.0 q ≡ false = by_bool (is_touched x.0 q) (λ t. absurd (true≢false (sym (k at.world at.place x.0 q here x.1 l t) ∙ past))) (λ t. t) in
    let parts = or_parts _ _ bare in
    let up : is_some r.above ≡ true = by_option r.above
    (λ u. absurd (has_parent (full_of layers) at.world at.place x.0 h.reached here x.1 l (kr.parent ∙ ap (option_map (λ (a : Spot). a.world)) u)))
    (λ a u. ap is_some u) in
    let row : map.get r.rows q ≡ None = by_option (map.get r.rows q)
    (λ n. n)
    (λ row n. absurd (true≢false (sym (row_some r x.0 kr q row up n) ∙ parts.0))) in
    (row, sym (closed_same r x.0 kr q) ∙ parts.1, up)

-- a world with a parent stands at a later place than the first
pub child_place : (layers : List Layer) (h : IsSparse layers) (at : Spot) (here : IsAt layers at) (r : Layer) (s : slice_get layers at.place ≡ Some r) → is_some r.above ≡ true → 0 < at.place
child_place layers h at here r s up = with_some r.above up (λ a u. let below : a.place < at.place = (above_at layers h at here r s a u).1 in omega arith)

-- where there is but the first world
pub first_covered : (id : WorldId) → id.serial ≡ 0 → IsCovered [] (first_layer id ∷ [])
first_covered id zeroth = record {
  rising = λ i j a b l s t. no_none a s;
  touched = λ w i x s p f l t.
      let place : place_of (begun id) w ≡ Some i = sym (ap (λ F. place_of F w) (first_stand id zeroth).full) ∙ p in
      let below : i < 1 = place_below (begun id) w i place in
      absurd (omega arith);
}

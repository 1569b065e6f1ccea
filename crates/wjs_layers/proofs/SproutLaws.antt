-- A sprout.
use Rattle.std.proofs.Common.{◌≡◌, ℕ, Bool, List, [], ◌∷◌, ◌++◌, refl, ap, sym, ◌∙◌, subst, Some}
use Rattle.std.specs.Option.{option_map_or, option_and_then}
use Rattle.std.specs.FinMap as map
use Rattle.std.proofs.lemmas.Option.{same_Some}
use Rattle.wjs_base.specs.declared.ids.WorldId.{WorldId}
use Rattle.wjs_base.specs.Order.{slot_cmp}
use Rattle.wjs_base.proofs.Options.{no_none}
use Rattle.wjs_store.specs.Naming.{plain}
use Rattle.wjs_store.specs.State.{World, State, find_world, child_of, next_id, after_sprout}
use Rattle.wjs_store.specs.Reached.{IsReached}
use Rattle.wjs_store.proofs.Writes.{found_id, reached_sprout}
use Rattle.wjs_layers.specs.declared.layer.Spot.{Spot}
use Rattle.wjs_layers.specs.declared.layer.Layer.{Layer}
use Rattle.wjs_layers.specs.Sparse.{read_of, mark_of, place_of, full_of, Keeps, IsSparse, IsAt, StandFor}
use Rattle.wjs_layers.proofs.Changes.{kept_push}
use Rattle.wjs_layers.proofs.Looks.{found_at}
use Rattle.wjs_layers.proofs.Puts.{stand_by}

-- a layer with nothing in it
abbrev pub bare_layer : WorldId → Spot → Bool → Layer
bare_layer id at strict = record { id = id; above = Some at; strict = strict; rows = map.empty; closed = map.empty }

keeps_child : (x : World plain) (id : WorldId) (at : Spot) (strict : Bool) → x.id ≡ at.world → Keeps (bare_layer id at strict) (child_of x id strict)
keeps_child x id at strict e = record {
  id = refl;
  parent = ap (λ i. Some i) e;
  strict = refl;
  closed = refl;
  first = λ s. map.get-empty slot_cmp s ∙ sym (ap (option_and_then read_of) (map.get-empty slot_cmp s));
  written = λ s. map.get-empty slot_cmp s ∙ sym (ap (option_and_then mark_of) (map.get-empty slot_cmp s));
  now = λ s row h. no_none row (sym (map.get-empty slot_cmp s) ∙ h);
  marked = λ s row h. no_none row (sym (map.get-empty slot_cmp s) ∙ h);
  present = λ s row u h. no_none row (sym (map.get-empty slot_cmp s) ∙ h);
  bare = λ s u h. no_none at (sym u);
}

pub sprout_is : (F : State plain) (w : WorldId) (owner : ℕ) (strict : Bool) (x : World plain) → find_world F w ≡ Some x → after_sprout F w owner strict ≡ child_of x (next_id F owner) strict ∷ F
unfolding after_sprout
sprout_is F w owner strict x f = ap (λ o. option_map_or (λ x. child_of x (next_id F owner) strict ∷ F) o F) f

pub sprout_by : (layers : List Layer) (h : IsSparse layers) (at : Spot) (here : IsAt layers at) (id : WorldId) (strict : Bool) → id ≡ next_id (full_of layers) id.owner → StandFor (layers ++ bare_layer id at strict ∷ []) (after_sprout (full_of layers) at.world id.owner strict)
sprout_by layers h at here id strict e =
    let F = full_of layers in
    let x = found_at F at.world at.place here in
    let is : after_sprout F at.world id.owner strict ≡ child_of x.0 id strict ∷ F = sprout_is F at.world id.owner strict x.0 x.1 ∙ ap (λ i. child_of x.0 i strict ∷ F) (sym e) in
    let hr : IsReached (child_of x.0 id strict ∷ F) = subst IsReached is (reached_sprout F at.world id.owner strict h.reached) in
    subst (StandFor (layers ++ bare_layer id at strict ∷ [])) (sym is)
    (stand_by (layers ++ bare_layer id at strict ∷ []) (child_of x.0 id strict ∷ F) hr
    (kept_push layers F h.kept (bare_layer id at strict) (child_of x.0 id strict) hr (keeps_child x.0 id at strict (found_id F at.world x.0 x.1))
    (λ a u. let z : at ≡ a = same_Some at a u in subst (λ (b : Spot). place_of F b.world ≡ Some b.place) z here)))

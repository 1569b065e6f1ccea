-- One layer is changed, or put last.
use Rattle.std.proofs.Common.{◌≡◌, ℕ, ◌<◌, ◌+◌, true, false, List, [], ◌∷◌, ◌++◌, length, refl, ap, sym, ◌∙◌, subst, map as each, Option, None, Some, slice_get, set, suc, arith}
use Rattle.std.specs.Option.{option_map}
use Rattle.std.proofs.lemmas.Bool.{true≢false}
use Rattle.std.proofs.Math.ListN.{length-set}
use Rattle.std.proofs.lemmas.List.{length-append}
use Rattle.std.proofs.lemmas.Option.{same_Some}
use Rattle.wjs_base.specs.declared.ids.WorldId.{WorldId}
use Rattle.wjs_base.proofs.Booleans.{by_bool}
use Rattle.wjs_base.proofs.Options.{no_none}
use Rattle.wjs_base.proofs.Lists.{get_last, get_set_same, get_set_other}
use Rattle.wjs_store.specs.Naming.{plain}
use Rattle.wjs_store.specs.State.{World, State, find_world, same_world}
use Rattle.wjs_store.specs.Reached.{IsReached}
use Rattle.wjs_store.proofs.States.{find_each, length_each}
use Rattle.wjs_store.proofs.Writes.{same_self, world_is}
use Rattle.wjs_layers.specs.declared.layer.Spot.{Spot}
use Rattle.wjs_layers.specs.declared.layer.Layer.{Layer}
use Rattle.wjs_layers.specs.Sparse.{place_of, Keeps, AreKept}
use Rattle.wjs_layers.proofs.Places.{place_head, place_tail, place_older, place_one, place_each, place_below, find_top, find_rest, slice_push_old}

-- what was mapped
pub mapped : {A B : Type 0} (g : A → B) (o : Option A) (y : B) → option_map g o ≡ Some y → (x : A) × (o ≡ Some x) × (g x ≡ y)
mapped g None y h = no_none y h
mapped g (Some x) y h = (x, refl, same_Some (g x) y h)

module _ (layers : List Layer) (F : State plain) (k : AreKept layers F) where
  module _ (w : WorldId) (i : ℕ) (r r' : Layer) (g : World plain → World plain) (ids : (x : World plain) → (g x).id ≡ x.id) (p : place_of F w ≡ Some i) (s : slice_get layers i ≡ Some r) (up : r'.above ≡ r.above) where
    below : i < length layers
    below = let l : i < length F = place_below F w i p in omega (arith, k.many)

    here : (v : WorldId) (j : ℕ) (q : Layer) → same_world v w ≡ true → place_of F v ≡ Some j → slice_get (set layers i r') j ≡ Some q → (i ≡ j) × (r' ≡ q)
    here v j q e o t =
        let same : i ≡ j = same_Some i j (sym p ∙ ap (place_of F) (sym (world_is v w e)) ∙ o) in
        (same, same_Some r' q (sym (get_set_same layers i r' below) ∙ ap (slice_get (set layers i r')) same ∙ t))

    there : (v : WorldId) (j : ℕ) (q : Layer) → same_world v w ≡ false → place_of F v ≡ Some j → slice_get (set layers i r') j ≡ Some q → slice_get layers j ≡ Some q
    there v j q e o t = sym (get_set_other layers i j r' (λ z. true≢false (sym (same_self w) ∙ ap (λ u. same_world u w) (place_one F w v j (p ∙ ap (λ m. Some m) z) o) ∙ e))) ∙ t

    -- the layer of one world was changed
    pub kept_set : ((x : World plain) → find_world F w ≡ Some x → Keeps r x → Keeps r' (g x)) → ((v : WorldId) (x : World plain) (q : Layer) → same_world v w ≡ false → find_world F v ≡ Some x → Keeps q x → Keeps q (g x)) → AreKept (set layers i r') (each g F)
    kept_set one others = record {
      many = length-set layers i r' ∙ k.many ∙ sym (length_each g ids F);
      at = λ v j y q o f t.
          let o' = sym (place_each g ids F v) ∙ o in
          let m = mapped g (find_world F v) y (sym (find_each g ids F v) ∙ f) in
          by_bool (same_world v w)
          (λ e.
          let h = here v j q e o' t in
          let fw : find_world F w ≡ Some m.0 = ap (find_world F) (sym (world_is v w e)) ∙ m.1 in
          subst (λ (z : World plain). Keeps q z) m.2 (subst (λ (z : Layer). Keeps z (g m.0)) h.1 (one m.0 fw (k.at w i m.0 r p fw s))))
          (λ e. subst (λ (z : World plain). Keeps q z) m.2 (others v m.0 q e m.1 (k.at v j m.0 q o' m.1 (there v j q e o' t))));
      up = λ v j q a o t z.
          let o' = sym (place_each g ids F v) ∙ o in
          let u = by_bool {P = (place_of F a.world ≡ Some a.place) × (a.place < j)} (same_world v w)
          (λ e.
          let h = here v j q e o' t in
          let c = k.up w i r a p s (sym up ∙ ap (λ (l : Layer). l.above) h.1 ∙ z) in
          (c.0, subst (λ m. a.place < m) h.0 c.1))
          (λ e. k.up v j q a o' (there v j q e o' t) z) in
          (place_each g ids F a.world ∙ u.0, u.1);
    }

  -- a layer was put last
  pub kept_push : (r : Layer) (x : World plain) → IsReached (x ∷ F) → Keeps r x → ((a : Spot) → r.above ≡ Some a → place_of F a.world ≡ Some a.place) → AreKept (layers ++ r ∷ []) (x ∷ F)
  kept_push r x h kr ku =
      let last : (v : WorldId) (j : ℕ) (q : Layer) → same_world x.id v ≡ true → place_of (x ∷ F) v ≡ Some j → slice_get (layers ++ r ∷ []) j ≡ Some q → (length F ≡ j) × (r ≡ q) = λ v j q e o t.
      let n : length F ≡ j = same_Some (length F) j (sym (place_head x F v e) ∙ o) in
      (n, same_Some r q (sym (get_last layers r) ∙ ap (slice_get (layers ++ r ∷ [])) (k.many ∙ n) ∙ t)) in
      let old : (v : WorldId) (j : ℕ) (q : Layer) → same_world x.id v ≡ false → place_of (x ∷ F) v ≡ Some j → slice_get (layers ++ r ∷ []) j ≡ Some q → (place_of F v ≡ Some j) × (slice_get layers j ≡ Some q) = λ v j q e o t.
      let o' = sym (place_tail x F v e) ∙ o in
      let l : j < length F = place_below F v j o' in
      let l' : j < length layers = omega (arith, k.many) in
      (o', sym (slice_push_old layers r j l') ∙ t) in
      record {
        many = length-append layers (r ∷ []) ∙ (let e : length layers + 1 ≡ suc (length F) = omega (arith, k.many) in e);
        at = λ v j y q o f t. by_bool (same_world x.id v)
            (λ e. subst (λ (z : Layer). Keeps z y) (last v j q e o t).1 (subst (λ (z : World plain). Keeps r z) (same_Some x y (sym (find_top x F v e) ∙ f)) kr))
            (λ e. let u = old v j q e o t in k.at v j y q u.0 (sym (find_rest x F v e) ∙ f) u.1);
        up = λ v j q a o t z. by_bool (same_world x.id v)
            (λ e.
            let u = last v j q e o t in
            let c = ku a (ap (λ (l : Layer). l.above) u.1 ∙ z) in
            (place_older x F a.world a.place h c, subst (λ m. a.place < m) u.0 (place_below F a.world a.place c)))
            (λ e.
            let u = old v j q e o t in
            let c = k.up v j q a u.0 u.1 z in
            (place_older x F a.world a.place h c.0, c.1));
      }

-- Worlds by their places.
use Rattle.std.proofs.Common.{◌≡◌, ℕ, ◌<◌, true, false, cond, List, [], ◌∷◌, ◌++◌, length, refl, ap, sym, ◌∙◌, map as each, None, Some, is_some, slice_get, get_or, suc, zero, arith}
use Rattle.std.proofs.lemmas.Option.{same_Some}
use Rattle.wjs_base.specs.declared.ids.WorldId.{WorldId}
use Rattle.wjs_base.proofs.Booleans.{by_bool}
use Rattle.wjs_base.proofs.Options.{no_none}
use Rattle.wjs_store.specs.Naming.{plain}
use Rattle.wjs_store.specs.State.{World, State, find_world, has_world, same_world}
use Rattle.wjs_store.specs.Reached.{IsReached}
use Rattle.wjs_store.proofs.States.{length_each}
use Rattle.wjs_store.proofs.Writes.{world_is, not_older}
use Rattle.wjs_store.proofs.Parents.{slice_get_at}
use Rattle.wjs_layers.specs.Sparse.{place_of}

pub place_none : (i : WorldId) → place_of [] i ≡ None
unfolding place_of
place_none i = refl

pub place_head : (x : World plain) (older : State plain) (i : WorldId) → same_world x.id i ≡ true → place_of (x ∷ older) i ≡ Some (length older)
unfolding place_of
place_head x older i e = ap (λ b. cond b (Some (length older)) (place_of older i)) e

pub place_tail : (x : World plain) (older : State plain) (i : WorldId) → same_world x.id i ≡ false → place_of (x ∷ older) i ≡ place_of older i
unfolding place_of
place_tail x older i e = ap (λ b. cond b (Some (length older)) (place_of older i)) e

pub find_top : (x : World plain) (older : State plain) (i : WorldId) → same_world x.id i ≡ true → find_world (x ∷ older) i ≡ Some x
unfolding find_world
find_top x older i e = ap (λ b. cond b (Some x) (find_world older i)) e

pub find_rest : (x : World plain) (older : State plain) (i : WorldId) → same_world x.id i ≡ false → find_world (x ∷ older) i ≡ find_world older i
unfolding find_world
find_rest x older i e = ap (λ b. cond b (Some x) (find_world older i)) e

pub find_nil : (i : WorldId) → find_world {n = plain} [] i ≡ None
unfolding find_world
find_nil i = refl

-- a place is below the number of worlds
pub place_below : (F : State plain) (w : WorldId) (i : ℕ) → place_of F w ≡ Some i → i < length F
place_below [] w i h = no_none i (sym (place_none w) ∙ h)
place_below (x ∷ older) w i h = by_bool (same_world x.id w)
    (λ e. let q : length older ≡ i = same_Some (length older) i (sym (place_head x older w e) ∙ h) in omega arith)
    (λ e. let q : i < length older = place_below older w i (sym (place_tail x older w e) ∙ h) in omega arith)

-- two worlds are at two places
pub place_one : (F : State plain) (v w : WorldId) (i : ℕ) → place_of F v ≡ Some i → place_of F w ≡ Some i → v ≡ w
place_one [] v w i h k = no_none i (sym (place_none v) ∙ h)
place_one (x ∷ older) v w i h k = by_bool (same_world x.id v)
    (λ e. by_bool (same_world x.id w)
    (λ f. sym (world_is x.id v e) ∙ world_is x.id w f)
    (λ f. let p : i < length older = place_below older w i (sym (place_tail x older w f) ∙ k) in
    let q : length older ≡ i = same_Some (length older) i (sym (place_head x older v e) ∙ h) in absurd (omega arith)))
    (λ e. by_bool (same_world x.id w)
    (λ f. let p : i < length older = place_below older v i (sym (place_tail x older v e) ∙ h) in
    let q : length older ≡ i = same_Some (length older) i (sym (place_head x older w f) ∙ k) in absurd (omega arith))
    (λ f. place_one older v w i (sym (place_tail x older v e) ∙ h) (sym (place_tail x older w f) ∙ k)))

-- a world that is there has a place, and one with a place is there
pub place_find : (F : State plain) (w : WorldId) → is_some (place_of F w) ≡ has_world F w
place_find [] w = ap is_some (place_none w) ∙ ap is_some (sym (find_nil w))
place_find (x ∷ older) w = by_bool (same_world x.id w)
    (λ e. ap is_some (place_head x older w e) ∙ ap is_some (sym (find_top x older w e)))
    (λ e. ap is_some (place_tail x older w e) ∙ place_find older w ∙ ap is_some (sym (find_rest x older w e)))

-- the place of an older world stays
pub place_older : (x : World plain) (older : State plain) (w : WorldId) (i : ℕ) → IsReached (x ∷ older) → place_of older w ≡ Some i → place_of (x ∷ older) w ≡ Some i
place_older x older w i h e = place_tail x older w (not_older x older w h (sym (place_find older w) ∙ ap is_some e)) ∙ e

pub find_older : (x : World plain) (older : State plain) (w : WorldId) (i : ℕ) → IsReached (x ∷ older) → place_of older w ≡ Some i → find_world (x ∷ older) w ≡ find_world older w
find_older x older w i h e = find_rest x older w (not_older x older w h (sym (place_find older w) ∙ ap is_some e))

module _ (g : World plain → World plain) (ids : (x : World plain) → (g x).id ≡ x.id) where
  pub place_each : (F : State plain) (w : WorldId) → place_of (each g F) w ≡ place_of F w
  unfolding place_of
  place_each [] w = refl
  place_each (x ∷ older) w =
      ap (λ j. cond (same_world j w) (Some (length (each g older))) (place_of (each g older) w)) (ids x)
      ∙ ap (λ m. cond (same_world x.id w) (Some m) (place_of (each g older) w)) (length_each g ids older)
      ∙ ap (cond (same_world x.id w) (Some (length older))) (place_each older w)

-- ---- lists by place

pub slice_push_old : {A : Type 0} (xs : List A) (a : A) (i : ℕ) → i < length xs → slice_get (xs ++ a ∷ []) i ≡ slice_get xs i
slice_push_old [] a i h = absurd (omega arith)
slice_push_old (x ∷ xs) a zero h = refl
slice_push_old (x ∷ xs) a (suc i) h = slice_push_old xs a i (omega arith)

-- what was read at a place
pub slice_read : {A : Type 0} (xs : List A) (i : ℕ) (a : A) → a ≡ get_or xs i a → i < length xs → slice_get xs i ≡ Some a
slice_read xs i a e l = slice_get_at xs i a l ∙ ap (λ x. Some x) (sym e)

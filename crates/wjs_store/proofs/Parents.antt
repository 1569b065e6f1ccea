-- A place of a list that holds something, and a world with its parent.
use Rattle.std.proofs.Common.{◌≡◌, ℕ, zero, suc, ◌<◌, slice_get, cond, List, [], ◌∷◌, length, get_or, refl, ap, sym, ◌∙◌, None, Some, arith}
use Rattle.wjs_base.specs.declared.ids.WorldId.{WorldId}
use Rattle.wjs_base.specs.declared.values.Slot.{Slot}
use Rattle.wjs_store.specs.Naming.{plain}
use Rattle.std.specs.Option.{option_map, option_map_or, option_and_then, is_none}
use Rattle.wjs_store.specs.State.{World, State, find_world, with_parent, verdict_in, verdict_at, after_commit, fault_in, settle, no_parent, moved, differs}

pub slice_get_at : {R : Type 0} (xs : List R) (i : ℕ) (d : R) → i < length xs → slice_get xs i ≡ Some (get_or xs i d)
slice_get_at [] i d l = absurd (omega arith)
slice_get_at (x ∷ xs) zero d l = refl
slice_get_at (x ∷ xs) (suc i) d l = slice_get_at xs i d (omega arith)

module _ (F : State plain) (w : WorldId) where
  pub pair_none : find_world F w ≡ None → with_parent F w ≡ None
  unfolding with_parent
  pair_none h = ap (option_and_then (λ (x : World plain). option_map (λ p. (x, p)) (option_and_then (find_world F) x.parent))) h

  module _ (x : World plain) (h : find_world F w ≡ Some x) where
    pub pair_root : x.parent ≡ None → with_parent F w ≡ None
    unfolding with_parent
    pair_root r = ap (option_and_then (λ (x : World plain). option_map (λ p. (x, p)) (option_and_then (find_world F) x.parent))) h ∙ ap (λ o. option_map (λ p. (x, p)) (option_and_then (find_world F) o)) r

    pub pair_gone : (p : WorldId) → x.parent ≡ Some p → find_world F p ≡ None → with_parent F w ≡ None
    unfolding with_parent
    pair_gone p r g = ap (option_and_then (λ (x : World plain). option_map (λ p. (x, p)) (option_and_then (find_world F) x.parent))) h ∙ ap (λ o. option_map (λ p. (x, p)) (option_and_then (find_world F) o)) r ∙ ap (option_map (λ p. (x, p))) g

    pub pair_found : (p : WorldId) (y : World plain) → x.parent ≡ Some p → find_world F p ≡ Some y → with_parent F w ≡ Some (x, y)
    unfolding with_parent
    pair_found p y r g = ap (option_and_then (λ (x : World plain). option_map (λ p. (x, p)) (option_and_then (find_world F) x.parent))) h ∙ ap (λ o. option_map (λ p. (x, p)) (option_and_then (find_world F) o)) r ∙ ap (option_map (λ p. (x, p))) g

  pub commit_alone : with_parent F w ≡ None → (no_parent ≡ verdict_at F w) × (F ≡ after_commit F w)
  unfolding verdict_at after_commit
  commit_alone h = (sym (ap (λ o. option_map_or (λ (e : World plain × World plain). verdict_in e.0 e.1) o no_parent) h), sym (ap (λ o. option_map_or (λ (e : World plain × World plain). cond (is_none (fault_in e.0 e.1)) (settle e.0 e.1.id F) F) o F) h))

  pub commit_fault : (x y : World plain) (s : Slot) → with_parent F w ≡ Some (x, y) → Some s ≡ fault_in x y → (differs s ≡ verdict_at F w) × (F ≡ after_commit F w)
  unfolding verdict_at after_commit
  commit_fault x y s h f = (sym (ap (λ o. option_map_or (λ (e : World plain × World plain). verdict_in e.0 e.1) o no_parent) h ∙ ap (λ o. option_map_or differs o moved) (sym f)), sym (ap (λ o. option_map_or (λ (e : World plain × World plain). cond (is_none (fault_in e.0 e.1)) (settle e.0 e.1.id F) F) o F) h ∙ ap (λ o. cond (is_none o) (settle x y.id F) F) (sym f)))

  pub commit_moves : (x y : World plain) → with_parent F w ≡ Some (x, y) → None ≡ fault_in x y → (moved ≡ verdict_at F w) × (settle x y.id F ≡ after_commit F w)
  unfolding verdict_at after_commit
  commit_moves x y h f = (sym (ap (λ o. option_map_or (λ (e : World plain × World plain). verdict_in e.0 e.1) o no_parent) h ∙ ap (λ o. option_map_or differs o moved) (sym f)), sym (ap (λ o. option_map_or (λ (e : World plain × World plain). cond (is_none (fault_in e.0 e.1)) (settle e.0 e.1.id F) F) o F) h ∙ ap (λ o. cond (is_none o) (settle x y.id F) F) (sym f)))

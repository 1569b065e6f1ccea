-- Worlds by number, where each world of a state is changed.
use Rattle.std.proofs.Common.{◌≡◌, ℕ, cond, ◌==◌, ◌+◌, [], ◌∷◌, length, suc, refl, ap, sym, ◌∙◌, map as each, Option, None, Some, is_some}
use Rattle.std.specs.Option.{option_map, option_and_then}
use Rattle.std.specs.FinMap as map
use Rattle.wjs_base.specs.declared.ids.WorldId.{WorldId}
use Rattle.wjs_base.proofs.Options.{some_map, map_cond}
use Rattle.wjs_store.specs.Naming.{Naming}
use Rattle.wjs_store.specs.State.{World, State, same_world, find_world, has_world, count_of, content_at}

module _ {K V : Type 0} {n : Naming K V} (g : World n → World n) (ids : (x : World n) → (g x).id ≡ x.id) where
  pub find_each : (F : State n) (i : WorldId) → find_world (each g F) i ≡ option_map g (find_world F i)
  unfolding find_world
  find_each [] i = refl
  find_each (x ∷ F) i =
      ap (λ j. cond (same_world j i) (Some (g x)) (find_world (each g F) i)) (ids x)
      ∙ ap (cond (same_world x.id i) (Some (g x))) (find_each F i)
      ∙ sym (map_cond g (same_world x.id i) x (find_world F i))

  pub has_each : (F : State n) (i : WorldId) → has_world (each g F) i ≡ has_world F i
  has_each F i = ap is_some (find_each F i) ∙ some_map g (find_world F i)

  pub count_each : (owner : ℕ) (F : State n) → count_of owner (each g F) ≡ count_of owner F
  count_each owner [] = refl
  count_each owner (x ∷ F) =
      ap (λ (j : WorldId). cond (j.owner == owner) 1 0 + count_of owner (each g F)) (ids x)
      ∙ ap (λ m. cond (x.id.owner == owner) 1 0 + m) (count_each owner F)

  pub length_each : (F : State n) → length (each g F) ≡ length F
  length_each [] = refl
  length_each (x ∷ F) = ap suc (length_each F)

  -- contents stay where each copy stays
  content_map : (s : K) (o : Option (World n)) → ((x : World n) → map.get (g x).copy s ≡ map.get x.copy s) → option_and_then (λ (x : World n). map.get x.copy s) (option_map g o) ≡ option_and_then (λ (x : World n). map.get x.copy s) o
  content_map s None h = refl
  content_map s (Some x) h = h x

  pub content_each : (F : State n) (i : WorldId) (s : K) → ((x : World n) → map.get (g x).copy s ≡ map.get x.copy s) → content_at (each g F) i s ≡ content_at F i s
  content_each F i s h = ap (option_and_then (λ (x : World n). map.get x.copy s)) (find_each F i) ∙ content_map s (find_world F i) h

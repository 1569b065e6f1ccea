-- Worlds that hold in some slots what a view does.
use Rattle.std.proofs.Common.{◌≡◌, Bool, true, false, cond, List, [], ◌∷◌, refl, ap, ◌∙◌, map as each, Option}
use Rattle.std.specs.Option.{option_map}
use Rattle.std.specs.FinMap as map
use Rattle.wjs_base.specs.declared.ids.WorldId.{WorldId}
use Rattle.wjs_base.specs.declared.values.Slot.{Slot}
use Rattle.wjs_store.specs.Naming.{plain}
use Rattle.wjs_store.specs.Meaning.{View, Worlds}
use Rattle.wjs_store.specs.State.{World, find_world, has_world, content_at}
use Rattle.wjs_store.proofs.States.{find_each, has_each, content_each}
use Rattle.wjs_session.specs.Filled.{filled}
use Rattle.wjs_session.specs.Maps.{get_filled}

pub each_twice : {A B C : Type 0} (g : B → C) (h : A → B) (F : List A) → each g (each h F) ≡ each (λ y. g (h y)) F
each_twice g h [] = refl
each_twice g h (y ∷ F) = ap (λ G. g (h y) ∷ G) (each_twice g h F)

module _ (w : Slot → Bool) (o : View) where
  -- a world that holds what is outside where the test fails
  abbrev pub fill : World plain → World plain
  fill y = record y { copy = filled w y.copy o }

  pub fill_cond : (b : Bool) (a z y : World plain) → a ≡ fill z → cond b a (fill y) ≡ fill (cond b z y)
  fill_cond true a z y e = e
  fill_cond false a z y e = refl

  pub get_fill : (y : World plain) (s : Slot) → w s ≡ true → map.get (fill y).copy s ≡ map.get y.copy s
  get_fill y s h = get_filled w y.copy o s ∙ ap (λ b. cond b (map.get y.copy s) (map.get o s)) h

  pub get_outside : (y : World plain) (s : Slot) → w s ≡ false → map.get (fill y).copy s ≡ map.get o s
  get_outside y s h = get_filled w y.copy o s ∙ ap (λ b. cond b (map.get y.copy s) (map.get o s)) h

  pub find_fill : (G : Worlds) (d : WorldId) → find_world (each fill G) d ≡ option_map fill (find_world G d)
  find_fill G d = find_each fill (λ y. refl) G d

  pub has_fill : (G : Worlds) (d : WorldId) → has_world (each fill G) d ≡ has_world G d
  has_fill G d = has_each fill (λ y. refl) G d

  pub content_fill : (G : Worlds) (d : WorldId) (s : Slot) → w s ≡ true → content_at (each fill G) d s ≡ content_at G d s
  content_fill G d s h = content_each fill (λ y. refl) G d s (λ y. get_fill y s h)

-- What a session that rests would mean where the first world holds something else.
use Rattle.std.proofs.Common.{◌≡◌, Bool, true, false, cond, ◌&&◌, [], ◌∷◌, Option, None, Some, is_some, refl, sym, ap, ◌∙◌}
use Rattle.std.specs.Prelude.{map as each}
use Rattle.std.specs.Option.{option_map, option_and_then}
use Rattle.std.specs.FinMap as map
use Rattle.std.proofs.lemmas.Bool.{or_parts}
use Rattle.wjs_base.specs.declared.ids.WorldId.{WorldId}
use Rattle.wjs_base.specs.declared.values.Slot.{Slot}
use Rattle.wjs_base.specs.declared.values.Value.{Value}
use Rattle.wjs_base.specs.Same.{same_value}
use Rattle.wjs_base.specs.Text.{Table}
use Rattle.wjs_base.proofs.Booleans.{by_bool}
use Rattle.wjs_base.proofs.Options.{none_of}
use Rattle.wjs_store.specs.Naming.{plain}
use Rattle.wjs_store.specs.Meaning.{View, Worlds}
use Rattle.wjs_store.specs.State.{World, find_world, has_world, content_at, has_row, is_touched, same_content}
use Rattle.wjs_by_content.specs.Renamed.{Knows}
use Rattle.wjs_by_content.specs.Telling.{names_of}
use Rattle.wjs_by_content.specs.Worlds.{KnowsWorlds}
use Rattle.wjs_session.specs.Session.{first_copy, settled, outer, widened, full_of, owned}
use Rattle.wjs_session.specs.Maps.{get_filled, get_outer, own_by, get_owned}
use Rattle.wjs_session.specs.Fills.{fill, find_fill}
use Rattle.wjs_tries.specs.Views.{KnowsView}

filled_at : (w : Slot → Bool) (o : View) (G : Worlds) (d : WorldId) (s : Slot)
    → content_at (each (fill w o) G) d s ≡ cond (has_world G d) (cond (w s) (content_at G d s) (map.get o s)) None
filled_at w o G d s = ap (option_and_then (λ (y : World plain). map.get y.copy s)) (find_fill w o G d) ∙ by (find_world G d)
  where
    by : (r : Option (World plain)) → option_and_then (λ (y : World plain). map.get y.copy s) (option_map (fill w o) r)
        ≡ cond (is_some r) (cond (w s) (option_and_then (λ (y : World plain). map.get y.copy s) r) (map.get o s)) None
    by None = refl
    by (Some y) = get_filled w y.copy o s

-- where a session has touched nothing it takes the first world to hold what that holds
own_untouched : (x : World plain) (base : View) (s : Slot) → is_touched x s ≡ false → map.get (owned x base) s ≡ map.get base s
own_untouched x base s t =
    let parts = or_parts (has_row x s) (map.contains_key x.closed s.object) t in
    let rows = or_parts (map.contains_key x.first s) (map.contains_key x.written s) parts.0 in
    let none = none_of (map.get x.first s) rows.0 in
    get_owned x base s ∙ (λ k. own_by (none k) (parts.1 k) (parts.0 k) (map.get base s))

-- by the session's world, its inner worlds, what the first world holds, and another view
module _ (x : World plain) (G : Worlds) (base own : View) where
  -- a touched slot holds the same under both
  outer_touched : (s : Slot) → is_touched x s ≡ true → map.get (outer x (owned x base)) s ≡ map.get (outer x own) s
  outer_touched s t =
      get_outer x (owned x base) s
      ∙ ap (λ b. cond b (map.get x.copy s) (map.get (owned x base) s)) t
      ∙ sym (ap (λ b. cond b (map.get x.copy s) (map.get own s)) t)
      ∙ sym (get_outer x own s)

  outer_untouched : (s : Slot) → is_touched x s ≡ false → map.get (outer x (owned x base)) s ≡ map.get base s
  outer_untouched s t = get_outer x (owned x base) s ∙ ap (λ b. cond b (map.get x.copy s) (map.get (owned x base) s)) t ∙ own_untouched x base s t

  not_settled : (s : Slot) → is_touched x s ≡ false → settled x G s ≡ false
  not_settled s t = ap (λ b. b && same_content same_value (map.get (first_copy G) s) (map.get x.copy s)) t

  -- what a slot holds now it held under the other view, or the first world holds it
  pub either_held : (i : WorldId) (s : Slot) (v : Value) (P : Type 0) → (content_at (full_of x G own) i s ≡ Some v → P) → (map.get base s ≡ Some v → P)
      → content_at (full_of x G (owned x base)) i s ≡ Some v → P
  either_held i s v P was fresh at = by_bool (is_touched x s)
      (λ t.
      let same = filled_at (settled x G) (outer x (owned x base)) G i s
      ∙ ap (λ c. cond (has_world G i) (cond (settled x G s) (content_at G i s) c) None) (outer_touched s t)
      ∙ sym (filled_at (settled x G) (outer x own) G i s) in
      was (sym same ∙ at))
      (λ t.
      let now = filled_at (settled x G) (outer x (owned x base)) G i s
      ∙ (λ k. cond (has_world G i) (cond (not_settled s t k) (content_at G i s) (outer_untouched s t k)) None) in
      held (has_world G i) (sym now ∙ at))
    where
      held : (b : Bool) → cond b (map.get base s) None ≡ Some v → P
      held true e = fresh e
      held false e = absurd (cc)

  -- a table that knows the worlds under the other view, and what the first world holds, knows them now
  module _ (t : Table) (known : KnowsView t base) where
    world_known : (y : World plain) → Knows (names_of t) (widened x G own y) → Knows (names_of t) (widened x G (owned x base) y)
    world_known y k = record {
      copy = λ s v e. by_bool (is_touched x s)
          (λ h.
          let same = get_filled (settled x G) y.copy (outer x (owned x base)) s
          ∙ ap (cond (settled x G s) (map.get y.copy s)) (outer_touched s h)
          ∙ sym (get_filled (settled x G) y.copy (outer x own) s) in
          k.copy s v (sym same ∙ e))
          (λ h.
          let now = get_filled (settled x G) y.copy (outer x (owned x base)) s ∙ (λ i. cond (not_settled s h i) (map.get y.copy s) (outer_untouched s h i)) in
          known s v (sym now ∙ e));
      first = k.first;
      written = k.written;
    }

    pub all_known : (H : Worlds) → KnowsWorlds t (each (widened x G own) H) → KnowsWorlds t (each (widened x G (owned x base)) H)
    all_known [] k = tt
    all_known (y ∷ H) k = (world_known y k.0, all_known H k.1)

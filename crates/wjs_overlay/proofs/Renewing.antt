-- A world is given up: no world's number changes, and the bounds still cover what is touched.
use Rattle.std.proofs.Common.{◌≡◌, true, false, cond, ◌||◌, List, Option, None, Some, is_some, refl, ap, sym, ◌∙◌}
use Rattle.std.specs.Option.{option_map_or}
use Rattle.std.specs.FinMap as map
use Rattle.std.proofs.lemmas.Bool.{true≢false}
use Rattle.wjs_base.specs.declared.ids.WorldId.{WorldId}
use Rattle.wjs_base.specs.declared.values.Slot.{Slot}
use Rattle.wjs_base.specs.Order.{slot_cmp, obj_cmp}
use Rattle.wjs_base.proofs.Booleans.{by_bool}
use Rattle.wjs_store.specs.Naming.{plain}
use Rattle.wjs_store.specs.State.{World, State, same_world, is_touched, at_world, with_parent}
use Rattle.wjs_layers.specs.Reset.{renewed, after_reset}
use Rattle.wjs_layers.proofs.ListLaws.{at_id}
use Rattle.wjs_overlay.specs.declared.bounds.Bound.{Bound}
use Rattle.wjs_overlay.specs.Touched.{Covered}
use Rattle.wjs_overlay.proofs.StoreLaws.{ids_of, ids_at}
use Rattle.wjs_overlay.proofs.Touching.{covered_each}

ids_by : (w : WorldId) (F : State plain) (o : Option (World plain × World plain))
    → ids_of (option_map_or (λ (e : World plain × World plain). at_world w (renewed e.1) F) o F) ≡ ids_of F
ids_by w F None = refl
ids_by w F (Some e) = ids_at w (renewed e.1) (λ x. refl) F

pub ids_reset : (F : State plain) (w : WorldId) → ids_of (after_reset F w) ≡ ids_of F
unfolding after_reset
ids_reset F w = ids_by w F (with_parent F w)

-- a renewed world has touched nothing
bare : (p x : World plain) (s : Slot) → is_touched (renewed p x) s ≡ false
bare p x s =
    ap (λ o. (is_some o || map.contains_key (renewed p x).written s) || map.contains_key (renewed p x).closed s.object) (map.get-empty slot_cmp s)
    ∙ ap (λ o. is_some o || map.contains_key (renewed p x).closed s.object) (map.get-empty slot_cmp s)
    ∙ ap is_some (map.get-empty obj_cmp s.object)

covered_by : (bs : List Bound) (w : WorldId) (F : State plain) (o : Option (World plain × World plain)) → Covered bs F
    → Covered bs (option_map_or (λ (e : World plain × World plain). at_world w (renewed e.1) F) o F)
covered_by bs w F None h = h
covered_by bs w F (Some e) h =
    let f = renewed e.1 in
    covered_each bs bs (λ i n t. t) F (λ x. cond (same_world x.id w) (f x) x) (λ x. at_id w f (λ z. refl) x)
    (λ v i x s p fx l now no. by_bool (same_world x.id w)
    (λ c. absurd (true≢false (sym now ∙ ap (λ b. is_touched (cond b (f x) x) s) c ∙ bare e.1 x s)))
    (λ c. absurd (true≢false (sym now ∙ ap (λ b. is_touched (cond b (f x) x) s) c ∙ no))))
    h

pub covered_reset : (bs : List Bound) (F : State plain) (w : WorldId) → Covered bs F → Covered bs (after_reset F w)
unfolding after_reset
covered_reset bs F w h = covered_by bs w F (with_parent F w) h

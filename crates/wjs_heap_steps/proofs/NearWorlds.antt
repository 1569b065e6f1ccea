-- Present slots name only what is near, by number and by content alike.
use Rattle.std.proofs.Common.{◌≡◌, ℕ, Bool, true, false, cond, List, [], ◌∷◌, Option, None, Some, refl, sym, ap, ◌∙◌, subst, Ordering, map as each}
use Rattle.std.specs.Option.{option_map, option_and_then}
use Rattle.std.specs.Ordering.{eq_by_cmp}
use Rattle.std.specs.Cmp.{Equal-is}
use Rattle.std.specs.FinMap as map
use Rattle.std.specs.FinMap.{IsAntisymmetric}
use Rattle.wjs_base.specs.declared.ids.WorldId.{WorldId}
use Rattle.wjs_base.specs.declared.values.Slot.{Slot as NumberedSlot}
use Rattle.wjs_base.specs.declared.values.Value.{Value as NumberedValue}
use Rattle.wjs_base.specs.declared.values.Value.TheVariants as values
use Rattle.wjs_base.specs.Text.{Table}
use Rattle.wjs_store.specs.Naming.{plain}
use Rattle.wjs_store.specs.State.{World, same_world, find_world, content_at}
use Rattle.wjs_store.specs.Meaning.{Worlds}
use Rattle.wjs_by_content.specs.Renamed.{Holds, named_world}
use Rattle.wjs_by_content.proofs.RenamedKnown.{entries_hold, named_content}
use Rattle.wjs_by_content.specs.Names.{content}
use Rattle.wjs_by_content.specs.Tables.{slot_in, value_in, knows_slot}
use Rattle.wjs_by_content.specs.Telling.{names_of}
use Rattle.wjs_by_content.specs.Worlds.{worlds_in, KnowsWorlds}
use Rattle.wjs_props.proofs.Kept.{Within}
use Rattle.wjs_model.specs.Apart.{IsNear, NearValue, NearSlots}
use Rattle.wjs_heap_steps.proofs.NearPlans.{Near, NearSlot}

-- what holds of each entry holds of it under other names
module _ {K J X Y : Type 0} {S : J → J → Ordering} (exact : IsAntisymmetric S) (f : K → J) (g : X → Y) (P : K → X → Type 0) (Q : J → Y → Type 0) (by : (k : K) (v : X) → P k v → Q (f k) (g v)) where
  renamed_holds : (es : List (K × X)) → Holds (λ (e : K × X). P e.0 e.1) es → (q : J) (y : Y) → map.find S q (each (λ e. (f e.0, g e.1)) es) ≡ Some y → Q q y
  renamed_holds [] h q y e = absurd (cc)
  renamed_holds (x ∷ es) h q y e = split (eq_by_cmp S q (f x.0)) refl (map.find S q (each (λ z. (f z.0, g z.1)) es)) (renamed_holds es h.1 q y) e
    where
      here : g x.1 ≡ y → q ≡ f x.0 → Q q y
      here same at = subst (λ j. Q j y) (sym at) (subst (Q (f x.0)) same (by x.0 x.1 h.0))

      split : (b : Bool) → eq_by_cmp S q (f x.0) ≡ b → (rest : Option Y) → (rest ≡ Some y → Q q y) → cond b (Some (g x.1)) rest ≡ Some y → Q q y
      split true at rest more k = let same : g x.1 ≡ y = cc in here same (exact q (f x.0) ((Equal-is (S q (f x.0))).0 at))
      split false at rest more k = more k

pub find_named : (t : Table) (F : Worlds) (i : WorldId) → find_world (worlds_in t F) i ≡ option_map (named_world (names_of t)) (find_world F i)
unfolding find_world
find_named t [] i = refl
find_named t (x ∷ F) i = by (same_world x.id i) (find_named t F i)
  where
    by : (b : Bool) → find_world (worlds_in t F) i ≡ option_map (named_world (names_of t)) (find_world F i) → cond b (Some (named_world (names_of t) x)) (find_world (worlds_in t F) i) ≡ option_map (named_world (names_of t)) (cond b (Some x) (find_world F i))
    by true e = refl
    by false e = e

module _ (apart : List ℕ) (t : Table) where
  pub values_near : (v : NumberedValue) → NearValue apart v → Near (IsNear apart) (value_in t v)
  values_near values.Undefined h = tt
  values_near values.Null h = tt
  values_near (values.Bool b) h = tt
  values_near (values.Number x) h = tt
  values_near (values.Text id) h = tt
  values_near (values.Object o) h = h

  pub near_value : (v : NumberedValue) → Near (IsNear apart) (value_in t v) → NearValue apart v
  near_value values.Undefined h = tt
  near_value values.Null h = tt
  near_value (values.Bool b) h = tt
  near_value (values.Number x) h = tt
  near_value (values.Text id) h = tt
  near_value (values.Object o) h = h

  -- by content
  pub slots_named : (F : Worlds) → NearSlots apart F → Within (NearSlot (IsNear apart)) (worlds_in t F)
  slots_named F h i s v e = by (find_world F i) refl (sym (ap (option_and_then (λ (x : World content). map.get x.copy s)) (find_named t F i)) ∙ e)
    where
      inside : (x : World plain) → find_world F i ≡ Some x → map.find content.cmp s (each (λ z. (slot_in t z.0, value_in t z.1)) (map.entries x.copy)) ≡ Some v → NearSlot (IsNear apart) s v
      inside x at = renamed_holds content.exact (slot_in t) (value_in t) (λ z u. IsNear apart z.object × NearValue apart u) (NearSlot (IsNear apart)) (λ z u k. (k.0, values_near u k.1)) (map.entries x.copy)
          (entries_hold plain.total plain.exact (λ z u. IsNear apart z.object × NearValue apart u) x.copy (λ z u k. h i z u (ap (option_and_then (λ (y : World plain). map.get y.copy z)) at ∙ k))) s v

      by : (r : Option (World plain)) → find_world F i ≡ r → option_and_then (λ (x : World content). map.get x.copy s) (option_map (named_world (names_of t)) r) ≡ Some v → NearSlot (IsNear apart) s v
      by None at k = absurd (cc)
      by (Some x) at k = inside x at (sym (map.get-from_entries content.total (each (λ z. (slot_in t z.0, value_in t z.1)) (map.entries x.copy)) s) ∙ k)

  -- and back, where the table knows the slots
  pub slots_numbered : (F : Worlds) → KnowsWorlds t F → ((i : WorldId) (s : NumberedSlot) (v : NumberedValue) → content_at F i s ≡ Some v → knows_slot t s ≡ true) → Within (NearSlot (IsNear apart)) (worlds_in t F) → NearSlots apart F
  slots_numbered F knows known h i s v e =
      let k = h i (slot_in t s) (value_in t v) (named_content (names_of t) F i s knows (known i s v e) ∙ ap (option_map (value_in t)) e) in
      (k.0, near_value v k.1)

-- Slots of one object are told by their names.
use Rattle.std.proofs.Common.{◌≡◌, Bool, true, false, cond, List, [], ◌∷◌, refl, sym, map, filter}
use Rattle.wjs_base.specs.declared.ids.ObjId.{ObjId}
use Rattle.wjs_base.specs.declared.values.Slot.{Slot}
use Rattle.wjs_base.specs.Same.{object_Decides}
use Rattle.wjs_store.specs.State.{same_object}
use Rattle.wjs_store.specs.Shown.{slots_of}

abbrev pub of_object : ObjId → Slot → Bool
of_object o s = same_object s.object o

pub named : (o : ObjId) (ks : List Slot) → slots_of o (map (λ (s : Slot). s.name) (filter (of_object o) ks)) ≡ filter (of_object o) ks
named o [] = refl
named o (k ∷ ks) =
    elim (of_object o k) as (λ b. of_object o k ≡ b → slots_of o (map (λ (s : Slot). s.name) (cond b (k ∷ filter (of_object o) ks) (filter (of_object o) ks))) ≡ cond b (k ∷ filter (of_object o) ks) (filter (of_object o) ks)) [
      | true ↦ λ e. let p : k.object ≡ o = (object_Decides k.object o).0 e in λ i. record { object = sym p i; name = k.name } ∷ named o ks i
      | false ↦ λ e. named o ks
    ] refl

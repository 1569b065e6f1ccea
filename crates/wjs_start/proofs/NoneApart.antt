-- Where no owner is kept apart everything is near.
use Rattle.std.proofs.Common.{◌≡◌, ℕ, List, [], ◌∷◌, Option, None, Some, refl, sym, subst}
use Rattle.wjs_base.specs.declared.ids.ObjId.{ObjId}
use Rattle.wjs_base.specs.declared.values.Name.{Name}
use Rattle.wjs_base.specs.declared.values.Value.{Value}
use Rattle.wjs_base.specs.declared.values.Value.TheVariants as values
use Rattle.wjs_arena.specs.declared.object.Object.{Object}
use Rattle.wjs_store.specs.Meaning.{Worlds}
use Rattle.wjs_by_content.specs.Renamed.{Holds}
use Rattle.wjs_model.specs.Apart.{IsNear, NearValue, NearIf, NamesNear, NearSlots}

value_near : (v : Value) → NearValue [] v
value_near values.Undefined = tt
value_near values.Null = tt
value_near (values.Bool b) = tt
value_near (values.Number x) = tt
value_near (values.Text id) = tt
value_near (values.Object o) = refl

near_if : (o : Option ObjId) → NearIf [] o
near_if None = tt
near_if (Some o) = refl

fixed_near : (xs : List (Name × Value)) → Holds (λ e. NearValue [] e.1) xs
fixed_near [] = tt
fixed_near (x ∷ xs) = (value_near x.1, fixed_near xs)

module _ (apart : List ℕ) (none : apart ≡ []) where
  pub all_near : (o : ObjId) → IsNear apart o
  all_near o = subst (λ l. IsNear l o) (sym none) refl

  pub objects_near : (x : Object) → NamesNear apart x
  objects_near x = subst (λ l. NamesNear l x) (sym none) (record { prototype = near_if x.prototype; scope = near_if x.scope; primitive = value_near x.primitive; fixed = fixed_near x.fixed })

  pub slots_near : (F : Worlds) → NearSlots apart F
  slots_near F = subst (λ l. NearSlots l F) (sym none) (λ i s v e. (refl, value_near v))

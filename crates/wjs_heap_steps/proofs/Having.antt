-- What a configuration has is in its heap and near, and the other way round.
use Rattle.std.proofs.Common.{◌≡◌, List, [], ◌∷◌, Option, None, Some, not, sym, subst, IsTrue}
use Rattle.std.specs.Prelude.{IfSome}
use Rattle.wjs_base.specs.declared.ids.ObjId.{ObjId}
use Rattle.wjs_base.specs.declared.values.Name.{Name}
use Rattle.wjs_base.specs.declared.values.Value.{Value}
use Rattle.wjs_base.specs.declared.values.Value.TheVariants as values
use Rattle.wjs_base.specs.declared.values.Content.{Content}
use Rattle.wjs_base.specs.declared.values.Content.TheVariants as contents
use Rattle.wjs_base.specs.Spelling.{IsName}
use Rattle.wjs_base.specs.Text.{Table}
use Rattle.wjs_store.specs.Shown.{content_of}
use Rattle.wjs_arena.specs.Entries.{IsThere, has}
use Rattle.wjs_by_content.specs.Renamed.{Holds}
use Rattle.wjs_by_content.specs.Tables.{content_in}
use Rattle.wjs_by_content.specs.Names.{Slot as Said}
use Rattle.wjs_props.specs.declared.visits.Visit.{Visit}
use Rattle.wjs_heap.specs.Heap.{HasValue as HasValueIn, HasContent as HasContentIn}
use Rattle.wjs_props.specs.Visits.{visits_in, HasVisit as HasVisitIn}
use Rattle.wjs_model.specs.declared.config.Config.{Config}
use Rattle.wjs_model.specs.Apart.{is_apart, IsNear, NearValue, NearIf}
use Rattle.wjs_model.specs.Soundness.{HasObject, HasName, HasValue, HasContent}
use Rattle.wjs_heap_steps.specs.Visits.{HasVisit}
use Rattle.wjs_heap_steps.proofs.NearPlans.{NearContent}
use Rattle.wjs_heap_steps.proofs.NearWorlds.{near_value}

module _ {S : Type 0} (c : Config S) where
  -- what is the owner's is near
  pub owner_near : IsTrue (not (is_apart c.apart.items c.owner)) → (o : ObjId) → o.owner ≡ c.owner → IsNear c.apart.items o
  owner_near h o e = subst (λ n. IsTrue (not (is_apart c.apart.items n))) (sym e) h

  pub value_here : (v : Value) → HasValue c v → HasValueIn c.heap.texts c.heap.arena v
  value_here values.Undefined h = tt
  value_here values.Null h = tt
  value_here (values.Bool b) h = tt
  value_here (values.Number x) h = tt
  value_here (values.Text id) h = h
  value_here (values.Object o) h = h.0

  pub value_near : (v : Value) → HasValue c v → NearValue c.apart.items v
  value_near values.Undefined h = tt
  value_near values.Null h = tt
  value_near (values.Bool b) h = tt
  value_near (values.Number x) h = tt
  value_near (values.Text id) h = tt
  value_near (values.Object o) h = h.1

  pub value_both : (v : Value) → HasValueIn c.heap.texts c.heap.arena v → NearValue c.apart.items v → HasValue c v
  value_both values.Undefined h n = tt
  value_both values.Null h n = tt
  value_both (values.Bool b) h n = tt
  value_both (values.Number x) h n = tt
  value_both (values.Text id) h n = h
  value_both (values.Object o) h n = (h, n)

  pub content_both : (t : Table) (x : Content) → HasContentIn c.heap.texts c.heap.arena (content_of x) → NearContent (IsNear c.apart.items) (content_in t x) → HasContent c x
  content_both t contents.Absent h n = tt
  content_both t (contents.Present v) h n = value_both v h (near_value c.apart.items t v n)

  pub fixed_here : (xs : List (Name × Value)) → Holds (λ e. HasName c e.0 × HasValue c e.1) xs → Holds (λ e. IsName c.heap.texts e.0 × HasValueIn c.heap.texts c.heap.arena e.1) xs
  fixed_here [] h = tt
  fixed_here (x ∷ xs) h = ((h.0.0, value_here x.1 h.0.1), fixed_here xs h.1)

  pub fixed_near : (xs : List (Name × Value)) → Holds (λ e. HasName c e.0 × HasValue c e.1) xs → Holds (λ e. NearValue c.apart.items e.1) xs
  fixed_near [] h = tt
  fixed_near (x ∷ xs) h = (value_near x.1 h.0.1, fixed_near xs h.1)

  pub object_both : (r : Option ObjId) → IfSome r (λ o. IsTrue (has c.heap.arena o)) → NearIf c.apart.items r → IfSome r (λ o. HasObject c o)
  object_both None h n = tt
  object_both (Some o) h n = (h, n)

  pub object_here : (r : Option ObjId) → IfSome r (λ o. HasObject c o) → IsThere c.heap.arena r
  object_here None h = tt
  object_here (Some o) h = h.0

  pub object_near : (r : Option ObjId) → IfSome r (λ o. HasObject c o) → NearIf c.apart.items r
  object_near None h = tt
  object_near (Some o) h = h.1

  pub visits_both : (t : Table) (vs : List Visit) → Holds (HasVisitIn c.heap.texts c.heap.arena) vs → Holds (λ (s : Said). IsNear c.apart.items s.object) (visits_in t vs) → Holds (HasVisit c) vs
  visits_both t [] h n = tt
  visits_both t (v ∷ vs) h n = (((h.0.object, n.0), h.0.name), visits_both t vs h.1 n.1)

-- Whose the world is that an object stands for.
use Rattle.std.proofs.Common.{◌≡◌, Option, None, Some, refl, sym, ap, ◌∙◌, IsTrue, IfSome}
use Rattle.std.specs.Prelude.{is_some}
use Rattle.std.specs.FinMap as map
use Rattle.wjs_base.specs.declared.ids.ObjId.{ObjId}
use Rattle.wjs_base.specs.declared.ids.WorldId.{WorldId}
use Rattle.wjs_arena.specs.declared.object.Object.{Object}
use Rattle.wjs_arena.specs.Entries.{Entry}
use Rattle.wjs_store.specs.Meaning.{Meaning}
use Rattle.wjs_model.specs.declared.config.Config.{Config}
use Rattle.wjs_model.specs.Soundness.{Base, HasObject}

module _ {S : Type 0} (meaning : S → Meaning) (c : Config S) (o : ObjId) (x : Object) (base : Base meaning c) where
  by_world : (e : Entry) → map.get c.heap.arena o ≡ Some e → x ≡ e.object → (w : Option WorldId) → x.world ≡ w → IfSome w (λ world. world.owner ≡ o.owner)
  by_world e q same None at = tt
  by_world e q same (Some w) at = base.worlds_by o e w q (ap (λ (y : Object). y.world) (sym same) ∙ at)

  by_entry : (r : Option Entry) → map.get c.heap.arena o ≡ r → IsTrue (is_some r) → IfSome r (λ e. x ≡ e.object) → IfSome x.world (λ world. world.owner ≡ o.owner)
  by_entry None q there is = absurd (cc)
  by_entry (Some e) q there is = by_world e q is x.world refl

  pub world_by : HasObject c o → IfSome (map.get c.heap.arena o) (λ e. x ≡ e.object) → IfSome x.world (λ world. world.owner ≡ o.owner)
  world_by there is = by_entry (map.get c.heap.arena o) refl there.0 is

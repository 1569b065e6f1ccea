-- What the entries of the arena say of its objects.
use Rattle.std.proofs.Common.{◌≡◌, Option, None, Some, IsTrue, refl, sym, ap, ◌∙◌}
use Rattle.std.specs.Prelude.{IfSome, is_some}
use Rattle.std.specs.Option.{option_and_then}
use Rattle.std.specs.FinMap as map
use Rattle.wjs_base.specs.declared.ids.ObjId.{ObjId}
use Rattle.wjs_base.specs.declared.ids.WorldId.{WorldId}
use Rattle.wjs_arena.specs.declared.object.Object.{Object}
use Rattle.wjs_arena.specs.Entries.{Entry, Objects, has, world_of}
use Rattle.wjs_model.specs.Standing.{IsShown}

pub entry_is : (r : Option Entry) (x : Object) (e : Entry) → IfSome r (λ (y : Entry). x ≡ y.object) → r ≡ Some e → e.object ≡ x
entry_is None x e h q = absurd (cc)
entry_is (Some y) x e h q = let same : y ≡ e = cc in sym (h ∙ ap (λ (z : Entry). z.object) same)

-- the world for which an object stands is shown
pub shown_by : (m : Objects) (o : ObjId) (x : Object) → IsTrue (has m o) → IfSome (map.get m o) (λ (y : Entry). x ≡ y.object) → IfSome x.world (IsShown m)
shown_by m o x there h = by x.world (of_entry (map.get m o) refl there h)
  where
    of_entry : (r : Option Entry) → map.get m o ≡ r → IsTrue (is_some r) → IfSome r (λ (y : Entry). x ≡ y.object) → world_of m o ≡ x.world
    of_entry None q t k = absurd (cc)
    of_entry (Some y) q t k = ap (option_and_then (λ (z : Entry). z.object.world)) q ∙ sym (ap (λ (z : Object). z.world) k)

    by : (w : Option WorldId) → world_of m o ≡ w → IfSome w (IsShown m)
    by None q = tt
    by (Some w) q = (o, q)

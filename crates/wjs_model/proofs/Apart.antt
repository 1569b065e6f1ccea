-- No object of an owner that is kept apart has a world of the store.
use Rattle.std.proofs.Common.{◌≡◌, Bool, true, false, not, Some, sym, ◌∙◌, subst, IsTrue}
use Rattle.std.specs.FinMap as map
use Rattle.wjs_base.specs.declared.ids.ObjId.{ObjId}
use Rattle.wjs_base.specs.declared.ids.WorldId.{WorldId}
use Rattle.wjs_store.specs.Meaning.{Meaning}
use Rattle.wjs_arena.specs.Entries.{Entry}
use Rattle.wjs_model.specs.declared.config.Config.{Config}
use Rattle.wjs_model.specs.Apart.{is_apart}
use Rattle.wjs_model.specs.Soundness.{HasWorld, Base}

pub not_both : (b : Bool) → IsTrue b → IsTrue (not b) → ⊥
not_both true h k = absurd (cc)
not_both false h k = absurd (cc)

module _ {S : Type 0} (meaning : S → Meaning) where
  -- the object's owner would be the configuration's
  pub no_worlds : (c : Config S) → Base meaning c → (o : ObjId) (e : Entry) (w : WorldId) → map.get c.heap.arena o ≡ Some e → IsTrue (is_apart c.apart.items o.owner) → e.object.world ≡ Some w → ¬ HasWorld meaning c w
  no_worlds c b o e w q a k h = not_both (is_apart c.apart.items c.owner) (subst (λ n. IsTrue (is_apart c.apart.items n)) (sym (b.worlds_by o e w q k) ∙ b.worlds_own w h) a) b.own

-- Owners whose objects are kept apart from a run, and what names none of them.
use Rattle.std.specs.Prelude.{◌≡◌, ℕ, ◌==◌, Bool, not, List, Option, None, Some, IsTrue}
use Rattle.std.specs.List.{list_any}
use Rattle.wjs_base.specs.declared.ids.ObjId.{ObjId}
use Rattle.wjs_base.specs.declared.ids.WorldId.{WorldId}
use Rattle.wjs_base.specs.declared.values.Slot.{Slot}
use Rattle.wjs_base.specs.declared.values.Value.{Value}
use Rattle.wjs_base.specs.declared.values.Value.TheVariants as values
use Rattle.wjs_store.specs.State.{content_at}
use Rattle.wjs_store.specs.Meaning.{Worlds}
use Rattle.wjs_arena.specs.declared.object.Object.{Object}
use Rattle.wjs_by_content.specs.Renamed.{Holds}

module _ (apart : List ℕ) where
  abbrev pub is_apart : ℕ → Bool
  is_apart owner = list_any (λ u. u == owner) apart

  -- the object's owner is not kept apart
  abbrev pub IsNear : ObjId → Type 0
  IsNear o = IsTrue (not (is_apart o.owner))

  -- that of the object that a value is, if it is one
  abbrev pub NearValue : Value → Type 0
  NearValue (values.Object o) = IsNear o
  NearValue v = Unit {0}

  abbrev pub NearIf : Option ObjId → Type 0
  NearIf None = Unit {0}
  NearIf (Some o) = IsNear o

  -- what an object names
  pub record NamesNear (x : Object) : Type 0 where
    pub prototype : NearIf x.prototype
    pub scope : NearIf x.scope
    pub primitive : NearValue x.primitive
    pub fixed : Holds (λ e. NearValue e.1) x.fixed

  -- what present slots and their contents name
  abbrev pub NearSlots : Worlds → Type 0
  NearSlots F = (i : WorldId) (s : Slot) (v : Value) → content_at F i s ≡ Some v → IsNear s.object × NearValue v

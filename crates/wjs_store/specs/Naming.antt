-- How slots are named and values compared. The definitions of the worlds are over any naming, so that a text may stand by its number or by its units.
use Rattle.std.specs.Prelude.{◌≡◌, Bool}
use Rattle.std.specs.Bool.{Decides}
use Rattle.std.specs.Cmp.{IsTotalOrder}
use Rattle.std.specs.declared.cmp.Ordering.{Ordering}
use Rattle.std.specs.FinMap.{IsAntisymmetric}
use Rattle.wjs_base.specs.declared.ids.ObjId.{ObjId}
use Rattle.wjs_base.specs.declared.values.Slot.{Slot}
use Rattle.wjs_base.specs.declared.values.Value.{Value}
use Rattle.wjs_base.specs.Order.{slot_cmp, slot_total, slot_exact}
use Rattle.wjs_base.specs.Same.{same_value, value_Decides}

pub record Naming (K V : Type 0) : Type 0 where
  -- the order of slots
  pub cmp : K → K → Ordering
  -- the object of a slot
  pub object : K → ObjId
  -- whether two values are one
  pub same : V → V → Bool
  pub total : IsTotalOrder cmp
  pub exact : IsAntisymmetric cmp
  pub decides : (x y : V) → Decides (same x y) (x ≡ y)

-- slots and values as the program has them
abbrev pub plain : Naming Slot Value
plain = record { cmp = slot_cmp; object = λ s. s.object; same = same_value; total = slot_total; exact = slot_exact; decides = value_Decides }

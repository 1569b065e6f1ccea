use Rattle.std.proofs.Common.{◌≡◌, take, map}
use Rattle.wjs_base.specs.declared.values.Slot.{Slot}
use Rattle.wjs_full.proofs.rows.names_of.Given as goal

abbrev pub invariant-loop-slot : goal.invariant-loop-slot
invariant-loop-slot l = l.names ≡ map (λ (s : Slot). s.name) (take l.slot-index l.slots)

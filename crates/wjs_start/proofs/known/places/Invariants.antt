use Rattle.std.proofs.Common.{take, map}
use Rattle.wjs_base.specs.Text.{Table, Grows, IsTable}
use Rattle.wjs_start.specs.Known.{ArePlaces}
use Rattle.wjs_start.specs.Properties.{property_in}
use Rattle.wjs_start.proofs.known.places.Given as goal

abbrev pub invariant-loop-property : goal.invariant-loop-property
invariant-loop-property l = record {
  grows : Grows l.initial.texts l.texts;
  table : IsTable l.texts;
  are : (t : Table) → Grows l.texts t → ArePlaces t l.places.items (map property_in (take l.property-index l.list));
}

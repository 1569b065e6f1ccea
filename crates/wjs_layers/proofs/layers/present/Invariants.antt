use Rattle.std.proofs.Common.{◌≡◌, IfSome}
use Rattle.wjs_base.specs.declared.values.Slot.{Slot}
use Rattle.wjs_layers.specs.Sparse.{full_of}
use Rattle.wjs_layers.specs.Cursor.{comes_on}
use Rattle.wjs_layers.specs.Work.{kept_from}
use Rattle.wjs_layers.proofs.Scans.{Found}
use Rattle.wjs_layers.proofs.layers.present.Given as goal

abbrev pub invariant-slots : goal.invariant-slots
invariant-slots g l = record {
  on : IfSome l.passed (λ (s : Slot). s.object ≡ l.object);
  found : Found l.found (full_of l.layers) l.world.world l.object l.passed;
}

abbrev pub decreases-slots : goal.decreases-slots
decreases-slots g l = kept_from (comes_on l.object l.passed) (full_of l.layers) l.world.world

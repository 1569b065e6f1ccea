use Rattle.std.proofs.Common.{◌≡◌, drop, true, is_some}
use Rattle.wjs_store.specs.State.{hand_objects}
use Rattle.wjs_full.specs.Rows.{world_in}
use Rattle.wjs_full.proofs.rows.Row.hand_closed.Given as goal

abbrev pub invariant-loop-object : goal.invariant-loop-object
invariant-loop-object l = record {
  has_parent : is_some l.self.parent ≡ true;
  rest : hand_objects (drop l.object-index l.objects) (world_in l.self) ≡ hand_objects l.objects (world_in l.fn.self);
}

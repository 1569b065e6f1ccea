use Rattle.std.proofs.Common.{◌≡◌, ◌≤◌, length}
use Rattle.wjs_model.specs.Contents.{visits_held}
use Rattle.wjs_model.specs.Soundness.{HasItems}
use Rattle.wjs_loops.proofs.visits.next_visit.Given as goal

-- no visit was taken off
abbrev pub invariant-loop-item : goal.invariant-loop-item
invariant-loop-item g l = record {
  same : l.frame ≡ record l.fn.frame { held = l.frame.held };
  rest : visits_held l.frame.held ≡ visits_held l.fn.frame.held;
  items : HasItems l.config l.frame.held;
  shorter : length l.frame.held ≤ length l.fn.frame.held;
}

abbrev pub decreases-loop-item : goal.decreases-loop-item
decreases-loop-item g l = length l.frame.held

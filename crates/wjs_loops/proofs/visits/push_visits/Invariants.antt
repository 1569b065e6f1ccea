use Rattle.std.proofs.Common.{◌≡◌, ◌++◌, length}
use Rattle.wjs_step_common.specs.Lists.{visits_as_items}
use Rattle.wjs_loops.proofs.visits.push_visits.Given as goal

-- what is still to hold and what is held are all
abbrev pub invariant-loop-visit : goal.invariant-loop-visit
invariant-loop-visit l = record {
  same : l.frame ≡ record l.fn.frame { held = l.frame.held };
  all : visits_as_items l.visits ++ l.frame.held ≡ visits_as_items l.fn.visits ++ l.fn.frame.held;
}

abbrev pub decreases-loop-visit : goal.decreases-loop-visit
decreases-loop-visit l = length l.visits

use Rattle.std.proofs.Common.{◌≡◌}
use Rattle.wjs_machine.proofs.Stepping.{turns_to_step}
use Rattle.wjs_turns.proofs.Going.{Under}
use Rattle.wjs_turns.proofs.walks.walk_to_step.Given as goal

-- the turns so far, and that no step was taken while the run goes on with as many steps
abbrev pub invariant-loop-config : goal.invariant-loop-config
invariant-loop-config g l = Under g.S.WorldStore.meaning l.fn.config l.config × (l.left ≡ l.fn.config.left)

abbrev pub decreases-loop-config : goal.decreases-loop-config
decreases-loop-config g l = turns_to_step g.S.WorldStore.meaning l.fn.config l.config

use Rattle.std.proofs.Common.{◌≡◌}
use Rattle.wjs_machine.specs.Runs.{weight}
use Rattle.wjs_turns.specs.Going.{Went}
use Rattle.wjs_turns.proofs.walks.walk_out.Given as goal

abbrev pub invariant-loop-config : goal.invariant-loop-config
invariant-loop-config g l = Went g.S.WorldStore.meaning l.fn.config l.config × (l.left ≡ l.fn.config.left)

abbrev pub decreases-loop-config : goal.decreases-loop-config
decreases-loop-config g l = weight l.config

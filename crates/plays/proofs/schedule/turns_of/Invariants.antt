use Rattle.std.specs.Prelude.{◌≤◌, All}
use Rattle.wjs_activity.specs.declared.ends.PlayTurn.{PlayTurn}
use Rattle.plays.proofs.schedule.turns_of.Given as goal

-- each turn so far has a step
abbrev pub invariant-loop-word : goal.invariant-loop-word
invariant-loop-word l = All (λ (t : PlayTurn). 1 ≤ t.steps) l.turns.items

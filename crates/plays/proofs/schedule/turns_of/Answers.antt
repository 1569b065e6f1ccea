use Rattle.std.proofs.Common.{◌≤◌, []}
use Rattle.std.proofs.lemmas.List.Elements.{All-nil, All-push, All-same}
use Rattle.wjs_activity.specs.declared.ends.PlayTurn.{PlayTurn}
use Rattle.plays.proofs.schedule.turns_of.Goals as goal

pub loop-word-init : goal.loop-word-init
loop-word-init c = All-same (λ (t : PlayTurn). 1 ≤ t.steps) c.new-turns.result.items [] c.new-turns.ensures.items (All-nil (λ (t : PlayTurn). 1 ≤ t.steps))

pub loop-word-preserved : goal.loop-word-preserved
loop-word-preserved c =
    All-same (λ (t : PlayTurn). 1 ≤ t.steps) c.push.new.self.items _ c.in_ok-push.ensures.items
    (All-push (λ (t : PlayTurn). 1 ≤ t.steps) c.loop-word.turns.items c.in-Some-turn_of.turn c.loop-word.invariant c.in-Some-turn_of.ensures)

use Rattle.std.proofs.Common.{arith}
use Rattle.wjs_activity.proofs.Rounded.{all_by_place, goes_on_at, next_over}
use Rattle.wjs_activity.proofs.rounds.go_on.Goals as goal

pub returns-then-not-activity-clause-yes : goal.returns-then-not-activity-clause-yes
returns-then-not-activity-clause-yes c = λ said. goes_on_at c.args.activities.now c.loop-activity.activity-index c.activity-item.result c.activity-item.is
    (omega arith) c.if-not-activity.true

pub loop-activity-preserved : goal.loop-activity-preserved
loop-activity-preserved c = next_over c.args.activities.now c.loop-activity.activity-index c.activity-item.result c.activity-item.is c.if-not-activity.false
    c.loop-activity.invariant

pub returns-clause-no : goal.returns-clause-no
returns-clause-no c = λ said. all_by_place c.args.activities.now c.loop-activity.activity-index (omega arith) c.loop-activity.invariant

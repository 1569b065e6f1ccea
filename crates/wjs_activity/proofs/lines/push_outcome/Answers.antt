use Rattle.std.proofs.Common.{subst}
use Rattle.std.proofs.lemmas.Result.{on_ok_weaker}
use Rattle.wjs_tries.specs.declared.outcome.Outcome.{Outcome as Told}
use Rattle.wjs_tries.specs.Turning.{Tells}
use Rattle.wjs_activity.proofs.Telling.{told_committed, told_threw, told_spent}
use Rattle.wjs_activity.proofs.lines.push_outcome.Goals as goal

pub returns-in-Committed : goal.returns-in-Committed
returns-in-Committed c = on_ok_weaker c.push.result (λ e o tells. told_committed o c.args.text.now.items c.push.new.text.items
    (subst (λ (x : Told). Tells x o) c.in-Committed.is tells) e) c.push.ensures

pub returns-in-Threw : goal.returns-in-Threw
returns-in-Threw c = on_ok_weaker c.push_thrown.result (λ e o tells. told_threw o c.in-Threw.shown c.args.text.now.items c.push_thrown.new.text.items
    (subst (λ (x : Told). Tells x o) c.in-Threw.is tells) e) c.push_thrown.ensures

pub returns-in-Spent : goal.returns-in-Spent
returns-in-Spent c = on_ok_weaker c.push-in-Spent.result (λ e o tells. told_spent o c.args.text.now.items c.push-in-Spent.new.text.items
    (subst (λ (x : Told). Tells x o) c.in-Spent.is tells) e) c.push-in-Spent.ensures

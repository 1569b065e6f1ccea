use Rattle.std.proofs.Common.{◌≡◌, ◌++◌, ◌∷◌, [], List, take, ◌+◌, sym, subst}
use Rattle.wjs_store.specs.declared.action.Answer.{Answer}
use Rattle.wjs_store.specs.Run.{Runs}
use Rattle.wjs_store.proofs.RunLaws.{run_more}
use Rattle.wjs_full.proofs.run.run_actions.Goals as goal

pub loop-action-preserved : goal.loop-action-preserved
loop-action-preserved g c =
    let m = g.S.WorldStore.meaning in
    let rs = c.loop-action.answers.items in
    let pushed : c.push.new.self.items ≡ rs ++ c.in_ok-answer.answer ∷ [] = c.in_ok-push.ensures.items in
    subst (λ (q : List Answer). Runs (m c.args.store.now) (take (c.loop-action.action-index + 1) c.args.actions.now) q (m c.act.new.store)) (sym pushed) (run_more (m c.args.store.now) (m c.loop-action.store) (m c.act.new.store) c.args.actions.now rs c.loop-action.action-index c.action-item.result c.action-item.result c.in_ok-answer.answer c.loop-action-test.true c.action-item.is c.loop-action.invariant c.in_ok-answer.ensures)

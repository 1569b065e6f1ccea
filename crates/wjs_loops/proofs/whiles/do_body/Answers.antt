use Rattle.wjs_meaning.specs.Deeds.{AtExpr, Eval, then_value}
use Rattle.wjs_meaning.specs.Loops.{do_test}
use Rattle.wjs_loops.proofs.Rounding.{body_follows}
use Rattle.wjs_loops.specs.declared.bodies.AfterBody.TheVariants.{Again, Ends}
use Rattle.wjs_loops.proofs.whiles.do_body.Goals as goal

-- the test
pub returns-in-Again : goal.returns-in-Again
returns-in-Again g c =
    let m = g.S.WorldStore.meaning in
    let f = c.args.frame in
    body_follows m c.args.config.now c.do_asked.new.config f c.node.result (λ t env. Eval (AtExpr c.args.e.0) env (then_value (do_test f.node.0 env))) c.args.completion Again c.do_asked.result c.node.ensures c.in-Again.ensures.means c.do_asked.ensures

-- it ends
pub returns-in-Ends : goal.returns-in-Ends
returns-in-Ends g c =
    let m = g.S.WorldStore.meaning in
    let f = c.args.frame in
    body_follows m c.args.config.now c.finish.new.config f c.node.result (λ t env. Eval (AtExpr c.args.e.0) env (then_value (do_test f.node.0 env))) c.args.completion (Ends c.in-Ends.completion) c.finish.result c.node.ensures c.in-Ends.ensures.means c.finish.ensures

use Rattle.wjs_meaning.specs.Loops.{loop_again}
use Rattle.wjs_loops.proofs.Rounding.{body_follows}
use Rattle.wjs_loops.specs.declared.bodies.AfterBody.TheVariants.{Again, Ends}
use Rattle.wjs_loops.proofs.whiles.while_body.Goals as goal

-- the next iteration
pub returns-in-Again : goal.returns-in-Again
returns-in-Again g c =
    let m = g.S.WorldStore.meaning in
    let f = c.args.frame in
    body_follows m c.args.config.now c.go_round.new.config f c.node.result (λ t env. loop_again f.node.0 env) c.args.completion Again c.go_round.result c.node.ensures c.in-Again.ensures.means c.go_round.ensures

-- it ends
pub returns-in-Ends : goal.returns-in-Ends
returns-in-Ends g c =
    let m = g.S.WorldStore.meaning in
    let f = c.args.frame in
    body_follows m c.args.config.now c.finish.new.config f c.node.result (λ t env. loop_again f.node.0 env) c.args.completion (Ends c.in-Ends.completion) c.finish.result c.node.ensures c.in-Ends.ensures.means c.finish.ensures

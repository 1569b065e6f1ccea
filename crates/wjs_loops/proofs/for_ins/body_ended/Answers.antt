use Rattle.wjs_meaning.specs.Loops.{visits_from}
use Rattle.wjs_model.specs.Contents.{holding_in}
use Rattle.wjs_loops.specs.ForIns.{taker_in}
use Rattle.wjs_loops.proofs.Rounding.{body_follows}
use Rattle.wjs_loops.specs.declared.bodies.AfterBody.TheVariants.{Again, Ends}
use Rattle.wjs_loops.proofs.for_ins.body_ended.Goals as goal

-- the next visit
pub returns-in-Again : goal.returns-in-Again
returns-in-Again g c =
    let m = g.S.WorldStore.meaning in
    let f = c.args.frame in
    body_follows m c.args.config.now c.visit_next.new.config f c.node.result (λ t env. visits_from f.node.0 (taker_in t c.args.taker) c.args.s.0 (holding_in t f.held).visits env) c.args.completion Again c.visit_next.result c.node.ensures c.in-Again.ensures.means c.visit_next.ensures

-- it ends
pub returns-in-Ends : goal.returns-in-Ends
returns-in-Ends g c =
    let m = g.S.WorldStore.meaning in
    let f = c.args.frame in
    body_follows m c.args.config.now c.finish.new.config f c.node.result (λ t env. visits_from f.node.0 (taker_in t c.args.taker) c.args.s.0 (holding_in t f.held).visits env) c.args.completion (Ends c.in-Ends.ended) c.finish.result c.node.ensures c.in-Ends.ensures.means c.finish.ensures

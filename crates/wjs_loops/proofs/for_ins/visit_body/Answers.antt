use Rattle.std.proofs.Common.{sym, ◌∙◌}
use Rattle.wjs_meaning.specs.Loops.{after_body, visits_from}
use Rattle.wjs_model.specs.Contents.{completion_in, holding_in}
use Rattle.wjs_frames.specs.Parts.{env_in, node_now}
use Rattle.wjs_step_common.proofs.Following.{follows_as}
use Rattle.wjs_loops.proofs.ForInNames.{taken_by, taken_by_none}
use Rattle.wjs_loops.proofs.for_ins.visit_body.Goals as goal

pub returns-in-Some : goal.returns-in-Some
returns-in-Some g c =
    let meaning = g.S.WorldStore.meaning in
    let f = c.args.frame in
    let t = c.body_ended.new.config.heap.texts in
    let env = env_in meaning c.args.config.now t f in
    let left = (holding_in t f.held).visits in
    follows_as meaning _ _ _ _ c.body_ended.result (λ grows.
    sym (taken_by t (node_now meaning c.args.config.now f) c.in-Some.taker
    (λ k. after_body f.node.0 env (visits_from f.node.0 k c.args.s.0 left env) (completion_in t c.args.completion))
    (sym c.taker_of.ensures ∙ c.in-Some.is))) c.body_ended.ensures

pub returns-in-None : goal.returns-in-None
returns-in-None g c =
    let meaning = g.S.WorldStore.meaning in
    let f = c.args.frame in
    let t = c.finish.new.config.heap.texts in
    let env = env_in meaning c.args.config.now t f in
    let left = (holding_in t f.held).visits in
    follows_as meaning _ _ _ _ c.finish.result (λ grows.
    sym (taken_by_none t (node_now meaning c.args.config.now f)
    (λ k. after_body f.node.0 env (visits_from f.node.0 k c.args.s.0 left env) (completion_in t c.args.completion))
    (sym c.taker_of.ensures ∙ c.in-None.is))) c.finish.ensures

use Rattle.std.proofs.Common.{sym, ap, ◌∙◌}
use Rattle.wjs_by_content.specs.Tables.{value_in}
use Rattle.wjs_meaning.specs.Deeds.{then_value}
use Rattle.wjs_meaning.specs.Loops.{for_in_value}
use Rattle.wjs_meaning.specs.Reading.{node_in}
use Rattle.wjs_model.specs.declared.frame.Completion.{Completion}
use Rattle.wjs_model.specs.Contents.{completion_in}
use Rattle.wjs_model.specs.Lists.{if_visits}
use Rattle.wjs_frames.specs.Parts.{env_in, node_now}
use Rattle.wjs_step_common.proofs.Following.{follows_as}
use Rattle.wjs_loops.proofs.ForInNames.{taken_by, taken_by_none}
use Rattle.wjs_loops.proofs.for_ins.visits_object.Goals as goal

pub returns-in-Some : goal.returns-in-Some
returns-in-Some g c =
    let meaning = g.S.WorldStore.meaning in
    let f = c.args.frame in
    let t = c.over_value.new.config.heap.texts in
    let env = env_in meaning c.args.config.now t f in
    let node = node_now meaning c.args.config.now f in
    follows_as meaning _ _ _ _ c.over_value.result (λ grows.
    sym (taken_by t node c.in-Some.taker (λ k. for_in_value f.node.0 k c.args.s.0 env (value_in t c.in-Gives.value)) (sym c.taker_of.ensures ∙ c.in-Some.is))
    ∙ sym (ap (λ (e : Completion). then_value (λ v. if_visits (node_in t node) (λ k. for_in_value f.node.0 k c.args.s.0 env v)) (completion_in t e))
    c.in-Gives.is)) c.over_value.ensures

pub returns-in-None : goal.returns-in-None
returns-in-None g c =
    let meaning = g.S.WorldStore.meaning in
    let f = c.args.frame in
    let t = c.finish.new.config.heap.texts in
    let env = env_in meaning c.args.config.now t f in
    let node = node_now meaning c.args.config.now f in
    follows_as meaning _ _ _ _ c.finish.result (λ grows.
    sym (taken_by_none t node (λ k. for_in_value f.node.0 k c.args.s.0 env (value_in t c.in-Gives.value)) (sym c.taker_of.ensures ∙ c.in-None.is))
    ∙ sym (ap (λ (e : Completion). then_value (λ v. if_visits (node_in t node) (λ k. for_in_value f.node.0 k c.args.s.0 env v)) (completion_in t e))
    c.in-Gives.is)) c.finish.ensures

use Rattle.wjs_meaning.specs.Statements.{label_done}
use Rattle.wjs_model.specs.Contents.{completion_in}
use Rattle.wjs_frames.specs.Parts.{node_now}
use Rattle.wjs_step_common.proofs.Following.{follows_as}
use Rattle.wjs_loops.proofs.Labelled.{labelled, unlabelled}
use Rattle.wjs_loops.proofs.jumps.label_body.Goals as goal

pub returns-in-Some : goal.returns-in-Some
returns-in-Some g c =
    let meaning = g.S.WorldStore.meaning in
    let t = c.label_done.new.config.heap.texts in
    follows_as meaning _ _ _ _ c.label_done.result (λ grows.
    labelled t (node_now meaning c.args.config.now c.args.frame) c.in-Some.name (λ name. label_done name (completion_in t c.args.completion))
    c.in-Some.ensures.is) c.label_done.ensures

pub returns-in-None : goal.returns-in-None
returns-in-None g c =
    let meaning = g.S.WorldStore.meaning in
    let t = c.finish.new.config.heap.texts in
    follows_as meaning _ _ _ _ c.finish.result (λ grows.
    unlabelled t (node_now meaning c.args.config.now c.args.frame) (λ name. label_done name (completion_in t c.args.completion)) c.in-None.ensures.is)
    c.finish.ensures

use Rattle.std.proofs.Common.{ap, ◌∙◌, sym, subst}
use Rattle.wjs_meaning.specs.Deeds.{Ret}
use Rattle.wjs_meaning.specs.Reading.{node_in}
use Rattle.wjs_model.specs.declared.frame.Completion.{Completion}
use Rattle.wjs_model.specs.Contents.{completion_in}
use Rattle.wjs_model.specs.Soundness.{HasCompletion}
use Rattle.wjs_frames.specs.Parts.{env_in, node_now}
use Rattle.wjs_step_common.proofs.Following.{follows_as}
use Rattle.wjs_effects.specs.Sequences.{elements_in}
use Rattle.wjs_effects.proofs.Running.{element_goes, elements_end}
use Rattle.wjs_effects.proofs.StandingElements.{element_stands, end_there}
use Rattle.wjs_direct.proofs.sequences.run_next.Goals as goal

pub run_element-requires-clause-element : goal.run_element-requires-clause-element
run_element-requires-clause-element g c =
    element_stands g.S.WorldStore.meaning c.args.config.now c.args.frame c.args.kind c.args.at c.in-Some.element c.requires.runs.running.base c.requires.runs.there c.requires.stands c.in-Some.ensures

pub returns-in_ok-next-in-Some : goal.returns-in_ok-next-in-Some
returns-in_ok-next-in-Some g c =
    let m = g.S.WorldStore.meaning in
    let old = c.args.config.now in
    let f = c.args.frame in
    let k = c.args.kind in
    let t = c.run_element.new.config.heap.texts in
    follows_as m _ _ _ _ c.run_element.result (λ grows.
    element_goes k (elements_in k (node_in t (node_now m old f))) (env_in m old t f) c.args.at c.in_ok-next-in-Some.next c.in-Some.element.0 c.in_ok-next-in-Some.ensures (c.in-Some.ensures t))
    c.run_element.ensures

pub finish-requires-clause-completion : goal.finish-requires-clause-completion
finish-requires-clause-completion g c = subst (λ (e : Completion). HasCompletion c.args.config.now e) (sym c.end_of.ensures) (end_there c.args.config.now c.args.kind)

pub returns-in-None : goal.returns-in-None
returns-in-None g c =
    let m = g.S.WorldStore.meaning in
    let old = c.args.config.now in
    let f = c.args.frame in
    let k = c.args.kind in
    let t = c.finish.new.config.heap.texts in
    follows_as m _ _ _ _ c.finish.result (λ grows.
    ap (λ (e : Completion). Ret (completion_in t e)) c.end_of.ensures ∙ elements_end k t (elements_in k (node_in t (node_now m old f))) (env_in m old t f) c.args.at (c.in-None.ensures t))
    c.finish.ensures

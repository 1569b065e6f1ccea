use Rattle.std.proofs.Common.{sym, drop, subst}
use Rattle.std.specs.Prelude.{OnOk}
use Rattle.wjs_meaning.specs.Functions.{body_from, body_next}
use Rattle.wjs_meaning.specs.Reading.{node_in}
use Rattle.wjs_meaning.specs.Trees.{elements_of}
use Rattle.wjs_model.specs.declared.frame.Completion.{Completion}
use Rattle.wjs_model.specs.Contents.{completion_in}
use Rattle.wjs_model.specs.Soundness.{HasCompletion}
use Rattle.wjs_frames.specs.Following.{Follows}
use Rattle.wjs_frames.specs.Parts.{env_in, node_now}
use Rattle.wjs_frames.proofs.Shorter.{follows_shorter}
use Rattle.wjs_effects.proofs.Only.{dropped_there, dropped_shortens}
use Rattle.wjs_direct.proofs.entries.after_body_value.Goals as goal

pub after_body_element-requires-clause-completion : goal.after_body_element-requires-clause-completion
after_body_element-requires-clause-completion g c =
    let old = c.args.config.now in
    subst (λ (e : Completion). HasCompletion old e) (sym c.dropped.ensures) (dropped_there old c.args.completion c.requires.completion)

pub returns : goal.returns
returns g c =
    let m = g.S.WorldStore.meaning in
    let old = c.args.config.now in
    let new = c.after_body_element.new.config in
    let r = c.after_body_element.result in
    let t = new.heap.texts in
    let f = c.args.frame in
    let node = node_in t (node_now m old f) in
    let env = env_in m old t f in
    let go = body_next (body_from (drop c.args.next (elements_of node)) env) in
    follows_shorter m _ _ old new r (dropped_shortens t c.args.completion go)
    (subst (λ (e : Completion). OnOk r (Follows m (go (completion_in t e)) old new)) c.dropped.ensures c.after_body_element.ensures)

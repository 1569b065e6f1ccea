use Rattle.std.proofs.Common.{sym, drop, subst}
use Rattle.std.specs.Prelude.{OnOk}
use Rattle.wjs_meaning.specs.Deeds.{then_normal}
use Rattle.wjs_meaning.specs.Functions.{program_from}
use Rattle.wjs_meaning.specs.Reading.{node_in}
use Rattle.wjs_model.specs.Lists.{program_elements}
use Rattle.wjs_model.specs.declared.frame.Completion.{Completion}
use Rattle.wjs_model.specs.Contents.{completion_in}
use Rattle.wjs_model.specs.Soundness.{HasCompletion}
use Rattle.wjs_frames.specs.Following.{Follows}
use Rattle.wjs_frames.specs.Parts.{env_in, node_now}
use Rattle.wjs_frames.proofs.Shorter.{follows_shorter}
use Rattle.wjs_effects.proofs.Only.{dropped_there, dropped_shortens}
use Rattle.wjs_eval_call.proofs.programs.after_program_value.Goals as goal

pub after_program_element-requires-clause-completion : goal.after_program_element-requires-clause-completion
after_program_element-requires-clause-completion g c =
    let old = c.args.config.now in
    subst (λ (e : Completion). HasCompletion old e) (sym c.dropped.ensures) (dropped_there old c.args.completion c.requires.completion)

pub returns : goal.returns
returns g c =
    let m = g.S.WorldStore.meaning in
    let old = c.args.config.now in
    let new = c.after_program_element.new.config in
    let r = c.after_program_element.result in
    let t = new.heap.texts in
    let f = c.args.frame in
    let node = node_in t (node_now m old f) in
    let env = env_in m old t f in
    let go = then_normal (program_from (drop c.args.next (program_elements node)) env) in
    follows_shorter m _ _ old new r (dropped_shortens t c.args.completion go)
    (subst (λ (e : Completion). OnOk r (Follows m (go (completion_in t e)) old new)) c.dropped.ensures c.after_program_element.ensures)

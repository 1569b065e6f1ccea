use Rattle.wjs_meaning.specs.Deeds.{AtStmt}
use Rattle.wjs_frames.specs.Parts.{env_in}
use Rattle.wjs_frames.proofs.Handling.{running_later}
use Rattle.wjs_stopping.specs.Ends.{gives_in}
use Rattle.wjs_stopping.proofs.Evaluating.{form_is_line, in_memory}
use Rattle.wjs_direct_lines.proofs.Entering.{behind}
use Rattle.wjs_direct.proofs.entries.enter_element.Goals as goal

pub finish_value-requires-clause-running : goal.finish_value-requires-clause-running
finish_value-requires-clause-running g c =
    in_memory c.element_and_rest-done.result (running_later g.S.WorldStore.meaning c.args.config.now c.element_and_rest-done.new.config c.requires.runs.running) c.element_and_rest-done.ensures.later

pub returns-then-is_evaluated : goal.returns-then-is_evaluated
returns-then-is_evaluated g c =
    let m = g.S.WorldStore.meaning in
    let old = c.args.config.now in
    let mid = c.element_and_rest-done.new.config in
    let f = c.args.frame in
    let k = c.element_and_rest-done.new.stops in
    form_is_line m gives_in (AtStmt c.args.element.0) (λ u. env_in m old u f) (λ u. behind m old f c.args.next u (env_in m old u f)) c.element_and_rest-done.result k.waits k.top old mid c.finish_value.new.config c.finish_value.result
    c.element_and_rest-done.ensures.does c.finish_value.ensures.memory c.finish_value.ensures.follows

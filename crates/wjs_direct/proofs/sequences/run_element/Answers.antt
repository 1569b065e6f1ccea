use Rattle.std.proofs.Common.{ap, ◌∙◌, sym, subst}
use Rattle.wjs_meaning.specs.Deeds.{Act, AtStmt, Completion as Said, Eval}
use Rattle.wjs_meaning.specs.Reading.{node_in}
use Rattle.wjs_model.specs.declared.point.Point.{Point}
use Rattle.wjs_model.specs.Contents.{completion_in, holding_in}
use Rattle.wjs_model.specs.Soundness.{HasPoint}
use Rattle.wjs_frames.specs.Parts.{env_in, node_now, then_at}
use Rattle.wjs_frames.proofs.Handling.{running_later}
use Rattle.wjs_step_common.proofs.Following.{follows_as}
use Rattle.wjs_effects.proofs.Running.{element_waits}
use Rattle.wjs_effects.proofs.StandingElements.{point_there}
use Rattle.wjs_stopping.proofs.Evaluating.{form_is_line, in_memory}
use Rattle.wjs_direct_lines.specs.Sequences.{behind}
use Rattle.wjs_direct.proofs.sequences.run_element.Goals as goal

pub finish_end-requires-clause-running : goal.finish_end-requires-clause-running
finish_end-requires-clause-running g c =
    in_memory c.element_by_form-done.result (running_later g.S.WorldStore.meaning c.args.config.now c.element_by_form-done.new.config c.requires.runs.running) c.element_by_form-done.ensures.later

pub returns-then-is_evaluated : goal.returns-then-is_evaluated
returns-then-is_evaluated g c =
    let m = g.S.WorldStore.meaning in
    let old = c.args.config.now in
    let mid = c.element_by_form-done.new.config in
    let f = c.args.frame in
    let k = c.element_by_form-done.new.stops in
    form_is_line m completion_in (AtStmt c.args.element.0) (λ u. env_in m old u f) (λ u. behind m old f c.args.kind c.args.next u (env_in m old u f)) c.element_by_form-done.result k.waits k.top old mid c.finish_end.new.config c.finish_end.result
    c.element_by_form-done.ensures.does c.finish_end.ensures.memory c.finish_end.ensures.follows

pub enter_statement-requires-clause-point : goal.enter_statement-requires-clause-point
enter_statement-requires-clause-point g c =
    let old = c.args.config.now in
    let f = c.args.frame in
    subst (λ (p : Point). HasPoint old f p) (sym c.waiting_point-point.ensures) (point_there old f c.args.kind c.args.next c.requires.stands)

pub returns-else-is_evaluated : goal.returns-else-is_evaluated
returns-else-is_evaluated g c =
    let m = g.S.WorldStore.meaning in
    let old = c.args.config.now in
    let f = c.args.frame in
    let k = c.args.kind in
    let t = c.enter_statement.new.config.heap.texts in
    let env = env_in m old t f in
    let waits = ap (λ (p : Point). then_at m old f p t env) c.waiting_point-point.ensures ∙ element_waits k c.args.next f.node.0 (node_in t (node_now m old f)) (holding_in t f.held) env in
    follows_as m _ _ _ _ c.enter_statement.result (λ grows. ap (λ (go : Said → Act). Eval (AtStmt c.args.element.0) env go) waits) c.enter_statement.ensures

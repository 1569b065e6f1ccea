use Rattle.std.proofs.Common.{◌≡◌, Option, subst}
use Rattle.std.specs.Prelude.{IfNone, IfSome}
use Rattle.wjs_meaning.specs.Deeds.{AtStmt}
use Rattle.wjs_meaning.specs.Reading.{node_in}
use Rattle.wjs_meaning.specs.Trees.{elements_of}
use Rattle.wjs_model.specs.declared.frame.Completion.{Completion}
use Rattle.wjs_model.specs.Contents.{completion_in}
use Rattle.wjs_model.specs.Soundness.{HasCompletion}
use Rattle.wjs_frames.specs.declared.part.Part.TheVariants as parts
use Rattle.wjs_frames.specs.Doing.{Does}
use Rattle.wjs_frames.specs.Parts.{env_in, node_now}
use Rattle.wjs_frames.proofs.Handling.{running_later, runs_later}
use Rattle.wjs_frames.proofs.Parting.{stands_later}
use Rattle.wjs_quick.proofs.Entering.{entered_slowly}
use Rattle.wjs_step_common.proofs.Following.{follows_as}
use Rattle.wjs_effects.specs.declared.elements.Sequence.TheVariants as kinds
use Rattle.wjs_effects.proofs.Running.{element_goes}
use Rattle.wjs_effects.proofs.StandingElements.{element_stands, sequence_later}
use Rattle.wjs_model.specs.declared.point.CallPoint.TheVariants as calls
use Rattle.wjs_model.specs.declared.point.Point.TheVariants as points
use Rattle.wjs_stopping.specs.Ends.{gives_in}
use Rattle.wjs_stopping.proofs.Evaluating.{form_is_line, in_memory}
use Rattle.wjs_direct_lines.specs.Deeds.{goal_here}
use Rattle.wjs_direct_lines.proofs.Entering.{behind, element_ended}
use Rattle.wjs_direct_lines.proofs.Parts.{did, later_then}
use Rattle.wjs_direct.proofs.entries.go_on_with.Goals as goal

-- it was done at once
pub rest_after-value-requires-clause-base : goal.rest_after-value-requires-clause-base
rest_after-value-requires-clause-base g c = c.in_ok-done.ensures.later.base

pub rest_after-value-requires-clause-there : goal.rest_after-value-requires-clause-there
rest_after-value-requires-clause-there g c = c.in_ok-done.ensures.later.frames c.args.frame c.requires.runs.there

pub rest_after-value-requires-clause-body : goal.rest_after-value-requires-clause-body
rest_after-value-requires-clause-body g c = sequence_later g.S.WorldStore.meaning c.args.config.now c.args.frame kinds.Function c.statement_at_once.new.config c.in_ok-done.ensures.later c.requires.body

pub rest_after-value-requires-clause-end : goal.rest_after-value-requires-clause-end
rest_after-value-requires-clause-end g c =
    subst (λ (o : Option Completion). IfSome o (λ e. HasCompletion c.statement_at_once.new.config e)) c.in-Some.is c.in_ok-done.ensures.found

pub finish_value-requires-clause-running : goal.finish_value-requires-clause-running
finish_value-requires-clause-running g c =
    let m = g.S.WorldStore.meaning in
    let old = c.args.config.now in
    let new = c.rest_after-value.new.config in
    in_memory c.rest_after-value.result (running_later m old new c.requires.runs.running) (later_then m old c.statement_at_once.new.config new c.rest_after-value.result c.in_ok-done.ensures.later c.rest_after-value.ensures.later)

pub returns-in-Some : goal.returns-in-Some
returns-in-Some g c =
    let m = g.S.WorldStore.meaning in
    let old = c.args.config.now in
    let mid = c.statement_at_once.new.config in
    let ran = c.rest_after-value.new.config in
    let new = c.finish_value.new.config in
    let f = c.args.frame in
    let t = new.heap.texts in
    let s = c.args.element in
    let next = c.in_ok-next.next in
    let r = c.finish_value.result in
    let k = c.rest_after-value.new.stops in
    let D : Option Completion → Type 0 = λ o. IfSome o (λ e. Does m (goal_here m old f (AtStmt s.0)) (λ t. completion_in t e) old mid) in
    follows_as m _ _ _ _ r (λ grows.
    element_goes kinds.Function (elements_of (node_in t (node_now m old f))) (env_in m old t f) c.args.at next s.0 c.in_ok-next.ensures (c.requires.element t))
    (form_is_line m gives_in (AtStmt s.0) (λ u. env_in m old u f) (λ u. behind m old f next u (env_in m old u f)) c.rest_after-value.result k.waits k.top old ran new r
    (element_ended m old mid ran f next s c.in-Some.end c.rest_after-value.result k.waits k.top k.waits k.top c.in_ok-done.ensures.later
    (did m completion_in (goal_here m old f (AtStmt s.0)) c.in-Some.end k.waits k.top old mid (subst D c.in-Some.is c.in_ok-done.ensures.does)) c.rest_after-value.ensures.does)
    c.finish_value.ensures.memory c.finish_value.ensures.follows)

-- it was not
pub enter_element-requires-clause-runs : goal.enter_element-requires-clause-runs
enter_element-requires-clause-runs g c = runs_later _ _ _ _ c.requires.runs c.in_ok-done.ensures.later

pub enter_element-requires-clause-body : goal.enter_element-requires-clause-body
enter_element-requires-clause-body g c = sequence_later g.S.WorldStore.meaning c.args.config.now c.args.frame kinds.Function c.statement_at_once.new.config c.in_ok-done.ensures.later c.requires.body

pub enter_element-requires-clause-element : goal.enter_element-requires-clause-element
enter_element-requires-clause-element g c =
    let m = g.S.WorldStore.meaning in
    let old = c.args.config.now in
    stands_later m old c.args.frame c.statement_at_once.new.config c.args.element c.in_ok-done.ensures.later
    (element_stands m old c.args.frame kinds.Function c.args.at c.args.element c.requires.runs.running.base c.requires.runs.there c.requires.body c.requires.element)

pub returns-in-None : goal.returns-in-None
returns-in-None g c =
    let m = g.S.WorldStore.meaning in
    let old = c.args.config.now in
    let mid = c.statement_at_once.new.config in
    let new = c.enter_element.new.config in
    let f = c.args.frame in
    let t = new.heap.texts in
    let next = c.in_ok-next.next in
    let r = c.enter_element.result in
    let N : Option Completion → Type 0 = λ o. IfNone o (mid ≡ old) in
    follows_as m _ _ _ _ r (λ grows.
    element_goes kinds.Function (elements_of (node_in t (node_now m old f))) (env_in m old t f) c.args.at next c.args.element.0 c.in_ok-next.ensures (c.requires.element t))
    (entered_slowly m f (parts.Stmt c.args.element) old mid new r (points.Call (calls.BodyElement next)) (subst N c.in-None.is c.in_ok-done.ensures.same) c.enter_element.ensures)

use Rattle.std.proofs.Common.{[], drop, ap, subst}
use Rattle.wjs_base.specs.declared.ids.NodeId.{NodeId}
use Rattle.std.specs.Prelude.{Err}
use Rattle.wjs_base.specs.declared.values.Value.{Value}
use Rattle.wjs_meaning.specs.Functions as functions
use Rattle.wjs_meaning.specs.Reading.{node_in}
use Rattle.wjs_meaning.specs.Trees.{elements_of}
use Rattle.wjs_model.specs.declared.frame.Completion.{Completion}
use Rattle.wjs_model.specs.declared.frame.Phase.TheVariants as phases
use Rattle.wjs_model.specs.declared.point.CallPoint.TheVariants as call
use Rattle.wjs_model.specs.declared.point.Point.TheVariants as points
use Rattle.wjs_model.specs.Contents.{completion_in}
use Rattle.wjs_model.specs.Soundness.{HasCompletion}
use Rattle.wjs_frames.specs.Parts.{node_now}
use Rattle.wjs_heap_steps.proofs.Later.{later_same}
use Rattle.wjs_effects.proofs.Leaving.{shorten_as}
use Rattle.wjs_stopping.specs.Ends.{gives_in}
use Rattle.wjs_stopping.specs.Waiting.{StopsAt, at_node}
use Rattle.wjs_direct_lines.proofs.Forming.{line_ended}
use Rattle.wjs_direct_lines.proofs.Parts.{given_does, later_stopped, line_threw, stop_found}
use Rattle.wjs_direct_lines.proofs.bodies.body_ended.Goals as goal

pub returns-in-Returns-clause-later : goal.returns-in-Returns-clause-later
returns-in-Returns-clause-later g c = later_same g.S.WorldStore.meaning c.args.config.now c.requires.base

pub returns-in-Returns-clause-found : goal.returns-in-Returns-clause-found
returns-in-Returns-clause-found g c = (subst (λ (e : Completion). HasCompletion c.args.config.now e) c.in-Returns.is c.requires.end, c.requires.empty)

pub returns-in-Returns-clause-does : goal.returns-in-Returns-clause-does
returns-in-Returns-clause-does g c =
    let m = g.S.WorldStore.meaning in
    let old = c.args.config.now in
    let f = c.args.frame.now in
    let s = c.args.stops.now in
    line_ended m gives_in old f (λ t env. functions.body_next (functions.body_from (drop c.args.next (elements_of (node_in t (node_now m old f)))) env) (completion_in t c.args.end)) c.in-Returns.value s.waits s.top
    (λ t more env. shorten_as _ _ (ap (λ (e : Completion). functions.body_next (functions.body_from (drop c.args.next (elements_of (node_in t (node_now m old f)))) env) (completion_in t e)) c.in-Returns.is))

pub returns-in-Throws-clause-later : goal.returns-in-Throws-clause-later
returns-in-Throws-clause-later g c = later_same g.S.WorldStore.meaning c.args.config.now c.requires.base

pub returns-in-Throws-clause-found : goal.returns-in-Throws-clause-found
returns-in-Throws-clause-found g c = (subst (λ (e : Completion). HasCompletion c.args.config.now e) c.in-Throws.is c.requires.end, c.requires.empty)

pub returns-in-Throws-clause-does : goal.returns-in-Throws-clause-does
returns-in-Throws-clause-does g c =
    let m = g.S.WorldStore.meaning in
    let old = c.args.config.now in
    let f = c.args.frame.now in
    let s = c.args.stops.now in
    line_threw m gives_in old f (λ t env. functions.body_next (functions.body_from (drop c.args.next (elements_of (node_in t (node_now m old f)))) env) (completion_in t c.args.end)) c.in-Throws.error s.waits s.top
    (λ t env. ap (λ (e : Completion). functions.body_next (functions.body_from (drop c.args.next (elements_of (node_in t (node_now m old f)))) env) (completion_in t e)) c.in-Throws.is)

pub returns-in_default-clause-later : goal.returns-in_default-clause-later
returns-in_default-clause-later g c = later_stopped g.S.WorldStore.meaning {A = Value} c.args.config.now c.stop.new.config (Err c.stop.result) c.requires.base c.stop.ensures.same

pub returns-in_default-clause-found : goal.returns-in_default-clause-found
returns-in_default-clause-found g c =
    let old = c.args.config.now in
    let f = c.args.frame.now in
    let s = c.stop.new.stops in
    let phase = phases.Given (points.Call (call.BodyElement c.args.next)) c.args.end in
    stop_found g.S.WorldStore.meaning old c.stop.new.config f f.node [] phase c.stop.result s.waits s.top c.stop.ensures.same c.requires.there c.requires.there.stands.node tt (c.requires.body, c.requires.end)
    (subst (λ (id : NodeId). StopsAt (at_node f id []) phase c.stop.result s.waits s.top) c.node.ensures c.stop.ensures.stops)

pub returns-in_default-clause-does : goal.returns-in_default-clause-does
returns-in_default-clause-does g c =
    let old = c.args.config.now in
    let f = c.args.frame.now in
    let s = c.stop.new.stops in
    let point = points.Call (call.BodyElement c.args.next) in
    given_does g.S.WorldStore.meaning gives_in old c.stop.new.config f c.stop.result s.waits s.top c.stop.ensures.same f.node [] point c.args.end
    (subst (λ (id : NodeId). StopsAt (at_node f id []) (phases.Given point c.args.end) c.stop.result s.waits s.top) c.node.ensures c.stop.ensures.stops)

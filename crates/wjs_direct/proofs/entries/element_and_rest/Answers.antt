use Rattle.std.proofs.Common.{[], refl, sym, ap, ◌∙◌, drop, subst}
use Rattle.wjs_base.specs.declared.ids.NodeId.{NodeId}
use Rattle.wjs_base.specs.declared.values.Value.{Value}
use Rattle.wjs_meaning.specs.Deeds.{AtStmt}
use Rattle.wjs_meaning.specs.Functions.{body_from, body_next}
use Rattle.wjs_meaning.specs.Reading.{node_in}
use Rattle.wjs_meaning.specs.Trees.{elements_of}
use Rattle.wjs_model.specs.declared.frame.Completion.{Completion}
use Rattle.wjs_model.specs.declared.point.CallPoint.TheVariants as calls
use Rattle.wjs_model.specs.declared.point.Point.TheVariants as points
use Rattle.wjs_model.specs.Contents.{completion_in}
use Rattle.wjs_model.specs.Standing.{IsFunction, Stands}
use Rattle.wjs_frames.specs.Parts.{node_among}
use Rattle.wjs_effects.specs.declared.elements.Sequence.TheVariants as kinds
use Rattle.wjs_effects.proofs.StandingElements.{sequence_later}
use Rattle.wjs_stopping.specs.Ends.{gives_in}
use Rattle.wjs_direct_lines.proofs.Entering.{behind, behind_later, element_ended}
use Rattle.wjs_direct_lines.proofs.Parts.{broke_does, broke_found, broke_later, later_then}
use Rattle.wjs_direct.proofs.entries.element_and_rest.Goals as goal

pub rest_after-requires-clause-base : goal.rest_after-requires-clause-base
rest_after-requires-clause-base g c = c.in-Ok.ensures.later.base

pub rest_after-requires-clause-there : goal.rest_after-requires-clause-there
rest_after-requires-clause-there g c = c.in-Ok.ensures.later.frames c.args.frame.now c.requires.there

pub rest_after-requires-clause-body : goal.rest_after-requires-clause-body
rest_after-requires-clause-body g c = sequence_later g.S.WorldStore.meaning c.args.config.now c.args.frame.now kinds.Function c.by_form.new.config c.in-Ok.ensures.later c.requires.body

pub rest_after-requires-clause-end : goal.rest_after-requires-clause-end
rest_after-requires-clause-end g c = c.in-Ok.ensures.found.0

pub rest_after-requires-clause-empty : goal.rest_after-requires-clause-empty
rest_after-requires-clause-empty g c = c.in-Ok.ensures.found.1

pub returns-in-Ok-clause-later : goal.returns-in-Ok-clause-later
returns-in-Ok-clause-later g c =
    later_then g.S.WorldStore.meaning c.args.config.now c.by_form.new.config c.rest_after.new.config c.rest_after.result c.in-Ok.ensures.later c.rest_after.ensures.later

pub returns-in-Ok-clause-does : goal.returns-in-Ok-clause-does
returns-in-Ok-clause-does g c =
    let s = c.by_form.new.stops in
    let s' = c.rest_after.new.stops in
    element_ended g.S.WorldStore.meaning c.args.config.now c.by_form.new.config c.rest_after.new.config c.args.frame.now c.args.next c.args.element c.in-Ok.end c.rest_after.result s.waits s.top s'.waits s'.top
    c.in-Ok.ensures.later c.in-Ok.ensures.does c.rest_after.ensures.does

pub returns-in-Err-clause-later : goal.returns-in-Err-clause-later
returns-in-Err-clause-later g c =
    let s = c.by_form.new.stops in
    let s' = c.waits.new.stops in
    broke_later g.S.WorldStore.meaning Completion Value c.args.config.now c.by_form.new.config c.waits.new.config c.args.frame.now c.node.result [] (points.Call (calls.BodyElement c.args.next)) c.in-Err.end s.waits s.top c.waits.result s'.waits s'.top
    c.waits.ensures.same c.waits.ensures.waits c.in-Err.ensures.later

pub returns-in-Err-clause-found : goal.returns-in-Err-clause-found
returns-in-Err-clause-found g c =
    let old = c.args.config.now in
    let f = c.args.frame.now in
    let s = c.by_form.new.stops in
    let s' = c.waits.new.stops in
    broke_found g.S.WorldStore.meaning Completion Value old c.by_form.new.config c.waits.new.config f c.node.result [] (points.Call (calls.BodyElement c.args.next)) c.in-Err.end s.waits s.top c.waits.result s'.waits s'.top
    c.waits.ensures.same c.waits.ensures.waits c.in-Err.ensures.later c.requires.there
    (subst (λ (i : NodeId). Stands old.units.items old.heap.arena f.tree i f.scope 0) (sym c.node.ensures) c.requires.there.stands.node) tt
    (subst (λ (i : NodeId). IsFunction old.units.items old.heap.arena f.tree i f.scope 1) (sym c.node.ensures) c.requires.body) c.in-Err.ensures.found

pub returns-in-Err-clause-does : goal.returns-in-Err-clause-does
returns-in-Err-clause-does g c =
    let m = g.S.WorldStore.meaning in
    let old = c.args.config.now in
    let mid = c.by_form.new.config in
    let f = c.args.frame.now in
    let next = c.args.next in
    let s = c.by_form.new.stops in
    let s' = c.waits.new.stops in
    broke_does m Completion Value old mid c.waits.new.config f c.node.result [] (points.Call (calls.BodyElement next)) c.in-Err.end s.waits s.top c.waits.result s'.waits s'.top
    c.waits.ensures.same c.waits.ensures.waits completion_in gives_in (AtStmt c.args.element.0) (behind m old f next)
    (λ l t env. ap (λ (i : NodeId). body_next (body_from (drop next (elements_of (node_in t (node_among mid.units.items f.tree i)))) env)) c.node.ensures ∙ behind_later m old mid f next l t env)
    (λ t env e. refl) c.in-Err.ensures.later c.in-Err.ensures.does

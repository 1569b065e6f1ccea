use Rattle.std.proofs.Common.{[], subst, sym}
use Rattle.wjs_base.specs.declared.ids.NodeId.{NodeId}
use Rattle.wjs_meaning.specs.Deeds.{AtStmt}
use Rattle.wjs_model.specs.declared.frame.Completion.{Completion}
use Rattle.wjs_model.specs.Contents.{completion_in}
use Rattle.wjs_model.specs.Standing.{Stands}
use Rattle.wjs_effects.proofs.StandingElements.{sequence_later}
use Rattle.wjs_direct_lines.specs.Sequences.{behind}
use Rattle.wjs_direct_lines.proofs.Behind.{behind_throws, end_later, stopped_waits, waits_there}
use Rattle.wjs_direct_lines.proofs.Forming.{form_goes_on}
use Rattle.wjs_direct_lines.proofs.Parts.{broke_does, broke_found, broke_later, later_then}
use Rattle.wjs_direct.proofs.sequences.element_by_form.Goals as goal

pub given-requires-clause-base : goal.given-requires-clause-base
given-requires-clause-base g c = c.in-Ok.ensures.later.base

pub given-requires-clause-there : goal.given-requires-clause-there
given-requires-clause-there g c = c.in-Ok.ensures.later.frames c.args.frame.now c.requires.there

pub given-requires-clause-stands : goal.given-requires-clause-stands
given-requires-clause-stands g c = sequence_later g.S.WorldStore.meaning c.args.config.now c.args.frame.now c.args.kind c.by_form.new.config c.in-Ok.ensures.later c.requires.stands

pub given-requires-clause-end : goal.given-requires-clause-end
given-requires-clause-end g c = c.in-Ok.ensures.found.0

pub given-requires-clause-empty : goal.given-requires-clause-empty
given-requires-clause-empty g c = c.in-Ok.ensures.found.1

pub returns-in-Ok-clause-later : goal.returns-in-Ok-clause-later
returns-in-Ok-clause-later g c =
    later_then g.S.WorldStore.meaning c.args.config.now c.by_form.new.config c.given.new.config c.given.result c.in-Ok.ensures.later c.given.ensures.later

pub returns-in-Ok-clause-does : goal.returns-in-Ok-clause-does
returns-in-Ok-clause-does g c =
    let m = g.S.WorldStore.meaning in
    let old = c.args.config.now in
    let mid = c.by_form.new.config in
    let f = c.args.frame.now in
    let s = c.by_form.new.stops in
    let k = c.given.new.stops in
    form_goes_on m completion_in completion_in old mid c.given.new.config f (AtStmt c.args.element.0) (λ t env. behind m old f c.args.kind c.args.next t env) c.in-Ok.end c.given.result s.waits s.top k.waits k.top
    c.in-Ok.ensures.later c.in-Ok.ensures.does (end_later m c.args.kind c.args.next old mid c.given.new.config f c.in-Ok.end c.given.result k.waits k.top c.in-Ok.ensures.later c.given.ensures.does)

pub returns-in-Err-clause-later : goal.returns-in-Err-clause-later
returns-in-Err-clause-later g c =
    let s = c.by_form.new.stops in
    let s' = c.waits.new.stops in
    broke_later g.S.WorldStore.meaning Completion Completion c.args.config.now c.by_form.new.config c.waits.new.config c.args.frame.now c.node.result [] c.waiting_point-point.result c.in-Err.end s.waits s.top c.waits.result s'.waits s'.top
    c.waits.ensures.same c.waits.ensures.waits c.in-Err.ensures.later

pub returns-in-Err-clause-found : goal.returns-in-Err-clause-found
returns-in-Err-clause-found g c =
    let old = c.args.config.now in
    let f = c.args.frame.now in
    let s = c.by_form.new.stops in
    let s' = c.waits.new.stops in
    broke_found g.S.WorldStore.meaning Completion Completion old c.by_form.new.config c.waits.new.config f c.node.result [] c.waiting_point-point.result c.in-Err.end s.waits s.top c.waits.result s'.waits s'.top
    c.waits.ensures.same c.waits.ensures.waits c.in-Err.ensures.later c.requires.there
    (subst (λ (i : NodeId). Stands old.units.items old.heap.arena f.tree i f.scope 0) (sym c.node.ensures) c.requires.there.stands.node) tt
    (waits_there g.S.WorldStore.meaning c.args.kind c.args.next old f c.node.result c.waiting_point-point.result c.node.ensures c.waiting_point-point.ensures c.requires.stands) c.in-Err.ensures.found

pub returns-in-Err-clause-does : goal.returns-in-Err-clause-does
returns-in-Err-clause-does g c =
    let m = g.S.WorldStore.meaning in
    let old = c.args.config.now in
    let mid = c.by_form.new.config in
    let f = c.args.frame.now in
    let k = c.args.kind in
    let s = c.by_form.new.stops in
    let s' = c.waits.new.stops in
    broke_does m Completion Completion old mid c.waits.new.config f c.node.result [] c.waiting_point-point.result c.in-Err.end s.waits s.top c.waits.result s'.waits s'.top
    c.waits.ensures.same c.waits.ensures.waits completion_in completion_in (AtStmt c.args.element.0) (λ t env. behind m old f k c.args.next t env)
    (stopped_waits m k c.args.next old mid f c.node.result c.waiting_point-point.result c.node.ensures c.waiting_point-point.ensures)
    (λ t env e. behind_throws k _ e) c.in-Err.ensures.later c.in-Err.ensures.does

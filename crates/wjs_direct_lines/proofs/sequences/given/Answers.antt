use Rattle.std.proofs.Common.{[], ap, subst, sym}
use Rattle.std.specs.Prelude.{Err}
use Rattle.wjs_base.specs.declared.ids.NodeId.{NodeId}
use Rattle.wjs_meaning.specs.Deeds.{Act, Completion as Said}
use Rattle.wjs_model.specs.declared.frame.Completion.{Completion}
use Rattle.wjs_model.specs.declared.frame.Phase.TheVariants as phases
use Rattle.wjs_model.specs.Contents.{completion_in}
use Rattle.wjs_model.specs.Standing.{Stands}
use Rattle.wjs_frames.specs.Parts.{env_in, then_at}
use Rattle.wjs_stopping.specs.Waiting.{at_node}
use Rattle.wjs_direct_lines.specs.Sequences.{behind}
use Rattle.wjs_direct_lines.proofs.Behind.{behind_waits, waits_there}
use Rattle.wjs_direct_lines.proofs.Parts.{given_does, later_stopped, line_as, stop_found}
use Rattle.wjs_direct_lines.proofs.sequences.given.Goals as goal

pub returns-clause-later : goal.returns-clause-later
returns-clause-later g c = later_stopped g.S.WorldStore.meaning {A = Completion} c.args.config.now c.stop.new.config (Err c.stop.result) c.requires.base c.stop.ensures.same

pub returns-clause-found : goal.returns-clause-found
returns-clause-found g c =
    let old = c.args.config.now in
    let f = c.args.frame.now in
    let s = c.stop.new.stops in
    let p = c.waiting_point.result in
    stop_found g.S.WorldStore.meaning old c.stop.new.config f c.node.result [] (phases.Given p c.args.end) c.stop.result s.waits s.top c.stop.ensures.same
    c.requires.there (subst (λ (i : NodeId). Stands old.units.items old.heap.arena f.tree i f.scope 0) (sym c.node.ensures) c.requires.there.stands.node) tt
    (waits_there g.S.WorldStore.meaning c.args.kind c.args.next old f c.node.result p c.node.ensures c.waiting_point.ensures c.requires.stands, c.requires.end) c.stop.ensures.stops

pub returns-clause-does : goal.returns-clause-does
returns-clause-does g c =
    let m = g.S.WorldStore.meaning in
    let old = c.args.config.now in
    let f = c.args.frame.now in
    let k = c.args.kind in
    let s = c.stop.new.stops in
    let p = c.waiting_point.result in
    line_as m completion_in old c.stop.new.config f (λ t env. behind m old f k c.args.next t env (completion_in t c.args.end)) (Err c.stop.result) s.waits s.top
    (λ t env. then_at m old (at_node f c.node.result []) p t env (completion_in t c.args.end))
    (λ t more. ap (λ (go : Said → Act). go (completion_in t c.args.end)) (sym (behind_waits m k c.args.next old f c.node.result p c.node.ensures c.waiting_point.ensures t (env_in m old t f))))
    (given_does m completion_in old c.stop.new.config f c.stop.result s.waits s.top c.stop.ensures.same c.node.result [] p c.args.end c.stop.ensures.stops)

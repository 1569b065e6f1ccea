use Rattle.std.proofs.Common.{Option, None, Some, sym, subst}
use Rattle.std.specs.Prelude.{Err}
use Rattle.wjs_base.specs.declared.ids.NodeId.{NodeId}
use Rattle.wjs_meaning.specs.Deeds.{Again, AtExpr, then_value}
use Rattle.wjs_meaning.specs.Loops.{do_test}
use Rattle.wjs_model.specs.declared.frame.Completion.{Completion}
use Rattle.wjs_model.specs.Contents.{completion_in}
use Rattle.wjs_model.specs.Soundness.{StandsHere}
use Rattle.wjs_frames.proofs.Parting.{stands_later}
use Rattle.wjs_stopping.specs.Evaluating.{Evaluates, Leaves, outcome_in}
use Rattle.wjs_stopping.proofs.Evaluating.{in_memory, leaves_all}
use Rattle.wjs_direct_lines.specs.Deeds.{form_here, goal_here}
use Rattle.wjs_direct.specs.Rounds.{IsDo, do_round, round_left}
use Rattle.wjs_direct.proofs.Looping.{round_later}
use Rattle.wjs_direct_lines.proofs.Parts.{later_then}
use Rattle.wjs_direct.proofs.do_rounds.tested.Goals as goal

pub iterations-requires-clause-there : goal.iterations-requires-clause-there
iterations-requires-clause-there g c = c.in-Ok.ensures.later.frames c.args.frame.now c.requires.there

pub iterations-requires-clause-node : goal.iterations-requires-clause-node
iterations-requires-clause-node g c =
    let f = c.args.frame.now in
    subst (λ (i : NodeId). StandsHere c.asked.new.config f i) (sym c.node-node.ensures) (c.in-Ok.ensures.later.frames f c.requires.there).stands.node

pub iterations-requires-clause-is : goal.iterations-requires-clause-is
iterations-requires-clause-is g c =
    let m = g.S.WorldStore.meaning in
    let mid = c.asked.new.config in
    let f = c.args.frame.now in
    subst (λ (i : NodeId). IsDo m mid f i c.args.parts.body c.args.parts.test) (sym c.node-node.ensures) (round_later m c.args.config.now mid f f.node (do_round f.node c.args.parts.body c.args.parts.test) c.in-Ok.ensures.later c.requires.parts.is)

pub iterations-requires-clause-body : goal.iterations-requires-clause-body
iterations-requires-clause-body g c = stands_later g.S.WorldStore.meaning c.args.config.now c.args.frame.now c.asked.new.config c.args.parts.body c.in-Ok.ensures.later c.requires.parts.body

pub iterations-requires-clause-test : goal.iterations-requires-clause-test
iterations-requires-clause-test g c = stands_later g.S.WorldStore.meaning c.args.config.now c.args.frame.now c.asked.new.config c.args.parts.test c.in-Ok.ensures.later c.requires.parts.test

pub returns-in-Some-clause-does : goal.returns-in-Some-clause-does
returns-in-Some-clause-does g c =
    let m = g.S.WorldStore.meaning in
    let old = c.args.config.now in
    let mid = c.asked.new.config in
    let f = c.args.frame.now in
    let D : NodeId → Option Completion → Type 0 = λ i o. Leaves m (form_here m old f (AtExpr c.args.test.0) (λ t env. then_value (do_test i.0 env))) (round_left m mid f i o) old mid in
    subst (λ (i : NodeId). D i (Some c.in-Some.end)) c.node-node.ensures (subst (λ (o : Option Completion). D c.node-node.result o) c.in-Some.is c.in-Ok.ensures.does)

pub returns-in-None-clause-later : goal.returns-in-None-clause-later
returns-in-None-clause-later g c =
    later_then g.S.WorldStore.meaning c.args.config.now c.asked.new.config c.iterations.new.config c.iterations.result c.in-Ok.ensures.later c.iterations.ensures.later

pub returns-in-None-clause-does : goal.returns-in-None-clause-does
returns-in-None-clause-does g c =
    let m = g.S.WorldStore.meaning in
    let old = c.args.config.now in
    let mid = c.asked.new.config in
    let new = c.iterations.new.config in
    let f = c.args.frame.now in
    let k = c.iterations.new.stops in
    let from = form_here m old f (AtExpr c.args.test.0) (λ t env. then_value (do_test f.node.0 env)) in
    let again = goal_here m mid f (Again f.node.0) in
    let D : NodeId → Option Completion → Type 0 = λ i o. Leaves m (form_here m old f (AtExpr c.args.test.0) (λ t env. then_value (do_test i.0 env))) (round_left m mid f i o) old mid in
    let one : Leaves m from again old mid = subst (λ (i : NodeId). D i None) c.node-node.ensures (subst (λ (o : Option Completion). D c.node-node.result o) c.in-None.is c.in-Ok.ensures.does) in
    let two = subst (λ (i : NodeId). Evaluates m (goal_here m mid f (Again i.0)) completion_in c.iterations.result k.waits k.top mid new) c.node-node.ensures c.iterations.ensures.does in
    in_memory c.iterations.result (leaves_all m from again (outcome_in m new completion_in c.iterations.result k.waits k.top) old mid new one) two

pub returns-in-Err-clause-does : goal.returns-in-Err-clause-does
returns-in-Err-clause-does g c =
    let m = g.S.WorldStore.meaning in
    let old = c.args.config.now in
    let mid = c.asked.new.config in
    let f = c.args.frame.now in
    let k = c.asked.new.stops in
    subst (λ (i : NodeId). Evaluates m {A = Completion} (form_here m old f (AtExpr c.args.test.0) (λ t env. then_value (do_test i.0 env))) completion_in (Err c.in-Err.end) k.waits k.top old mid) c.node-node.ensures c.in-Err.ensures.does

use Rattle.std.proofs.Common.{◌≡◌, ◌-◌, length, subst, arith}
use Rattle.wjs_scope.proofs.Below.{children}
use Rattle.wjs_scope.proofs.Nested.{Walked, started, within, before, passed, visited}
use Rattle.wjs_scope.proofs.Ways.{all_nested}
use Rattle.wjs_scope.proofs.nesting.fill.Goals as goal

pub loop-left-init : goal.loop-left-init
loop-left-init c = started c.args.nodes.now c.args.arguments c.args.body c.args.marks.now c.mark.new.table c.args.levels.now.items c.requires.script c.requires.empty c.mark.ensures

pub node-node-requires : goal.node-node-requires
node-node-requires c =
    let some = c.loop-left-test.true in
    within c.args.nodes.now c.args.arguments c.args.body c.loop-left.marks c.loop-left.levels.items c.loop-left.left (record { 0 = c.loop-left.left - 1 }) c.in-Some.at (omega arith) c.in-Some.is c.loop-left.invariant

pub visit-requires-clause-below : goal.visit-requires-clause-below
visit-requires-clause-below c =
    let some = c.loop-left-test.true in
    let long = c.loop-left.invariant.long in
    let low = c.loop-left.invariant.low in
    children (c.loop-left.left - 1) (length c.loop-left.marks) (omega arith) c.node-node.result.now c.node-node.ensures.below

pub visit-requires-clause-elements : goal.visit-requires-clause-elements
visit-requires-clause-elements c =
    let some = c.loop-left-test.true in
    (before c.args.nodes.now c.args.arguments c.args.body c.loop-left.marks c.loop-left.levels.items c.loop-left.left (record { 0 = c.loop-left.left - 1 }) c.in-Some.at (omega arith) c.in-Some.is c.loop-left.invariant c.node-node.result.now c.node-node.ensures.there).0

pub visit-requires-clause-room : goal.visit-requires-clause-room
visit-requires-clause-room c =
    let some = c.loop-left-test.true in
    (before c.args.nodes.now c.args.arguments c.args.body c.loop-left.marks c.loop-left.levels.items c.loop-left.left (record { 0 = c.loop-left.left - 1 }) c.in-Some.at (omega arith) c.in-Some.is c.loop-left.invariant c.node-node.result.now c.node-node.ensures.there).1

pub loop-left-preserved-in-Continue-1 : goal.loop-left-preserved-in-Continue-1
loop-left-preserved-in-Continue-1 c =
    let some = c.loop-left-test.true in
    let v = c.in_ok-visit.ensures in
    visited c.args.nodes.now c.args.arguments c.args.body c.loop-left.marks c.loop-left.levels.items c.loop-left.left c.loop-left.invariant (record { 0 = c.loop-left.left - 1 }) c.in-Some.at (omega arith) c.in-Some.is c.node-node.result.now c.node-node.ensures.there c.node-node.ensures.below c.visit.new.marks c.visit.new.levels.items v.0 v.1 v.2

pub loop-left-preserved : goal.loop-left-preserved
loop-left-preserved c =
    let some = c.loop-left-test.true in
    passed c.args.nodes.now c.args.arguments c.args.body c.loop-left.marks c.loop-left.levels.items c.loop-left.left (c.loop-left.left - 1) (omega arith) c.in_default.is c.loop-left.invariant

pub returns : goal.returns
returns c =
    let done = c.loop-left-test.false in
    let none : c.loop-left.left ≡ 0 = omega arith in
    all_nested c.args.nodes.now c.args.arguments c.args.body c.loop-left.marks c.loop-left.levels.items (subst (Walked c.args.nodes.now c.args.arguments c.args.body c.loop-left.marks c.loop-left.levels.items) none c.loop-left.invariant) _ c.requires.script.has

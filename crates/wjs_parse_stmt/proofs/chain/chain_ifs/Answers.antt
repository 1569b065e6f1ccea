use Rattle.std.proofs.Common.{length, arith}
use Rattle.wjs_tree.proofs.Kept.{keeps_self, keeps_both}
use Rattle.wjs_parse_stmt.proofs.Chaining.{build_start, build_more, build_done, branches_more, branches_split, popped_all}
use Rattle.wjs_parse_stmt.proofs.Weaving.{weave_start, weave_more, weave_done}
use Rattle.wjs_parse_stmt.proofs.chain.chain_ifs.Goals as goal

pub loop-head-init : goal.loop-head-init
loop-head-init c = (build_start c.args.nodes.now c.args.heads.items c.args.last, keeps_self _, c.requires.below, c.requires.there, weave_start c.args.nodes.now c.args.heads.items c.args.last)

pub add-requires : goal.add-requires
add-requires c =
    let s = rw c.in-Some.is at c.pop.ensures.items in
    let q = branches_split (length c.loop-head.nodes) c.loop-head.left.items c.pop.new.self.items c.in-Some.head s c.loop-head.invariant.2 in
    (q.1, q.2, c.loop-head.invariant.3)

pub loop-head-preserved : goal.loop-head-preserved
loop-head-preserved c =
    let s = rw c.in-Some.is at c.pop.ensures.items in
    let q = branches_split (length c.loop-head.nodes) c.loop-head.left.items c.pop.new.self.items c.in-Some.head s c.loop-head.invariant.2 in
    let k = c.in_ok-node.ensures.ok in
    let n = c.in_ok-node.ensures.longer in
    (build_more c.args.nodes.now c.args.heads.items c.args.last c.loop-head.nodes c.add.new.self c.loop-head.left.items c.pop.new.self.items c.in-Some.head c.loop-head.node c.in_ok-node.node c.loop-head.invariant.0 s c.in_ok-node.ensures.keeps c.in_ok-node.ensures.has, keeps_both _ _ _ c.loop-head.invariant.1 c.in_ok-node.ensures.keeps, branches_more _ _ _ (omega arith) q.0, omega arith, weave_more c.args.nodes.now c.args.heads.items c.args.last c.loop-head.nodes c.add.new.self c.loop-head.left.items c.pop.new.self.items c.in-Some.head c.loop-head.node c.in_ok-node.node c.loop-head.invariant.4 s (record { has = c.in_ok-node.ensures.has; is = c.in_ok-node.ensures.ok; keeps = c.in_ok-node.ensures.keeps }))

pub returns-clause-answer : goal.returns-clause-answer
returns-clause-answer c =
    let s = rw c.in_default.is at c.pop.ensures.items in
    let z = rw c.in_default.is at c.pop.ensures.cases in
    build_done c.args.nodes.now c.args.heads.items c.args.last c.loop-head.nodes c.loop-head.left.items c.loop-head.node c.loop-head.invariant.0 (popped_all _ _ _ z.0 c.pop.ensures.rest s)

pub returns-clause-own : goal.returns-clause-own
returns-clause-own c =
    let s = rw c.in_default.is at c.pop.ensures.items in
    let z = rw c.in_default.is at c.pop.ensures.cases in
    weave_done c.args.nodes.now c.args.heads.items c.args.last c.loop-head.nodes c.loop-head.left.items c.loop-head.node c.loop-head.invariant.4 (popped_all _ _ _ z.0 c.pop.ensures.rest s)

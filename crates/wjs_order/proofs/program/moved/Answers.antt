use Rattle.std.proofs.Common.{◌≡◌, ◌+◌, ◌-◌, ◌<◌, length, get_or, refl, subst, arith}
use Rattle.std.proofs.lemmas.List.Elements.{All-get_or}
use Rattle.wjs_scope.proofs.Below.{children}
use Rattle.wjs_order.specs.Renumbered.{number_in}
use Rattle.wjs_order.proofs.Moving.{Moved, moved_none, moved_more, moved_all, moved_length, there, parts_made}
use Rattle.wjs_order.proofs.program.moved.Goals as goal

pub loop-left-init : goal.loop-left-init
loop-left-init c = moved_none c.args.old.now (number_in c.args.numbers.now) c.args.order.now c.new-nodes.result c.new-nodes.ensures

pub node-requires : goal.node-requires
node-requires c =
    let some = c.loop-left-test.true in
    let within = c.loop-left.invariant.within in
    there c.args.old.now (number_in c.args.numbers.now) c.args.order.now (c.loop-left.left - 1) (get_or c.args.order.now (c.loop-left.left - 1) 0) (omega arith) refl c.requires.behind

pub renumbered-requires : goal.renumbered-requires
renumbered-requires c =
    let some = c.loop-left-test.true in
    let within = c.loop-left.invariant.within in
    let at = c.loop-left.left - 1 in
    let lt : at < length c.args.order.now = omega arith in
    let low = All-get_or (λ k. k < length c.args.numbers.now) c.args.order.now at 0 lt c.requires.below in
    children (get_or c.args.order.now at 0) (length c.args.numbers.now) (omega arith) c.node.result.now c.node.ensures.below

pub add-requires : goal.add-requires
add-requires c =
    let some = c.loop-left-test.true in
    let within = c.loop-left.invariant.within in
    let g = number_in c.args.numbers.now in
    let at = c.loop-left.left - 1 in
    let next : c.loop-left.left ≡ at + 1 = omega arith in
    parts_made c.args.old.now g c.args.order.now c.loop-left.nodes at (get_or c.args.order.now at 0) c.node.result.now c.in_ok-node.node (omega arith) refl c.node.ensures.there c.in_ok-node.ensures c.requires.behind c.requires.falling
    (subst (λ z. Moved c.args.old.now g c.args.order.now z c.loop-left.nodes) next c.loop-left.invariant)

pub loop-left-preserved : goal.loop-left-preserved
loop-left-preserved c =
    let some = c.loop-left-test.true in
    let within = c.loop-left.invariant.within in
    let g = number_in c.args.numbers.now in
    let at = c.loop-left.left - 1 in
    let next : c.loop-left.left ≡ at + 1 = omega arith in
    moved_more c.args.old.now g c.args.order.now c.loop-left.nodes c.add.new.self at (get_or c.args.order.now at 0) c.node.result.now c.in_ok-node.node (omega arith) refl c.node.ensures.there c.in_ok-node.ensures c.in_ok-add.ensures.added
    (subst (λ z. Moved c.args.old.now g c.args.order.now z c.loop-left.nodes) next c.loop-left.invariant)

pub returns-clause-moves : goal.returns-clause-moves
returns-clause-moves c =
    let done = c.loop-left-test.false in
    moved_all c.args.old.now (number_in c.args.numbers.now) c.args.order.now c.loop-left.nodes c.loop-left.left (omega arith) c.requires.falling c.loop-left.invariant

pub returns-clause-length : goal.returns-clause-length
returns-clause-length c =
    let done = c.loop-left-test.false in
    moved_length c.args.old.now (number_in c.args.numbers.now) c.args.order.now c.loop-left.nodes c.loop-left.left (omega arith) c.loop-left.invariant

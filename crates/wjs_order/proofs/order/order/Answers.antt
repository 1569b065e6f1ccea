use Rattle.std.proofs.Common.{ℕ, ◌-◌, ◌<◌, List, [], ◌∷◌, ◌++◌, length, sym, ap, subst, ◌∙◌, arith, length-append}
use Rattle.wjs_tree.specs.Parts.{parts_of}
use Rattle.wjs_order.proofs.Taking.{Taking, begins, there, goes_on, fewer, ends}
use Rattle.wjs_order.proofs.order.order.Goals as goal

pub walk-init : goal.walk-init
walk-init c =
    subst (λ (z : List ℕ). Taking c.args.nodes.now c.args.body z c.push_parts.new.stack) (sym c.new-order.ensures.items)
    (begins c.args.nodes.now c.args.body c.node.result.now c.push_parts.new.stack c.requires c.node.ensures.there c.node.ensures.below (c.in_ok-push_parts.ensures ∙ ap (λ z. parts_of c.node.result.now ++ z) c.new-stack.ensures))

pub node-requires-in-Some : goal.node-requires-in-Some
node-requires-in-Some c = there c.args.nodes.now c.args.body c.walk.order.items c.in-Some.id c.pop.new.self c.walk.stack c.in-Some.ensures c.walk.invariant

pub walk-smaller : goal.walk-smaller
walk-smaller c =
    let room = fewer c.args.nodes.now c.args.body c.walk.order.items c.in-Some.id c.pop.new.self c.walk.stack c.in-Some.ensures c.walk.invariant in
    let long = ap length c.in_ok-push.ensures.items in
    let less : c.args.body.0 - length c.push.new.self.items < c.args.body.0 - length c.walk.order.items = omega (arith, length-append c.walk.order.items (c.in-Some.id.0 ∷ [])) in
    less

pub walk-preserved : goal.walk-preserved
walk-preserved c =
    subst (λ (z : List ℕ). Taking c.args.nodes.now c.args.body z c.push_parts-in-Some.new.stack) (sym c.in_ok-push.ensures.items)
    (goes_on c.args.nodes.now c.args.body c.walk.order.items c.in-Some.id c.pop.new.self c.walk.stack c.in-Some.ensures c.walk.invariant c.node-in-Some.result.now c.push_parts-in-Some.new.stack c.node-in-Some.ensures.there c.node-in-Some.ensures.below c.in_ok-push_parts-2.ensures)

pub returns-clause-same : goal.returns-clause-same
returns-clause-same c = ends c.args.nodes.now c.args.body c.walk.order.items c.walk.stack c.in_default.ensures.0 c.walk.invariant

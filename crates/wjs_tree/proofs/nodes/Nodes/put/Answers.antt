use Rattle.std.proofs.Common.{◌+◌, ◌≤◌, List, length, sym, subst}
use Rattle.wjs_tree.specs.declared.facts.Facts.{Facts}
use Rattle.wjs_tree.specs.Children.{ChildrenBelow}
use Rattle.wjs_tree.specs.Facts.{IsLow, AreFacts}
use Rattle.wjs_tree.proofs.Adding.{low, added}
use Rattle.wjs_tree.proofs.nodes.Nodes.put.Goals as goal

pub facts_of-facts-requires-clause-low : goal.facts_of-facts-requires-clause-low
facts_of-facts-requires-clause-low c =
    subst IsLow (sym c.as_slice.ensures.value) (low c.self.inside.list.items c.self.inside.facts.items c.self.invariant)

pub invariant_of-self-in-Ok : goal.invariant_of-self-in-Ok
invariant_of-self-in-Ok c =
    let value = c.as_slice.ensures.value in
    let below : ChildrenBelow (length c.self.inside.list.items) c.args.node = subst (λ z. ChildrenBelow (length z) c.args.node) (sym c.self.view_is) c.requires in
    let right : AreFacts c.self.inside.facts.items c.args.node c.facts_of-facts.result = subst (λ (z : List Facts). AreFacts z c.args.node c.facts_of-facts.result) value c.facts_of-facts.ensures.right in
    let small : c.facts_of-facts.result.height ≤ length c.self.inside.facts.items + 1 = subst (λ (z : List Facts). c.facts_of-facts.result.height ≤ length z + 1) value c.facts_of-facts.ensures.low in
    rw (c.in-Ok.ensures.items, c.in_ok-push.ensures.items)
    (added c.self.inside.list.items c.self.inside.facts.items c.self.invariant c.args.node c.facts_of-facts.result below right small)

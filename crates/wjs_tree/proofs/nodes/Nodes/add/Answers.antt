use Rattle.wjs_tree.proofs.Adding.{keeps_added}
use Rattle.wjs_tree.proofs.nodes.Nodes.add.Goals as goal
use Rattle.wjs_base.proofs.Lists.{get_last}

pub returns-clause-has : goal.returns-clause-has
returns-clause-has c =
    let e = c.in_ok-id.ensures in
    rw (e.added, e.ok) (get_last c.args.self.now c.args.node)

pub returns-clause-keeps : goal.returns-clause-keeps
returns-clause-keeps c = rw c.in_ok-id.ensures.added (keeps_added c.args.self.now c.args.node)

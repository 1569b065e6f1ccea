use Rattle.std.proofs.Common.{◌==◌, cond, Some, ◌∙◌}
use Rattle.std.specs.FinMap as map
use Rattle.wjs_arena.proofs.WorldsByOwner.{changed, in_tree}
use Rattle.wjs_arena.proofs.worlds.Worlds.put.Goals as goal

pub returns-clause-ok : goal.returns-clause-ok
returns-clause-ok c = λ w.
    changed (λ tree. tree.entries) c.self.inside.owners.entries c.insert.new.self.entries c.args.owner (Some c.args.tree) (λ q. c.in_ok-insert.ensures.updates.0 q) w
    ∙ (λ i. cond (w.owner == c.args.owner) (in_tree c.args.tree w i) (map.get (c.self.view_is i) w))

use Rattle.std.proofs.Common.{◌==◌, cond, Some, None, sym, ap, ◌∙◌}
use Rattle.std.specs.FinMap as map
use Rattle.wjs_base.specs.Order.{world_cmp}
use Rattle.wjs_arena.proofs.WorldsByOwner.{changed, of_owner, none_if, in_tree}
use Rattle.wjs_arena.proofs.worlds.Worlds.take.Goals as goal

pub returns-in-Some-clause-taken : goal.returns-in-Some-clause-taken
returns-in-Some-clause-taken c = λ w o.
    sym (in_tree c.in-Some.tree w)
    ∙ of_owner (λ tree. tree.entries) c.self.inside.owners.entries c.args.owner (Some c.in-Some.tree) (sym c.remove.ensures.value ∙ c.in-Some.is) w o
    ∙ ap (λ m. map.get m w) c.self.view_is

pub returns-in-Some-clause-left : goal.returns-in-Some-clause-left
returns-in-Some-clause-left c = λ w.
    changed (λ tree. tree.entries) c.self.inside.owners.entries c.remove.new.self.entries c.args.owner None (λ q. c.remove.ensures.updates.0 q) w
    ∙ ap (λ m. cond (w.owner == c.args.owner) None (map.get m w)) c.self.view_is

pub returns-clause-taken : goal.returns-clause-taken
returns-clause-taken c = λ w o.
    sym (in_tree c.new.result w)
    ∙ ap (map.find world_cmp w) c.new.ensures.empty
    ∙ of_owner (λ tree. tree.entries) c.self.inside.owners.entries c.args.owner None (sym c.remove.ensures.value ∙ none_if c.remove.result c.in_default.not-Some) w o
    ∙ ap (λ m. map.get m w) c.self.view_is

pub returns-clause-left : goal.returns-clause-left
returns-clause-left c = λ w.
    changed (λ tree. tree.entries) c.self.inside.owners.entries c.remove.new.self.entries c.args.owner None (λ q. c.remove.ensures.updates.0 q) w
    ∙ ap (λ m. cond (w.owner == c.args.owner) None (map.get m w)) c.self.view_is

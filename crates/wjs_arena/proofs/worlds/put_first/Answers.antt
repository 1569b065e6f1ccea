use Rattle.std.proofs.Common.{cond, Some, ap, ◌∙◌}
use Rattle.std.specs.Map.{lookup}
use Rattle.std.specs.BTreeMap.{is_at}
use Rattle.wjs_base.specs.Order.{world_cmp}
use Rattle.wjs_arena.proofs.worlds.put_first.Goals as goal

pub returns-clause-ok : goal.returns-clause-ok
returns-clause-ok c = (
  c.insert.new.self,
  λ q. c.in_ok-insert.ensures.updates.0 q ∙ ap (λ es. cond (is_at (world_cmp c.args.world) q) (Some c.args.object) (lookup (is_at (world_cmp q)) es)) c.new-tree.ensures.empty,
  λ q. c.in_ok-insert-2.ensures.updates.0 q,
)

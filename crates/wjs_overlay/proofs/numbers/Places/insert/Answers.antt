use Rattle.std.proofs.Common.{ap, ◌∙◌}
use Rattle.std.specs.FinMap as map
use Rattle.wjs_base.specs.Order.{world_total, world_exact}
use Rattle.wjs_base.proofs.Trees.{insert_tree}
use Rattle.wjs_overlay.proofs.numbers.Places.insert.Goals as goal

pub returns : goal.returns
returns c =
    let h = c.in_ok-insert.ensures.updates in
    record { ok = insert_tree world_total world_exact c.self.inside.tree c.insert.new.self c.args.world c.args.place h.0 ∙ ap (λ m. map.insert m c.args.world c.args.place) c.self.view_is }

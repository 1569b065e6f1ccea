use Rattle.std.proofs.Common.{ap, ◌∙◌}
use Rattle.std.specs.FinMap as map
use Rattle.wjs_base.specs.Order.{obj_total, obj_exact}
use Rattle.wjs_base.proofs.Trees.{insert_tree}
use Rattle.wjs_full.proofs.maps.ObjSet.insert.Goals as goal

pub returns : goal.returns
returns c =
    let h = c.in_ok-insert.ensures.updates in
    record { ok = insert_tree obj_total obj_exact c.self.inside.tree c.insert.new.self c.args.object tt h.0 ∙ ap (λ m. map.insert m c.args.object tt) c.self.view_is }

use Rattle.std.proofs.Common.{ap, ◌∙◌}
use Rattle.std.specs.FinMap as map
use Rattle.wjs_base.specs.Order.{obj_total, obj_exact}
use Rattle.wjs_layers.proofs.Lists.{insert_list}
use Rattle.wjs_layers.proofs.maps.ObjectSet.insert.Goals as goal

pub returns-clause-ok : goal.returns-clause-ok
returns-clause-ok g c =
    let h = c.in_ok-set.ensures.at in
    insert_list obj_total obj_exact c.self.inside.rows c.set.new.self c.args.object tt h ∙ ap (λ m. map.insert m c.args.object tt) c.self.view_is

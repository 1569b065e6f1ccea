use Rattle.std.proofs.Common.{ap, ◌∙◌}
use Rattle.std.specs.FinMap as map
use Rattle.wjs_base.specs.Order.{slot_total, slot_exact}
use Rattle.wjs_base.proofs.Trees.{insert_tree}
use Rattle.wjs_full.proofs.maps.SlotMap.insert.Goals as goal

pub returns : goal.returns
returns g c =
    let h = c.in_ok-insert.ensures.updates in
    record { ok = insert_tree slot_total slot_exact c.self.inside.tree c.insert.new.self c.args.slot c.args.value h.0 ∙ ap (λ m. map.insert m c.args.slot c.args.value) c.self.view_is }
